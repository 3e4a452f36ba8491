-- What an iterator chain over the range `0..n` gives, said by the definitions of `specs/Counting.antt` and
-- `specs/Cyclic.antt`. A lemma takes the clauses of the chain's calls, and for each closure what it answers, which
-- `λ x r q k. search (rules, tests)` proves where the closure calls a function that ensures `result ≡ h x`.
use Rattle.std.proofs.Common.{◌≡◌, ℕ, zero, suc, ◌+◌, ◌-◌, ◌/◌, ◌%◌, ◌<◌, ◌≤◌, max, unwrap_or, arith}
use Rattle.std.proofs.Common.{Bool, true, false, cond, ◌&&◌, ◌||◌, ltb, List, [], ◌∷◌, ◌++◌, map, length}
use Rattle.std.proofs.Common.{sym, refl, ap, ap₂, ◌∙◌, add-zero, mod-eq_of_lt, length-append}
use Rattle.std.proofs.Common.{lt-ltb, le-ltb, ltb-true, ltb-false}
use native.Mathlib.Nat.{add-mod_right}
use mathlib.Core.List.{map-append}
use denote.Param.Members.{Mut}
use denote.Ref.{Bor}
use Rattle.std.specs.declared.ops.Range.{Range}
use Rattle.std.specs.declared.iter.Filter.{Filter}
use Rattle.std.specs.declared.iter.Map.{Map}
use Rattle.std.specs.declared.iter.Chain.{Chain}
use Rattle.std.specs.declared.option.Option.{Option}
use Rattle.std.specs.declared.option.Option.TheVariants.{None, Some}
use Rattle.std.specs.Option.{MatchOption, option_or}
use Rattle.std.specs.Ordering.{nat_cmp, max_by_ordering}
use Rattle.std.specs.Fn.{Called, CalledAt}
use Rattle.std.specs.List.{range_with_len, list_any, list_all, filter, find, reduce, fold}
use Rattle.std.specs.Iterator.{ChecksAny, ChecksAll, FindsItem, FoldsItems, Drains, PicksByCmp}
use Rattle.std.specs.Iterator.Runs.{EachRunFrom}
use Rattle.std.specs.Iterator.Adapters.{map_steps, map_source, map_callee, filter_steps, filter_source, filter_callee}
use Rattle.std.specs.Iterator.Adapters.{chain_steps, chain_first, chain_second, chain_first_done, chain_second_done}
use Rattle.std.proofs.iter.Yields.{nat_range_steps}
use Rattle.std.proofs.lemmas.List.Elements.{filter-append}
use Rattle.std.proofs.lemmas.List.Folds.{find-append, list_any-append, list_all-append}
use Rattle.std.proofs.lemmas.List.FromFn.{length-range_with_len}
use Rattle.std.proofs.lemmas.List.Sums.{fold-append}
use Rattle.std.proofs.lemmas.Iterator.{YieldsList, YieldsList-from_range, YieldsList-from_map, first_from_Range}
use Rattle.std.proofs.lemmas.Iterator.Adapters.{option_map_id, at_most_from_yields_List, fits_from_length}
use Rattle.std.proofs.lemmas.Iterator.Consumers.{YieldsList-from_chain, YieldsList-from_filter, max_from_yields_List}
use Rattle.std.proofs.lemmas.Iterator.Consumers.{count_from_yields_List, sum_from_yields_List, fold_from_yields_List}
use Rattle.std.proofs.lemmas.Iterator.Search.{find_from_yields_List, any_from_yields_List, all_from_yields_List}
use Rattle.counting.specs.Counting.{every, sum, one, count, exists, first_or, first}
use Rattle.counting.specs.Cyclic.{node_after, test_after, first_after}
use Rattle.counting.proofs.Laws.Tests.{by_cases}
use Rattle.counting.proofs.Laws.First.{first_none, first_found, first_le}

-- ---- the numbers of a range

-- `0..n`
abbrev pub to : ℕ → Range ℕ
to n = record { start = 0; end = n }

-- the numbers below n
abbrev pub numbers : ℕ → List ℕ
numbers n = range_with_len 0 n

-- of one more number, that one stands last
one_more : (a n : ℕ) {m : ℕ} → a + n ≡ m → range_with_len a (suc n) ≡ range_with_len a n ++ m ∷ []
one_more a zero e = ap (λ k. k ∷ []) (omega arith)
one_more a (suc n) e = ap {B = List ℕ} (λ l. a ∷ l) (one_more (a + 1) n (omega arith))

-- the same below n
last_is : (n : ℕ) → numbers (suc n) ≡ numbers n ++ n ∷ []
last_is n = one_more 0 n (omega arith)

-- the range gives them
range_is : {s : Range ℕ} (n : ℕ) → s ≡ to n → YieldsList nat_range_steps (λ x. x) s (numbers n)
range_is n e = YieldsList-from_range 0 n n e (omega arith)

-- ---- what a closure answers of its items

-- at each number the closure is asked by value: it stays as it is, and answers as h does
abbrev pub Answers : {F R : Type 0} → Mut F (ℕ × Unit {0}) R → F → (ℕ → R) → Type 0
Answers {F} {R} g f h = (x : ℕ) (r : R) (q : F) → Called g f (x, tt) r q → (q ≡ f) × (r ≡ h x)

-- the same of one that is asked by reference, as by `filter` and `find`
abbrev pub AnswersAt : {F : Type 0} → Mut F (Bor ℕ × Unit {0}) Bool → F → (ℕ → Bool) → Type 0
AnswersAt {F} g f p = (x : ℕ) (b : Bool) (q : F) → CalledAt g f x b q → (q ≡ f) × (b ≡ p x)

-- ---- `any` and `all`

or_no : (b : Bool) → (b || false) ≡ b
or_no true = refl
or_no false = refl

and_yes : (b : Bool) → (b && true) ≡ b
and_yes true = refl
and_yes false = refl

any_is : (p : ℕ → Bool) (n : ℕ) → list_any p (numbers n) ≡ exists p n
unfolding exists
any_is p zero = refl
any_is p (suc n) =
    ap (list_any p) (last_is n) ∙ list_any-append p (numbers n) (n ∷ []) ∙ ap₂ ◌||◌ (any_is p n) (or_no (p n))

all_is : (p : ℕ → Bool) (n : ℕ) → list_all p (numbers n) ≡ every p n
unfolding every
all_is p zero = refl
all_is p (suc n) =
    ap (list_all p) (last_is n) ∙ list_all-append p (numbers n) (n ∷ []) ∙ ap₂ ◌&&◌ (all_is p n) (and_yes (p n))

module _ {F : Type 0} {g : Mut F (ℕ × Unit {0}) Bool} (p : ℕ → Bool) {n : ℕ} {u : Range ℕ} {f : F} {r : Bool} where
  -- `(0..n).any(test)`
  pub any_below : ChecksAny nat_range_steps g (to n) f r u → Answers g f p → r ≡ exists p n
  any_below ran k = any_from_yields_List p u f r ran (range_is n refl) k ∙ any_is p n

  -- `(0..n).all(test)`
  pub all_below : ChecksAll nat_range_steps g (to n) f r u → Answers g f p → r ≡ every p n
  all_below ran k = all_from_yields_List p u f r ran (range_is n refl) k ∙ all_is p n

-- ---- `find`

-- `(0..n).find(test).unwrap_or(n)`
pub find_below :
    {F : Type 0} {g : Mut F (Bor ℕ × Unit {0}) Bool} (p : ℕ → Bool) {n : ℕ} (u : Range ℕ) {f : F} (r : Option ℕ)
    → FindsItem nat_range_steps g (to n) f r u → AnswersAt g f p → unwrap_or r n ≡ first p n
find_below p {n} u {f} r ran k =
    is r (first_from_Range (to n) u f r Yes No ran (λ x q c. (k x true q c).1) (λ x q c. k x false q c))
  where
    Yes : ℕ → Type 0
    Yes x = true ≡ p x

    No : ℕ → Type 0
    No x = false ≡ p x

    none : (i : ℕ) → ((k : ℕ) → 0 ≤ k → k < i → No k) → first p i ≡ i
    none i h = first_none p i (λ k l. sym (h k (omega arith) l))

    is :
        (o : Option ℕ) → MatchOption o ((k : ℕ) → 0 ≤ k → k < n → No k)
        (λ i. (0 ≤ i) × (i < n) × Yes i × ((k : ℕ) → 0 ≤ k → k < i → No k)) → unwrap_or o n ≡ first p n
    is None h = sym (none n h)
    is (Some i) h = sym (first_found p i n (none i h.3) (sym h.2) h.1)

-- ---- `filter`, then `count`

count_is : (p : ℕ → Bool) (n : ℕ) → length (filter p (numbers n)) ≡ count p n
unfolding count
count_is p zero = refl
count_is p (suc n) =
    ap (λ l. length (filter p l)) (last_is n) ∙ ap length (filter-append p (numbers n) (n ∷ []))
    ∙ length-append (filter p (numbers n)) (filter p (n ∷ [])) ∙ ap₂ ◌+◌ (count_is p n) (last (p n))
  where
    last : (b : Bool) → length (cond b (n ∷ []) []) ≡ one b
    last true = refl
    last false = refl

-- `(0..n).filter(test).count()`
pub count_below :
    {F : Type 0} {g : Mut F (Bor ℕ × Unit {0}) Bool} (p : ℕ → Bool) {n : ℕ} {s : Filter (Range ℕ) F} {f : F} {r : ℕ}
    → (xs : List ℕ) × Drains (filter_steps nat_range_steps g) s xs × (r ≡ length xs)
    → filter_source s ≡ to n → filter_callee s ≡ f → AnswersAt g f p → r ≡ count p n
count_below {g = g} p {n} {s} {r = r} ran from at k =
    count_from_yields_List s r ran (YieldsList-from_filter g p (range_is n from) at k) ∙ count_is p n

-- ---- `map`, then `sum`, `fold`, `max` or `find`

-- a fold over what h gives of the numbers, where `total k` is what the first k of them come to
fold_is :
    {C : Type 0} (step : C → ℕ → C) (h : ℕ → ℕ) (total : ℕ → C) → ((k : ℕ) → total (suc k) ≡ step (total k) (h k))
    → (n : ℕ) {init : C} → init ≡ total 0 → fold step init (map h (numbers n)) ≡ total n
fold_is step h total t zero e = e
fold_is step h total t (suc n) {init} e =
    ap (λ l. fold step init (map h l)) (last_is n) ∙ ap (fold step init) (map-append h (numbers n) (n ∷ []))
    ∙ fold-append step init (map h (numbers n)) (h n ∷ []) ∙ ap (λ a. step a (h n)) (fold_is step h total t n e)
    ∙ sym (t n)

sum_zero : (h : ℕ → ℕ) → 0 ≡ sum h 0
unfolding sum
sum_zero h = refl

sum_more : (h : ℕ → ℕ) (k : ℕ) → sum h (suc k) ≡ sum h k + h k
unfolding sum
sum_more h k = refl

-- the largest of a list, or 0
max_is : (xs : List ℕ) → unwrap_or (reduce max xs) 0 ≡ fold max 0 xs
max_is [] = refl
max_is (x ∷ xs) = ap (λ a. fold max a xs) (omega arith)

or_else : (b : Bool) (x d : ℕ) → unwrap_or (cond b (Some x) None) d ≡ cond b x d
or_else true x d = refl
or_else false x d = refl

-- what h gives of number k, if that is below n
abbrev found : (ℕ → ℕ) → ℕ → ℕ → Option ℕ
found h n k = cond (ltb k n) (Some (h k)) None

find_is : (t : ℕ → Bool) (h : ℕ → ℕ) (n : ℕ) → find t (map h (numbers n)) ≡ found h n (first (λ i. t (h i)) n)
unfolding first first_or
find_is t h zero = refl
find_is t h (suc n) =
    ap (λ l. find t (map h l)) (last_is n) ∙ ap (find t) (map-append h (numbers n) (n ∷ []))
    ∙ find-append t (map h (numbers n)) (h n ∷ []) ∙ ap (λ o. option_or o last) (find_is t h n)
    ∙ by_cases (ltb k n) earlier later
  where
    k : ℕ
    k = first (λ i. t (h i)) n

    last : Option ℕ
    last = find t (h n ∷ [])

    earlier : ltb k n ≡ true → option_or (found h n k) last ≡ found h (suc n) (first (λ i. t (h i)) (suc n))
    earlier e = rw (e, lt-ltb k (suc n) (omega (arith, ltb-true k n e))) refl

    later : ltb k n ≡ false → option_or (found h n k) last ≡ found h (suc n) (first (λ i. t (h i)) (suc n))
    later e =
        by_cases (t (h n))
        (λ y. rw (e, y, lt-ltb n (suc n) (omega arith)) refl)
        (λ y. rw (e, y, le-ltb (suc n) (suc n) (omega arith)) refl)

module _ {F : Type 0} {g : Mut F (ℕ × Unit {0}) ℕ} {n : ℕ} {s : Map (Range ℕ) F} {f : F} where
  -- what `(0..n).map(f)` gives
  pub mapped_below :
      (h : ℕ → ℕ) → map_source s ≡ to n → map_callee s ≡ f → Answers g f h
      → YieldsList (map_steps nat_range_steps g) (λ r. r) s (map h (numbers n))
  mapped_below h from at k = YieldsList-from_map g h (range_is n from) at k

  -- `(0..n).map(f).sum()`
  pub sum_below :
      (h : ℕ → ℕ) {r : ℕ}
      → (xs : List ℕ) × (Unit {0} → Drains (map_steps nat_range_steps g) s xs) × (r ≡ fold (λ a x. a + x) 0 xs)
      → map_source s ≡ to n → map_callee s ≡ f → Answers g f h → r ≡ sum h n
  sum_below h {r} ran from at k =
      sum_from_yields_List s r ran (mapped_below h from at k)
      ∙ fold_is (λ a x. a + x) h (sum h) (sum_more h) n (sum_zero h)

  -- that sum fits: it is of at most m numbers, and each is at most (top - 1) / m
  pub fits_below :
      (m : ℕ) {top : ℕ} → n ≤ m → map_source s ≡ to n → map_callee s ≡ f → 0 < top
      → ((x r : ℕ) (q : F) → Called g f (x, tt) r q → (q ≡ f) × (r ≤ (top - 1) / m))
      → EachRunFrom (map_steps nat_range_steps g) s (λ p. fold (λ a x. a + x) 0 p.items < top)
  fits_below m {top} l from at z k =
      let long = length-range_with_len 0 n in
      fits_from_length g f m top (at_most_from_yields_List (range_is n from) (omega (arith, long))) at z k

  -- `(0..n).map(f).fold(init, step)`: `total k` is what the first k numbers come to
  pub fold_below :
      {C G : Type 0} {gs : Mut G (C × (ℕ × Unit {0})) C} {j : G} {init r : C} (h : ℕ → ℕ) (step : C → ℕ → C)
      (total : ℕ → C) → init ≡ total 0 → ((k : ℕ) → total (suc k) ≡ step (total k) (h k))
      → FoldsItems (map_steps nat_range_steps g) gs s j init r → map_source s ≡ to n → map_callee s ≡ f → Answers g f h
      → ((a : C) (x : ℕ) (b : C) (q : G) → Called gs j (a, (x, tt)) b q → (q ≡ j) × (b ≡ step a x)) → r ≡ total n
  fold_below {gs = gs} {init = init} {r = r} h step total e t ran from at k m =
      fold_from_yields_List gs step init r ran (mapped_below h from at k) m ∙ fold_is step h total t n e

  -- `(0..n).map(f).max().unwrap_or(0)`: `total k` is the largest that f gives of the first k numbers, or 0
  pub max_below :
      (h : ℕ → ℕ) (total : ℕ → ℕ) (r : Option ℕ) → 0 ≡ total 0 → ((k : ℕ) → total (suc k) ≡ max (total k) (h k))
      → PicksByCmp (map_steps nat_range_steps g) max_by_ordering nat_cmp s r → map_source s ≡ to n
      → map_callee s ≡ f → Answers g f h → unwrap_or r 0 ≡ total n
  max_below h total r e t ran from at k =
      ap (λ o. unwrap_or o 0) (sym (option_map_id r) ∙ max_from_yields_List s r ran (mapped_below h from at k))
      ∙ max_is (map h (numbers n)) ∙ fold_is max h total t n e

  -- `(0..n).map(f).find(test).unwrap_or(d)`
  pub mapped_find_below :
      {G : Type 0} {gt : Mut G (Bor ℕ × Unit {0}) Bool} (t : ℕ → Bool) (h : ℕ → ℕ) (d : ℕ) (u : Map (Range ℕ) F)
      {j : G} (r : Option ℕ)
      → FindsItem (map_steps nat_range_steps g) gt s j r u → map_source s ≡ to n → map_callee s ≡ f
      → Answers g f h → AnswersAt gt j t
      → unwrap_or r d ≡ cond (ltb (first (λ i. t (h i)) n) n) (h (first (λ i. t (h i)) n)) d
  mapped_find_below t h d u {j} r ran from at k m =
      ap (λ o. unwrap_or o d)
      (sym (option_map_id r) ∙ find_from_yields_List t u j r ran (mapped_below h from at k) m ∙ find_is t h n)
      ∙ or_else (ltb (first (λ i. t (h i)) n) n) _ d

-- ---- once round: the nodes above a node, then those below it

-- what f gives of the numbers from a on, where that counts up from b
counts_up :
    (f : ℕ → ℕ) (a b n : ℕ) → ((i : ℕ) → i < n → f (a + i) ≡ b + i)
    → map f (range_with_len a n) ≡ range_with_len b n
counts_up f a b zero e = refl
counts_up f a b (suc n) e =
    ap₂ {A = ℕ} {B = List ℕ} ◌∷◌ (ap f (omega arith) ∙ e 0 (omega arith) ∙ add-zero b)
    (counts_up f (a + 1) (b + 1) n (λ i l. ap f (omega arith) ∙ e (i + 1) (omega arith) ∙ omega arith))

-- the first m of k numbers, and the others
parted : (a m n : ℕ) {k : ℕ} → m + n ≡ k → range_with_len a k ≡ range_with_len a m ++ range_with_len (a + m) n
parted a zero n e = ap₂ range_with_len (omega arith) (omega arith)
parted a (suc m) n {k = zero} e = absurd (omega arith)
parted a (suc m) n {k = suc k} e =
    ap {B = List ℕ} (λ l. a ∷ l)
    (parted (a + 1) m n (omega arith) ∙ ap (λ b. range_with_len (a + 1) m ++ range_with_len b n) (omega arith))

-- the nodes above n and then those below it are the nodes after n
round_is :
    (N n : ℕ) → n < N → range_with_len (n + 1) (N - (n + 1)) ++ numbers n ≡ map (node_after N n) (numbers (N - 1))
unfolding node_after
round_is N n l =
    let m = N - (n + 1) in
    let above = counts_up (node_after N n) 0 (n + 1) m
    (λ i q. mod-eq_of_lt {n = n + 1 + (0 + i)} {m = N} (omega arith) ∙ omega arith) in
    let under = counts_up (node_after N n) (0 + m) 0 n
    (λ i q. let j : i % N ≡ i = mod-eq_of_lt {n = i} {m = N} (omega arith) in
    ap (λ k. k % N) (omega arith) ∙ add-mod_right i N ∙ j ∙ omega arith) in
    sym (ap (map (node_after N n)) (parted 0 m n (omega arith))
    ∙ map-append (node_after N n) (numbers m) (range_with_len (0 + m) n) ∙ ap₂ ◌++◌ above under)

-- N - 1 steps on from the next node it is n again
all_round : (N n : ℕ) → n < N → node_after N n (N - 1) ≡ n
unfolding node_after
all_round N n l = ap (λ i. i % N) (omega arith) ∙ add-mod_right n N ∙ mod-eq_of_lt {n = n} {m = N} l

after_is :
    (t : ℕ → Bool) (N n k : ℕ) → n < N → first (λ i. t (node_after N n i)) (N - 1) ≡ k
    → cond (ltb k (N - 1)) (node_after N n k) n ≡ first_after t N n
unfolding first_after test_after
after_is t N n k l e =
    by_cases (ltb k (N - 1))
    (λ q. rw (q, lt-ltb n N l, e) refl)
    (λ q. let z : k ≡ N - 1 = omega (arith, e, ltb-false k (N - 1) q, first_le (λ i. t (node_after N n i)) (N - 1)) in
    rw (q, lt-ltb n N l, e, z) (sym (all_round N n l)))

-- no other node is tried after a number that is no node's
pub no_node_after : (t : ℕ → Bool) {N n : ℕ} → N ≤ n → n ≡ first_after t N n
unfolding first_after
no_node_after t {N} {n} h = rw (le-ltb n N h) refl

-- `(n + 1..nodes).chain(0..n).find(test).unwrap_or(n)`
pub find_after :
    {F : Type 0} {gt : Mut F (Bor ℕ × Unit {0}) Bool} (t : ℕ → Bool) {N n : ℕ} {s : Chain (Range ℕ) (Range ℕ)}
    (u : Chain (Range ℕ) (Range ℕ)) {j : F} (r : Option ℕ) → n < N
    → FindsItem (chain_steps nat_range_steps nat_range_steps) gt s j r u
    → chain_first s ≡ record { start = n + 1; end = N } → chain_second s ≡ to n
    → chain_first_done s ≡ false → chain_second_done s ≡ false → AnswersAt gt j t → unwrap_or r n ≡ first_after t N n
find_after t {N} {n} {s} u {j} r l ran above under a b m =
    let first_part = YieldsList-from_range (n + 1) N (N - (n + 1)) above refl in
    ap (λ o. unwrap_or o n)
    (sym (option_map_id r)
    ∙ find_from_yields_List t u j r ran (YieldsList-from_chain first_part (range_is n under) a b) m
    ∙ ap (find t) (round_is N n l) ∙ find_is t (node_after N n) (N - 1))
    ∙ or_else (ltb (first (λ i. t (node_after N n i)) (N - 1)) (N - 1)) _ n ∙ after_is t N n _ l refl
