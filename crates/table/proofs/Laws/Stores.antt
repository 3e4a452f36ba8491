-- The laws of `specs/Stores.antt`.
use Prim.Native.Nat.{ℕ, zero, suc, ◌+◌, ◌-◌, ◌*◌, ◌/◌, ◌%◌, ◌≤◌, ◌<◌}
use mathlib.Core.Path.{◌≡◌, refl, ap, ap₂, sym, ◌∙◌}
use mathlib.Core.Logic.{◌≢◌}
use mathlib.Core.List.{List, [], ◌∷◌, ◌++◌, map, map-append, append-nil, append_assoc}
use native.Mathlib.Nat.{zero-sub, suc-sub-suc, sub-zero, add-zero}
use native.Mathlib.Omega.{arith}
use native.Mathlib.Numerals.{add-one}
use lib.Arith.{digits_div, digits_mod}
use lib.Dec.{lit<}
use lib.ListN.{length, get_or, set, length-set, length-append}
use lib.Seq.{set_out, set-get_or, get_or-set_other}
use Rattle.counting.specs.Counting.{sum}
use Rattle.table.specs.declared.geometry.Geometry.{Geometry}
use Rattle.table.specs.Stores.{Change, state_to, value_to, kept_to, Store, entry_store, part_of, address_of, word_of, after, runs, Stored, written, Wrote}
use Rattle.table.specs.code.Stores.{StoredIn}

-- ---- the encoding: which word, and what is written

pub part_low : (c : Change) → part_of c < 3
part_low (state_to c k) = lit< tt
part_low (value_to x) = lit< tt
part_low (kept_to x) = lit< tt

-- ---- the laws that callers use in place of the definitions

pub after_zero : (g : Geometry) (ss : List Store) (t : List ℕ) → after g zero ss t ≡ t
unfolding after
after_zero g [] t = refl
after_zero g (s ∷ ss) t = refl

pub after_none : (g : Geometry) (left : ℕ) (t : List ℕ) → after g left [] t ≡ t
unfolding after
after_none g zero t = refl
after_none g (suc left) t = refl

pub after_append :
    (g : Geometry) (left : ℕ) (xs ys : List Store) (t : List ℕ)
    → after g left (xs ++ ys) t ≡ after g (left - length xs) ys (after g left xs t)
unfolding after
after_append g zero [] ys t = refl
after_append g zero (x ∷ xs) ys t = rw zero-sub (sym (after_zero g ys t))
after_append g (suc left) [] ys t = rw sub-zero
after_append g (suc left) (x ∷ xs) ys t = rw suc-sub-suc (after_append g left xs ys (set t (address_of g x) (word_of x)))

-- the three ways of `store`: nothing left, past the end, written
pub wrote_cut : (left at word : ℕ) (t : List ℕ) → left ≡ 0 → Wrote left at word t t left
unfolding written
wrote_cut zero at word t h = record { table = refl; rest = refl; size = refl }
wrote_cut (suc left) at word t h = absurd (omega arith)

pub wrote_word : (left at word : ℕ) (t : List ℕ) → (left ≡ 0 → ⊥) → Wrote left at word t (set t at word) (left - 1)
unfolding written
wrote_word zero at word t h = absurd (h refl)
wrote_word (suc left) at word t h = record { table = refl; rest = refl; size = length-set t at word }

pub wrote_past : (left at word : ℕ) (t : List ℕ) → (left ≡ 0 → ⊥) → length t ≤ at → Wrote left at word t t (left - 1)
wrote_past left at word t h k =
    let m = wrote_word left at word t h in
    record { table = sym (set_out t at word k) ∙ m.table; rest = m.rest; size = refl }

-- a word written where and as a store says is that store
pub stored_one :
    (g : Geometry) (s : Store) {left left' at word : ℕ} {t t' : List ℕ} → Wrote left at word t t' left' → at ≡ address_of g s → word ≡ word_of s
    → Stored g left (s ∷ []) t t' left'
unfolding written after
stored_one g s {left} {at = at} {word} {t} w p q = record { table = w.table ∙ one left; rest = w.rest; size = w.size }
  where
    one : (left : ℕ) → written left at word t ≡ after g left (s ∷ []) t
    one zero = refl
    one (suc left) = rw (p, q) (sym (after_none g left (set t (address_of g s) (word_of s))))

pub stored_none : (g : Geometry) (left : ℕ) (t : List ℕ) → Stored g left [] t t left
stored_none g left t = record { table = sym (after_none g left t); rest = omega arith; size = refl }

-- the same list, written otherwise
pub stored_as :
    {g : Geometry} {left left' : ℕ} {ss ss' : List Store} {t t' : List ℕ} → ss ≡ ss' → Stored g left ss' t t' left'
    → Stored g left ss t t' left'
stored_as e s = rw e s

-- one list after the other
pub stored_then :
    {g : Geometry} {left left₁ left₂ : ℕ} {xs ys : List Store} {t t₁ t₂ : List ℕ} → Stored g left xs t t₁ left₁
    → Stored g left₁ ys t₁ t₂ left₂ → Stored g left (xs ++ ys) t t₂ left₂
stored_then {g} {left} {xs = xs} {ys} {t} a b =
    record { table = cc (after_append g left xs ys t); rest = simp length-append (omega arith); size = omega arith }

pub stored_two :
    {g : Geometry} {left left₁ left₂ : ℕ} {x y : Store} {t t₁ t₂ : List ℕ} → Stored g left (x ∷ []) t t₁ left₁ → Stored g left₁ (y ∷ []) t₁ t₂ left₂
    → Stored g left (x ∷ y ∷ []) t t₂ left₂
stored_two a b = stored_then a b

-- three lists of changes in one entry
pub stored_three :
    {g : Geometry} (n b : ℕ) (xs ys zs : List Change) {left left₁ left₂ left₃ : ℕ} {t t₁ t₂ t₃ : List ℕ} → StoredIn g left n b xs t t₁ left₁
    → StoredIn g left₁ n b ys t₁ t₂ left₂ → StoredIn g left₂ n b zs t₂ t₃ left₃ → StoredIn g left n b ((xs ++ ys) ++ zs) t t₃ left₃
stored_three n b xs ys zs a c d =
    stored_as
    (map-append (entry_store n b) (xs ++ ys) zs ∙ ap (λ l. l ++ map (entry_store n b) zs) (map-append (entry_store n b) xs ys))
    (stored_then (stored_then a c) d)

-- a storing loop: before the first turn, one turn more, and at the end
pub loop-starts : (g : Geometry) (f : ℕ → List Store) (left : ℕ) (t : List ℕ) → Stored g left (runs f 0) t t left
unfolding runs
loop-starts g f left t = stored_none g left t

pub loop-turns :
    {g : Geometry} (f : ℕ → List Store) (n : ℕ) {left left₁ left₂ : ℕ} {t t₁ t₂ : List ℕ} → Stored g left (runs f n) t t₁ left₁
    → Stored g left₁ (f n) t₁ t₂ left₂ → Stored g left (runs f (n + 1)) t t₂ left₂
unfolding runs
loop-turns f n a b = rw add-one (stored_then a b)

pub loop-ends :
    {g : Geometry} (f : ℕ → List Store) (n m : ℕ) {left left₁ : ℕ} {t t₁ : List ℕ} → n ≤ m → m ≤ n → Stored g left (runs f n) t t₁ left₁
    → Stored g left (runs f m) t t₁ left₁
loop-ends f n m h k s = let e : n ≡ m = omega arith in rw e at s

-- ---- lists of a loop, as lists

pub runs_ext : (n : ℕ) (f h : ℕ → List Store) → ((i : ℕ) → i < n → f i ≡ h i) → runs f n ≡ runs h n
unfolding runs
runs_ext zero f h e = refl
runs_ext (suc n) f h e = ap₂ ◌++◌ (runs_ext n f h (λ i l. e i (omega arith))) (e n (omega arith))

pub runs_add : (f : ℕ → List Store) (m k : ℕ) → runs f (m + k) ≡ runs f m ++ runs (λ i. f (m + i)) k
unfolding runs
runs_add f m zero = rw (add-zero m) (sym (append-nil (runs f m)))
runs_add f m (suc k) =
    let e : m + suc k ≡ suc (m + k) = omega arith in
    rw e (ap (λ l. l ++ f (m + k)) (runs_add f m k) ∙ append_assoc (runs f m) (runs (λ i. f (m + i)) k) (f (m + k)))

-- two loops, one in the other, are one loop: "by node, then item"
pub nested_flat :
    (f : ℕ → ℕ → List Store) (M N : ℕ) → runs (λ n. runs (f n) M) N ≡ runs (λ k. f (k / M) (k % M)) (N * M)
unfolding runs
nested_flat f M zero = let e : 0 * M ≡ 0 = omega arith in rw e refl
nested_flat f M (suc N) =
    let e : suc N * M ≡ N * M + M = omega arith in
    rw (e, runs_add (λ k. f (k / M) (k % M)) (N * M) M)
    (ap₂ ◌++◌ (nested_flat f M N)
    (runs_ext M (f N) (λ i. f ((N * M + i) / M) ((N * M + i) % M)) (λ i l. rw (digits_div N l, digits_mod N l) refl)))

pub runs_sum : (f : ℕ → List Store) (n : ℕ) → length (runs f n) ≡ sum (λ i. length (f i)) n
unfolding runs sum
runs_sum f zero = refl
runs_sum f (suc n) = omega (arith, length-append (runs f n) (f n), runs_sum f n)

pub runs_length : (f : ℕ → List Store) (c : ℕ) → ((i : ℕ) → length (f i) ≡ c) → (n : ℕ) → length (runs f n) ≡ n * c
unfolding runs
runs_length f c h zero = omega arith
runs_length f c h (suc n) = omega (arith, length-append (runs f n) (f n), runs_length f c h n, h n)

-- ---- what any number of stores leaves

pub after_length : (g : Geometry) (limit : ℕ) (ss : List Store) (t : List ℕ) → length (after g limit ss t) ≡ length t
unfolding after
after_length g zero [] t = refl
after_length g zero (s ∷ ss) t = refl
after_length g (suc limit) [] t = refl
after_length g (suc limit) (s ∷ ss) t = after_length g limit ss (set t (address_of g s) (word_of s)) ∙ length-set t (address_of g s) (word_of s)

-- every store of a list
pub data All (P : Store → Type 0) : List Store → Type 0 where
  none : All P []
  more : {s : Store} {ss : List Store} → P s → All P ss → All P (s ∷ ss)

pub all_then : {P : Store → Type 0} {xs ys : List Store} → All P xs → All P ys → All P (xs ++ ys)
all_then none b = b
all_then (more p a) b = more p (all_then a b)

pub all_runs : {P : Store → Type 0} (f : ℕ → List Store) (n : ℕ) → ((i : ℕ) → i < n → All P (f i)) → All P (runs f n)
unfolding runs
all_runs f zero h = none
all_runs f (suc n) h = all_then (all_runs f n (λ i l. h i (omega arith))) (h n (omega arith))

-- a word that no store is at
pub after_off :
    (g : Geometry) (i limit : ℕ) {ss : List Store} (t : List ℕ) → All (λ s. i ≢ address_of g s) ss → get_or (after g limit ss t) i 0 ≡ get_or t i 0
unfolding after
after_off g i zero t none = refl
after_off g i zero t (more p a) = refl
after_off g i (suc limit) t none = refl
after_off g i (suc limit) t (more {s} p a) =
    after_off g i limit (set t (address_of g s) (word_of s)) a ∙ get_or-set_other t (address_of g s) i (word_of s) 0 p

-- stores of what is there already
pub after_held :
    (g : Geometry) (limit : ℕ) {ss : List Store} (t : List ℕ) → All (λ s. get_or t (address_of g s) 0 ≡ word_of s) ss
    → after g limit ss t ≡ t
unfolding after
after_held g zero t none = refl
after_held g zero t (more p a) = refl
after_held g (suc limit) t none = refl
after_held g (suc limit) t (more {s} p a) =
    let e : set t (address_of g s) (word_of s) ≡ t = ap (set t (address_of g s)) (sym p) ∙ set-get_or t (address_of g s) 0 in
    rw e (after_held g limit t a)
