-- The laws of `specs/Counting.antt`.
use Rattle.std.proofs.Common.{◌≡◌, ℕ, zero, suc, ◌+◌, ◌*◌, ◌<◌, ◌≤◌, Bool, true, false, not, ◌&&◌, ◌||◌, sym, refl, ap, ◌∙◌, ap₂, add-one, arith}
use native.Mathlib.Decide.{ℕ_discrete}
use mir.Val.{bool_byte}
use Rattle.counting.proofs.Laws.Tests.{both, and_both, and_mixed, and_no, no_both, by_cases}
use Rattle.counting.specs.Counting.{every, sum, one, count}
use Rattle.counting.specs.code.Counting.{Counted}

-- ---- as a loop goes: nothing yet, and one more

pub every_none : (p : ℕ → Bool) → true ≡ every p 0
unfolding every
every_none p = refl

pub every_next : (p : ℕ → Bool) (n : ℕ) {a b : Bool} → a ≡ every p n → b ≡ p n → (a && b) ≡ every p (n + 1)
unfolding every
every_next p n h e = rw (add-one, h, e)

pub every_ends : (p : ℕ → Bool) {n m : ℕ} {a : Bool} → n ≤ m → m ≤ n → a ≡ every p n → a ≡ every p m
every_ends p h g e = e ∙ ap (λ k. every p k) (omega arith)

-- from the last one down
pub every_back : (p : ℕ → Bool) (n : ℕ) (a : Bool) {m : ℕ} {b : Bool} → m ≡ n + 1 → b ≡ p n → (every p m && a) ≡ (every p n && (b && a))
unfolding every
every_back p n a e h = rw (e, h, add-one) (by_cases (every p n) (λ q. rw q refl) (λ q. rw q refl))

pub every_back_ends : (p : ℕ → Bool) {n : ℕ} (a : Bool) → n ≤ 0 → (every p n && a) ≡ a
unfolding every
every_back_ends p {n} a h = let e : n ≡ 0 = omega arith in rw e refl

pub sum_none : (f : ℕ → ℕ) → 0 ≡ sum f 0
unfolding sum
sum_none f = refl

pub sum_next : (f : ℕ → ℕ) (n : ℕ) {a b : ℕ} → a ≡ sum f n → b ≡ f n → a + b ≡ sum f (n + 1)
unfolding sum
sum_next f n h e = rw (add-one, h, e)

pub count_none : (p : ℕ → Bool) → 0 ≡ count p 0
unfolding count
count_none p = refl

pub count_next : (p : ℕ → Bool) (n : ℕ) → count p (n + 1) ≡ count p n + one (p n)
unfolding count
count_next p n = rw add-one

pub count_turn : (p : ℕ → Bool) (n : ℕ) {a r : ℕ} → a ≡ count p n → Counted (p n) r → a + r ≡ count p (n + 1)
count_turn p n h c = omega (arith, count_next p n, c.is)

-- ---- below suc n: below n, or n itself

pub below : (P : ℕ → Type 0) {n m : ℕ} → m < suc n → (m < n → P m) → P n → P m
below P {n} {m} h f p = elim (ℕ_discrete m n) [ yes e ↦ rw e p | no e ↦ f (omega arith) ]

pub every_at : (n : ℕ) (p : ℕ → Bool) → every p n ≡ true → (m : ℕ) → m < n → p m ≡ true
unfolding every
every_at zero p e m h = absurd (omega arith)
every_at (suc n) p e m h = let k = both (every p n) e in below (λ m. p m ≡ true) h (every_at n p k.0 m) k.1

pub every_all : (n : ℕ) (p : ℕ → Bool) → ((m : ℕ) → m < n → p m ≡ true) → every p n ≡ true
unfolding every
every_all zero p h = refl
every_all (suc n) p h = and_both (every_all n p (λ m l. h m (omega arith))) (h n (omega arith))

pub every_ext : (n : ℕ) (p q : ℕ → Bool) → ((m : ℕ) → m < n → p m ≡ q m) → every p n ≡ every q n
unfolding every
every_ext zero p q h = refl
every_ext (suc n) p q h = ap₂ ◌&&◌ (every_ext n p q (λ m l. h m (omega arith))) (h n (omega arith))

pub every_and : (p q : ℕ → Bool) (n : ℕ) → (every p n && every q n) ≡ every (λ m. p m && q m) n
unfolding every
every_and p q zero = refl
every_and p q (suc n) = and_mixed (every p n) (p n) (every q n) (q n) ∙ ap (λ x. x && (p n && q n)) (every_and p q n)

pub sum_ext : (n : ℕ) (f g : ℕ → ℕ) → ((m : ℕ) → m < n → f m ≡ g m) → sum f n ≡ sum g n
unfolding sum
sum_ext zero f g h = refl
sum_ext (suc n) f g h = omega (arith, sum_ext n f g (λ m l. h m (omega arith)), h n (omega arith))

-- ---- sums

pub sum_le : (n : ℕ) (f h : ℕ → ℕ) → ((i : ℕ) → i < n → f i ≤ h i) → sum f n ≤ sum h n
unfolding sum
sum_le zero f h l = omega arith
sum_le (suc n) f h l = omega (arith, sum_le n f h (λ i k. l i (omega arith)), l n (omega arith))

-- more by at most d, and at one place only
pub sum_one_more :
    (n : ℕ) (f h : ℕ → ℕ) (j d : ℕ) → ((i : ℕ) → i < n → (i ≡ j → ⊥) → f i ≤ h i) → f j ≤ h j + d → sum f n ≤ sum h n + d
unfolding sum
sum_one_more zero f h j d l k = omega arith
sum_one_more (suc n) f h j d l k =
    elim (ℕ_discrete n j) [
      | yes e ↦ (let k' : f n ≤ h n + d = rw e k in omega (arith, sum_le n f h (λ i q. l i (omega arith) (λ (r : i ≡ j). omega arith))))
      | no e ↦ omega (arith, sum_one_more n f h j d (λ i q. l i (omega arith)) k, l n (omega arith) e)
    ]

-- less by at least d at one place, and no more at the others
pub sum_one_less :
    (n : ℕ) (f h : ℕ → ℕ) (j d : ℕ) → j < n → ((i : ℕ) → i < n → (i ≡ j → ⊥) → f i ≤ h i) → f j + d ≤ h j → sum f n + d ≤ sum h n
unfolding sum
sum_one_less zero f h j d k l e = absurd (omega arith)
sum_one_less (suc n) f h j d k l e =
    elim (ℕ_discrete n j) [
      | yes q ↦ (let e' : f n + d ≤ h n = rw q e in omega (arith, sum_le n f h (λ i p. l i (omega arith) (λ (r : i ≡ j). omega arith))))
      | no q ↦ omega (arith, sum_one_less n f h j d (omega arith) (λ i p. l i (omega arith)) e, l n (omega arith) q)
    ]

pub sum_plus : (f h : ℕ → ℕ) (n : ℕ) → sum (λ i. f i + h i) n ≡ sum f n + sum h n
unfolding sum
sum_plus f h zero = refl
sum_plus f h (suc n) = omega (arith, sum_plus f h n)

pub sum_times : (c : ℕ) (f : ℕ → ℕ) (n : ℕ) → sum (λ i. c * f i) n ≡ c * sum f n
unfolding sum
sum_times c f zero = omega arith
sum_times c f (suc n) = omega (arith, sum_times c f n)

-- c each
pub sum_each : (c n : ℕ) → sum (λ i. c) n ≡ n * c
unfolding sum
sum_each c zero = omega arith
sum_each c (suc n) = omega (arith, sum_each c n)

-- two sums, either one first
pub sum_swap : (f : ℕ → ℕ → ℕ) (n m : ℕ) → sum (λ i. sum (f i) m) n ≡ sum (λ j. sum (λ i. f i j) n) m
unfolding sum
sum_swap f zero m = omega (arith, sum_each 0 m)
sum_swap f (suc n) m = omega (arith, sum_swap f n m, sum_plus (λ j. sum (λ i. f i j) n) (f n) m)

pub sum_count : (p : ℕ → Bool) (n : ℕ) → sum (λ i. one (p i)) n ≡ count p n
unfolding sum count
sum_count p zero = refl
sum_count p (suc n) = omega (arith, sum_count p n)

-- ---- counts

-- by rows and by columns
pub count_swap : (p : ℕ → ℕ → Bool) (n m : ℕ) → sum (λ i. count (p i) m) n ≡ sum (λ j. count (λ i. p i j) n) m
count_swap p n m =
    sum_ext n _ _ (λ i _. sym (sum_count (p i) m)) ∙ sum_swap (λ i j. one (p i j)) n m
    ∙ sum_ext m _ _ (λ j _. sum_count (λ i. p i j) n)

pub one_le : (b : Bool) → one b ≤ 1
one_le true = omega arith
one_le false = omega arith

-- tests that count the same are the same
pub one_same : (a b : Bool) → one a ≡ one b → a ≡ b
one_same true true e = refl
one_same true false e = absurd (omega arith)
one_same false true e = absurd (omega arith)
one_same false false e = refl

-- a test as the code counts it
pub bit_counted : (q : Bool) → Counted q (bool_byte q)
bit_counted true = record { is = refl; small = omega arith }
bit_counted false = record { is = refl; small = omega arith }

pub count_le : (n : ℕ) (p : ℕ → Bool) → count p n ≤ n
unfolding count
count_le zero p = omega arith
count_le (suc n) p = omega (arith, count_le n p, one_le (p n))

-- more numbers, no fewer that pass
pub count_up : (m : ℕ) (p : ℕ → Bool) (n : ℕ) → n ≤ m → count p n ≤ count p m
unfolding count
count_up zero p n h = omega (arith, ap (count p) (let e : n ≡ 0 = omega arith in e))
count_up (suc m) p n h = elim (ℕ_discrete n (suc m)) [ yes e ↦ omega (arith, ap (count p) e) | no e ↦ omega (arith, count_up m p n (omega arith)) ]

pub count_ext : (n : ℕ) (p q : ℕ → Bool) → ((m : ℕ) → m < n → p m ≡ q m) → count p n ≡ count q n
unfolding count
count_ext zero p q h = refl
count_ext (suc n) p q h = omega (arith, count_ext n p q (λ m l. h m (omega arith)), ap one (h n (omega arith)))

pub count_zero : (n : ℕ) (p : ℕ → Bool) → ((m : ℕ) → m < n → p m ≡ false) → count p n ≡ 0
unfolding count
count_zero zero p h = refl
count_zero (suc n) p h = omega (arith, count_zero n p (λ m l. h m (omega arith)), ap one (h n (omega arith)))

pub count_some : (n : ℕ) (p : ℕ → Bool) (m : ℕ) → m < n → p m ≡ true → 1 ≤ count p n
unfolding count
count_some zero p m h e = absurd (omega arith)
count_some (suc n) p m h e =
    below (λ m. p m ≡ true → 1 ≤ count p (suc n)) h (λ l e. omega (arith, count_some n p m l e)) (λ e. omega (arith, ap one e)) e

-- those that pass and those that do not
pub count_not : (n : ℕ) (p : ℕ → Bool) → count p n + count (λ m. not (p m)) n ≡ n
unfolding count
count_not zero p = refl
count_not (suc n) p =
    by_cases (p n) (λ e. rw e (omega (arith, count_not n p))) (λ e. rw e (omega (arith, count_not n p)))

pub none_counted : (n : ℕ) (p : ℕ → Bool) → count p n ≡ 0 → (m : ℕ) → m < n → p m ≡ false
none_counted n p h m l = by_cases (p m) (λ e. absurd (omega (arith, count_some n p m l e))) (λ e. e)

-- both tests or one of them, with a third: those of each together
one_both : (a p q : Bool) → one (a && (p || q)) + one (a && (p && q)) ≡ one (a && p) + one (a && q)
one_both true true q = omega arith
one_both true false q = omega arith
one_both false p q = refl

pub count_both :
    (n : ℕ) (a p q : ℕ → Bool)
    → count (λ m. a m && (p m || q m)) n + count (λ m. a m && (p m && q m)) n
    ≡ count (λ m. a m && p m) n + count (λ m. a m && q m) n
unfolding count
count_both zero a p q = refl
count_both (suc n) a p q = omega (arith, count_both n a p q, one_both (a n) (p n) (q n))

pub count_or :
    (n : ℕ) (a p q : ℕ → Bool) → ((m : ℕ) → (p m && q m) ≡ false)
    → count (λ m. a m && (p m || q m)) n ≡ count (λ m. a m && p m) n + count (λ m. a m && q m) n
count_or n a p q h =
    omega (arith, count_both n a p q, count_zero n (λ m. a m && (p m && q m)) (λ m _. and_no (a m) (h m)))

-- a test that implies another counts no more, and as many only where they agree
one_mono : (a b : Bool) → (a ≡ true → b ≡ true) → one a ≤ one b
one_mono true b h = omega (arith, ap one (h refl))
one_mono false b h = omega arith

pub count_mono : (n : ℕ) (p q : ℕ → Bool) → ((m : ℕ) → m < n → p m ≡ true → q m ≡ true) → count p n ≤ count q n
unfolding count
count_mono zero p q h = omega arith
count_mono (suc n) p q h = omega (arith, count_mono n p q (λ m l. h m (omega arith)), one_mono (p n) (q n) (h n (omega arith)))

pub count_tight :
    (n : ℕ) (p q : ℕ → Bool) → ((m : ℕ) → m < n → p m ≡ true → q m ≡ true) → count p n ≡ count q n
    → (m : ℕ) → m < n → q m ≡ true → p m ≡ true
unfolding count
count_tight zero p q h e m l t = absurd (omega arith)
count_tight (suc n) p q h e m l t =
    let low = count_mono n p q (λ m l. h m (omega arith)) in
    let top = one_mono (p n) (q n) (h n (omega arith)) in
    below (λ m. q m ≡ true → p m ≡ true) l (count_tight n p q (λ m l. h m (omega arith)) (omega arith) m)
    (λ t. by_cases (p n) (λ y. y) (λ f. absurd (omega (arith, ap one f, ap one t)))) t

-- ---- the only one

pub record Only (n : ℕ) (p : ℕ → Bool) (m : ℕ) : Type 0 where
  pub within : m < n
  pub holds : p m ≡ true
  pub alone : (k : ℕ) → k < n → p k ≡ true → k ≡ m

pub only : (n : ℕ) (p : ℕ → Bool) → count p n ≡ 1 → (m : ℕ) × Only n p m
unfolding count
only zero p h = absurd (omega arith)
only (suc n) p h = by_cases (p n)
    (λ e. (
      n,
      record {
        within = omega arith;
        holds = e;
        alone = λ k l t. below (λ k. p k ≡ true → k ≡ n) l
            (λ l t. absurd (no_both t (none_counted n p (omega (arith, ap one e)) k l))) (λ _. refl) t;
      },
    ))
    (λ e. let r = only n p (omega (arith, ap one e)) in (
      r.0,
      record {
        within = omega (arith, r.1.within);
        holds = r.1.holds;
        alone = λ k l t. below (λ k. p k ≡ true → k ≡ r.0) l
            (λ l t. r.1.alone k l t) (λ t. absurd (no_both t e)) t;
      },
    ))

pub only_counts : (n : ℕ) (p : ℕ → Bool) (m : ℕ) → Only n p m → count p n ≡ 1
unfolding count
only_counts zero p m o = absurd (omega (arith, o.within))
only_counts (suc n) p m o = by_cases (p n)
    (λ e. omega (
      arith,
      ap one e,
      count_zero n p (λ k l. by_cases (p k)
          (λ t. absurd (omega (arith, o.alone k (omega arith) t, o.alone n (omega arith) e))) (λ f. f)),
    ))
    (λ e. let ne : m ≡ n → ⊥ = λ q. no_both o.holds (ap p q ∙ e) in
    omega (arith, ap one e, only_counts n p m (record { within = omega (arith, o.within, ne); holds = o.holds; alone = λ k l. o.alone k (omega arith) })))

-- one test for another that agrees with it
pub only_same : (n : ℕ) (p q : ℕ → Bool) (m : ℕ) → ((k : ℕ) → k < n → p k ≡ q k) → Only n p m → Only n q m
only_same n p q m h o = record { within = o.within; holds = sym (h m o.within) ∙ o.holds; alone = λ k l t. o.alone k l (h k l ∙ t) }

-- ---- one place is changed

pub sum_change :
    (n : ℕ) (f h : ℕ → ℕ) (k : ℕ) → k < n → ((m : ℕ) → (m ≡ k → ⊥) → h m ≡ f m) → sum h n + f k ≡ sum f n + h k
unfolding sum
sum_change zero f h k l same = absurd (omega arith)
sum_change (suc n) f h k l same = elim (ℕ_discrete k n) [
  | yes e ↦ (let r = sum_ext n h f (λ m l. same m (λ d. omega arith)) in omega (arith, ap f e, ap h e))
  | no e ↦ omega (arith, sum_change n f h k (omega arith) same, same n (λ d. e (sym d)))
]
