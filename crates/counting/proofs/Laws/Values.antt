-- The laws of `specs/Values.antt`.
use Rattle.std.proofs.Common.{◌≡◌, ℕ, zero, suc, ◌+◌, ◌<◌, ◌≤◌, Bool, true, false, cond, not, ◌&&◌, eqb, sym, refl, ap, ◌∙◌, ap₂, add-one, arith, eq-eqb, ne_eqb, eqb-true}
use native.Mathlib.Decide.{ℕ_discrete}
use Rattle.counting.proofs.Laws.Tests.{both, and_both, no_both, by_cases}
use Rattle.counting.specs.Counting.{count}
use Rattle.counting.proofs.Laws.Counting.{below, count_zero, none_counted}
use Rattle.counting.specs.Values.{Values, met_of, no_values, values_of}

-- ---- one value more

module _ (s : Values) (x : ℕ) where
  pub met_seen : (met_of s x).seen ≡ true
  met_seen = by_cases s.seen (λ e. rw e refl) (λ e. rw e refl)

  met_equal : (met_of s x).equal ≡ true → s.equal ≡ true
  met_equal h = by_cases s.seen (λ e. (both s.equal (rw e at h)).0) (λ e. rw e at h)

  -- the first stays the first, and the new one equals it
  met_first : s.seen ≡ true → (met_of s x).first ≡ s.first
  met_first e = rw e refl

  met_same : (met_of s x).equal ≡ true → x ≡ (met_of s x).first
  met_same h = by_cases s.seen (λ e. rw e (eqb-true x s.first (both s.equal (rw e at h)).1)) (λ e. rw e refl)

  same_met : s.equal ≡ true → (s.seen ≡ true → s.first ≡ x) → (met_of s x).equal ≡ true
  same_met h k = by_cases s.seen (λ e. rw e (and_both h (eq-eqb x s.first (sym (k e))))) (λ e. rw e h)

  met_first_is : {y : ℕ} → x ≡ y → (s.seen ≡ true → s.first ≡ y) → (met_of s x).first ≡ y
  met_first_is h k = by_cases s.seen (λ e. rw e (k e)) (λ e. rw e h)

-- ---- the values below n, as a loop goes

pub values_none : (p : ℕ → Bool) (f : ℕ → ℕ) → no_values ≡ values_of 0 p f
unfolding values_of
values_none p f = refl

pub values_next : (n : ℕ) (p : ℕ → Bool) (f : ℕ → ℕ) → values_of (n + 1) p f ≡ cond (p n) (met_of (values_of n p f) (f n)) (values_of n p f)
unfolding values_of
values_next n p f = rw add-one

-- none is met from k on
pub values_skip :
    (n k : ℕ) (p : ℕ → Bool) (f : ℕ → ℕ) → k ≤ n → ((j : ℕ) → k ≤ j → j < n → p j ≡ false) → values_of n p f ≡ values_of k p f
unfolding values_of
values_skip zero k p f l h = ap (λ (m : ℕ). values_of m p f) (let e : 0 ≡ k = omega arith in e)
values_skip (suc n) k p f l h = elim (ℕ_discrete k (suc n)) [
  | yes e ↦ ap (λ (m : ℕ). values_of m p f) (sym e)
  | no e ↦ rw (h n (omega arith) (omega arith)) (values_skip n k p f (omega arith) (λ j q r. h j q (omega arith)))
]

-- the first that is met
pub values_lowest :
    (n : ℕ) (p : ℕ → Bool) (f : ℕ → ℕ) → ((j : ℕ) → j < n → p j ≡ false) → p n ≡ true
    → values_of (n + 1) p f ≡ record { seen = true; first = f n; equal = true }
values_lowest n p f h e =
    values_next n p f ∙ ap₂ (λ (q : Bool) (s : Values). cond q (met_of s (f n)) s) e (values_skip n 0 p f (omega arith) (λ j _ l. h j l) ∙ sym (values_none p f))

-- one more after that
pub values_more :
    (n k : ℕ) (p : ℕ → Bool) (f : ℕ → ℕ) → k ≤ n → ((j : ℕ) → k ≤ j → j < n → p j ≡ false) → p n ≡ true → (values_of k p f).seen ≡ true
    → values_of (n + 1) p f ≡ record { seen = true; first = (values_of k p f).first; equal = (values_of k p f).equal && eqb (f n) (values_of k p f).first }
values_more n k p f l h e s =
    values_next n p f ∙ ap₂ (λ (q : Bool) (r : Values). cond q (met_of r (f n)) r) e (values_skip n k p f l h)
    ∙ ap (λ (q : Bool). cond q (record { seen = true; first = (values_of k p f).first; equal = (values_of k p f).equal && eqb (f n) (values_of k p f).first })
    (record { seen = true; first = f n; equal = (values_of k p f).equal })) s

-- ---- one was seen: the test picks one

pub values_seen : (n : ℕ) (p : ℕ → Bool) (f : ℕ → ℕ) (m : ℕ) → m < n → p m ≡ true → (values_of n p f).seen ≡ true
unfolding values_of
values_seen zero p f m l e = absurd (omega arith)
values_seen (suc n) p f m l e = by_cases (p n)
    (λ y. rw y (met_seen (values_of n p f) (f n)))
    (λ y. rw y (below (λ m. p m ≡ true → (values_of n p f).seen ≡ true) l (λ l e. values_seen n p f m l e) (λ t. absurd (no_both t y)) e))

pub values_unseen : (n : ℕ) (p : ℕ → Bool) (f : ℕ → ℕ) → (values_of n p f).seen ≡ false → (m : ℕ) → m < n → p m ≡ false
values_unseen n p f h m l = by_cases (p m) (λ e. absurd (no_both (values_seen n p f m l e) h)) (λ e. e)

pub unseen_values : (n : ℕ) (p : ℕ → Bool) (f : ℕ → ℕ) → ((m : ℕ) → m < n → p m ≡ false) → (values_of n p f).seen ≡ false
unfolding values_of
unseen_values zero p f h = refl
unseen_values (suc n) p f h = rw (h n (omega arith)) (unseen_values n p f (λ m l. h m (omega arith)))

-- as the test counts
pub count_seen : (n : ℕ) (p : ℕ → Bool) (f : ℕ → ℕ) → eqb (count p n) 0 ≡ not (values_of n p f).seen
count_seen n p f = by_cases (values_of n p f).seen
    (λ e. ne_eqb _ _ (λ z. no_both e (unseen_values n p f (none_counted n p z))) ∙ sym (ap not e))
    (λ e. eq-eqb _ _ (count_zero n p (values_unseen n p f e)) ∙ sym (ap not e))

-- ---- other tests and values that agree where the first test holds

pub values_ext :
    (n : ℕ) (p q : ℕ → Bool) (f g : ℕ → ℕ) → ((m : ℕ) → m < n → q m ≡ p m) → ((m : ℕ) → m < n → p m ≡ true → g m ≡ f m)
    → values_of n q g ≡ values_of n p f
unfolding values_of
values_ext zero p q f g h e = refl
values_ext (suc n) p q f g h e =
    let r = values_ext n p q f g (λ m l. h m (omega arith)) (λ m l. e m (omega arith)) in
    by_cases (p n) (λ y. rw (h n (omega arith), y, r, e n (omega arith) y) refl) (λ y. rw (h n (omega arith), y, r) refl)

-- ---- the first of the values, and of what a function makes of them

module _ (p : ℕ → Bool) (f : ℕ → ℕ) where
  pub first_holds : (t : ℕ → Bool) (n : ℕ) → t 0 ≡ true → ((m : ℕ) → m < n → p m ≡ true → t (f m) ≡ true) → t (values_of n p f).first ≡ true
  unfolding values_of
  first_holds t zero z h = z
  first_holds t (suc n) z h =
      let r = first_holds t n z (λ m l. h m (omega arith)) in
      by_cases (p n)
      (λ y. rw y (by_cases (values_of n p f).seen (λ e. rw e r) (λ e. rw e (h n (omega arith) y))))
      (λ y. rw y r)

  module _ (h : ℕ → ℕ) where
    seen_of : (n : ℕ) → (values_of n p (λ k. h (f k))).seen ≡ (values_of n p f).seen
    unfolding values_of
    seen_of zero = refl
    seen_of (suc n) = by_cases (p n)
        (λ y. rw (y, seen_of n) (by_cases (values_of n p f).seen (λ e. rw e refl) (λ e. rw e refl)))
        (λ y. rw y (seen_of n))

    pub first_of : (n : ℕ) → h 0 ≡ 0 → (values_of n p (λ k. h (f k))).first ≡ h (values_of n p f).first
    unfolding values_of
    first_of zero z = sym z
    first_of (suc n) z = by_cases (p n)
        (λ y. rw (y, seen_of n) (by_cases (values_of n p f).seen (λ e. rw e (first_of n z)) (λ e. rw e refl)))
        (λ y. rw y (first_of n z))

-- ---- they are equal: each is the first

pub values_equal : (n : ℕ) (p : ℕ → Bool) (f : ℕ → ℕ) → (values_of n p f).equal ≡ true → (m : ℕ) → m < n → p m ≡ true → f m ≡ (values_of n p f).first
unfolding values_of
values_equal zero p f h m l e = absurd (omega arith)
values_equal (suc n) p f h m l e = by_cases (p n)
    (λ y. let s = values_of n p f in
    let h' : (met_of s (f n)).equal ≡ true = rw y at h in
    rw y (below (λ m. p m ≡ true → f m ≡ (met_of s (f n)).first) l
    (λ l e. values_equal n p f (met_equal s (f n) h') m l e ∙ sym (met_first s (f n) (values_seen n p f m l e)))
    (λ _. met_same s (f n) h') e))
    (λ y. rw y (below (λ m. p m ≡ true → f m ≡ (values_of n p f).first) l (λ l e. values_equal n p f (rw y at h) m l e) (λ t. absurd (no_both t y)) e))

-- each is x: they are equal, and the first is x, if there is one
pub equal_values :
    (n : ℕ) (p : ℕ → Bool) (f : ℕ → ℕ) (x : ℕ) → ((m : ℕ) → m < n → p m ≡ true → f m ≡ x)
    → ((values_of n p f).equal ≡ true) × ((values_of n p f).seen ≡ true → (values_of n p f).first ≡ x)
unfolding values_of
equal_values zero p f x h = (refl, λ z. absurd (no_both z refl))
equal_values (suc n) p f x h = by_cases (p n)
    (λ y. let s = values_of n p f in
    let k = equal_values n p f x (λ m l. h m (omega arith)) in
    let e : f n ≡ x = h n (omega arith) y in
    rw y (same_met s (f n) k.0 (λ z. k.1 z ∙ sym e), λ _. met_first_is s (f n) e k.1))
    (λ y. rw y (equal_values n p f x (λ m l. h m (omega arith))))
