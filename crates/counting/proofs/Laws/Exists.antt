-- Whether a test holds of one of 0, 1, .. and n − 1: laws of `exists`.
use Rattle.std.proofs.Common.{◌≡◌, ℕ, zero, suc, ◌+◌, ◌<◌, ◌≤◌, Bool, true, false, ◌||◌, refl, ap, ◌∙◌, add-one, arith}
use Rattle.counting.proofs.Laws.Tests.{by_cases, no_both, or_left, or_right, either}
use Rattle.counting.proofs.Laws.Counting.{below}
use Rattle.counting.specs.Counting.{exists}

-- ---- as a loop goes

pub exists_none : (p : ℕ → Bool) → false ≡ exists p 0
unfolding exists
exists_none p = refl

pub exists_next : (p : ℕ → Bool) (n : ℕ) {a b : Bool} → a ≡ exists p n → b ≡ p n → (a || b) ≡ exists p (n + 1)
unfolding exists
exists_next p n h e = rw (add-one, h, e)

pub exists_ends : (p : ℕ → Bool) {n m : ℕ} {a : Bool} → n ≤ m → m ≤ n → a ≡ exists p n → a ≡ exists p m
exists_ends p h g e = e ∙ ap (λ k. exists p k) (omega arith)

-- ---- what it tells

pub exists_here : (n : ℕ) (p : ℕ → Bool) (m : ℕ) → m < n → p m ≡ true → exists p n ≡ true
unfolding exists
exists_here zero p m h e = absurd (omega arith)
exists_here (suc n) p m h e =
    below (λ m. p m ≡ true → exists p (suc n) ≡ true) h (λ l e. or_left (p n) (exists_here n p m l e)) (λ e. or_right (exists p n) e) e

pub exists_at : (n : ℕ) (p : ℕ → Bool) → exists p n ≡ true → (m : ℕ) × ((m < n) × (p m ≡ true))
unfolding exists
exists_at zero p e = absurd (no_both e refl)
exists_at (suc n) p e =
    by_cases (p n) (λ y. (n, (omega arith, y)))
    (λ f. let r = exists_at n p (either (exists p n) e (λ y. y) (λ y. absurd (no_both y f))) in (r.0, (omega (arith, r.1.0), r.1.1)))

pub exists_not : (n : ℕ) (p : ℕ → Bool) → ((m : ℕ) → m < n → p m ≡ false) → exists p n ≡ false
unfolding exists
exists_not zero p h = refl
exists_not (suc n) p h = rw (exists_not n p (λ m l. h m (omega arith)), h n (omega arith)) refl

pub not_exists : (n : ℕ) (p : ℕ → Bool) → exists p n ≡ false → (m : ℕ) → m < n → p m ≡ false
not_exists n p h m l = by_cases (p m) (λ e. absurd (no_both (exists_here n p m l e) h)) (λ e. e)
