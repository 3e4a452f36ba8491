-- The number of lower ones that pass a test is the rank of one that passes: below the count each rank has exactly one.
use Rattle.std.proofs.Common.{◌≡◌, ℕ, zero, suc, ◌<◌, Bool, true, sym, ap, ◌∙◌, arith}
use native.Mathlib.Decide.{ℕ_discrete, dec_lt}
use Rattle.counting.proofs.Laws.Tests.{by_cases}
use Rattle.counting.specs.Counting.{one, count}

-- m passes, with k lower ones that pass, and no other below n does
pub record Ranked (n : ℕ) (p : ℕ → Bool) (k m : ℕ) : Type 0 where
  pub within : m < n
  pub holds : p m ≡ true
  pub lower : count p m ≡ k
  pub alone : (i : ℕ) → i < n → p i ≡ true → count p i ≡ k → i ≡ m

-- one that passes is counted above it
pub count_above : (n : ℕ) (p : ℕ → Bool) (m : ℕ) → m < n → p m ≡ true → count p m < count p n
unfolding count
count_above zero p m h e = absurd (omega arith)
count_above (suc n) p m h e = elim (ℕ_discrete m n) [
  | yes q ↦ (let c = ap (λ i. count p i) q in let t = ap (λ i. one (p i)) q in omega (arith, ap one e))
  | no q ↦ omega (arith, count_above n p m (omega arith) e)
]

same_rank : (p : ℕ → Bool) (i m : ℕ) → p i ≡ true → p m ≡ true → count p i ≡ count p m → i ≡ m
same_rank p i m hi hm e = elim (dec_lt i m) [
  | yes l ↦ absurd (omega (arith, count_above m p i l hi))
  | no l ↦ elim (dec_lt m i) [ yes k ↦ absurd (omega (arith, count_above i p m k hm)) | no k ↦ omega arith ]
]

reached : (n : ℕ) (p : ℕ → Bool) (k : ℕ) → k < count p n → (m : ℕ) × ((m < n) × ((p m ≡ true) × (count p m ≡ k)))
unfolding count
reached zero p k h = absurd (omega arith)
reached (suc n) p k h = elim (dec_lt k (count p n)) [
  | yes l ↦ (let r = reached n p k l in (r.0, (omega (arith, r.1.0), r.1.1)))
  | no l ↦ by_cases (p n) (λ e. (n, (omega arith, (e, omega (arith, ap one e))))) (λ e. absurd (omega (arith, ap one e)))
]

pub ranked : (n : ℕ) (p : ℕ → Bool) (k : ℕ) → k < count p n → (m : ℕ) × Ranked n p k m
ranked n p k h =
    let r = reached n p k h in
    (r.0, record { within = r.1.0; holds = r.1.1.0; lower = r.1.1.1; alone = λ i l e c. same_rank p i r.0 e r.1.1.0 (c ∙ sym r.1.1.1) })
