-- The laws of `specs/Changes.antt`.
use Prim.Native.Nat.{ℕ, ◌<◌}
use mathlib.Core.Path.{◌≡◌, refl}
use mathlib.Core.Logic.{◌≢◌, ◌⊎◌, inl, inr}
use native.Mathlib.Omega.{arith}
use lib.Dec.{eqb}
use borrow.Author.Tests.{eqb-true, ne_eqb}
use Rattle.counting.proofs.Laws.Tests.{by_cases}
use Rattle.table.specs.Words.{shared_ck1, shared_ck2}
use Rattle.table.specs.Changes.{checkpoint_of}

-- the codes below Shared-CK have none
pub checkpoint_none : (c : ℕ) → c < 4 → checkpoint_of c ≡ 0
checkpoint_none c h = rw (ne_eqb c 4 (λ e. omega arith), ne_eqb c 5 (λ e. omega arith))

pub checkpoint_low : (c : ℕ) → checkpoint_of c < 3
checkpoint_low c = by_cases (eqb c 4) (λ e. rw e (omega arith)) (λ e. by_cases (eqb c 5) (λ f. rw (e, f) (omega arith)) (λ f. rw (e, f) (omega arith)))

-- the codes with a number
pub checkpoint_code : (c : ℕ) → checkpoint_of c ≢ 0 → (c ≡ shared_ck1) ⊎ (c ≡ shared_ck2)
checkpoint_code c d = by_cases (eqb c shared_ck1) (λ p. inl (eqb-true c shared_ck1 p))
    (λ p. by_cases (eqb c shared_ck2) (λ q. inr (eqb-true c shared_ck2 q)) (λ q. absurd (d (rw (p, q) refl))))
