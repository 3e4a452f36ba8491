-- A law for each way of the code that finds the call of an operation.
use Rattle.std.specs.Prelude.{None, Option, Some}
use Prim.Native.Nat.{ℕ}
use mathlib.Core.Path.{◌≡◌, refl}
use mathlib.Core.Logic.{◌≢◌}
use borrow.Author.Tests.{ne_eqb}
use Rattle.homes.specs.declared.places.Place.{Place}
use Rattle.homes.specs.Places.{place_by}
use Rattle.survivors.specs.Survivors.{lost_by}
use Rattle.restore.specs.declared.call.Call.TheVariants.{Evict, Recover}
use Rattle.restore.specs.Operations.{call_by}
use Rattle.restore.specs.declared.call.Call.{Call}

module _ (o x y z flag : ℕ) where
  -- the operation picks the call
  pub call_by_lem : {r : Option Call} (k : ℕ) → o ≡ k → r ≡ call_by k x y z flag → r ≡ call_by o x y z flag
  call_by_lem k h e = rw h e

  pub call_evict : {place : Place} → o ≡ 3 → place ≡ place_by flag → Some (Evict x y place) ≡ call_by o x y z flag
  unfolding call_by
  call_evict h e = rw (h, e) refl

  pub call_recover : {lost : Option ℕ} → o ≡ 8 → lost ≡ lost_by flag x → Some (Recover lost) ≡ call_by o x y z flag
  unfolding call_by
  call_recover h e = rw (h, e) refl

  pub call_unknown :
      o ≢ 0 → o ≢ 1 → o ≢ 2 → o ≢ 3 → o ≢ 4 → o ≢ 5 → o ≢ 6 → o ≢ 7 → o ≢ 8 → o ≢ 16 → o ≢ 17
      → None ≡ call_by o x y z flag
  unfolding call_by
  call_unknown e₀ e₁ e₂ e₃ e₄ e₅ e₆ e₇ e₈ e₁₆ e₁₇ =
      simp (
        ne_eqb o 0 e₀,
        ne_eqb o 1 e₁,
        ne_eqb o 2 e₂,
        ne_eqb o 3 e₃,
        ne_eqb o 4 e₄,
        ne_eqb o 5 e₅,
        ne_eqb o 6 e₆,
        ne_eqb o 7 e₇,
        ne_eqb o 8 e₈,
        ne_eqb o 16 e₁₆,
        ne_eqb o 17 e₁₇,
      )
