-- The laws of `specs/Places.antt`.
use Prim.Native.Nat.{ℕ}
use mathlib.Core.Path.{◌≡◌, refl, ap}
use mathlib.Core.Logic.{◌≢◌}
use mathlib.Core.Bool.{false}
use lib.Dec.{eqb}
use borrow.Author.Tests.{eq-eqb, ne_eqb}
use Rattle.table.specs.Words.{current_of, kept_of, shared}
use Rattle.table.specs.View.{Entry}
use Rattle.homes.specs.declared.places.Place.{Place}
use Rattle.homes.specs.declared.places.Place.TheVariants.{Current, Kept}
use Rattle.homes.specs.Places.{place_by, code_of, shared_in, value_in}

-- ---- the ways of the code that names a place

pub place_current : (number : ℕ) → number ≡ 0 → Current ≡ place_by number
unfolding place_by
place_current number e = rw (eq-eqb number 0 e) refl

pub place_kept : (number : ℕ) → number ≢ 0 → Kept ≡ place_by number
unfolding place_by
place_kept number e = rw (ne_eqb number 0 e) refl

-- ---- the ways of the code that looks there

module _ {place : Place} (e : place ≡ Current) where
  pub code_current : (w : ℕ) {c : ℕ} → c ≡ current_of w → c ≡ code_of place w
  code_current w h = rw e h

  pub shared_current : (w : ℕ) {c : ℕ} → c ≡ current_of w → eqb c shared ≡ shared_in place w
  shared_current w h = rw e (ap (λ x. eqb x shared) h)

  pub value_current : (i : Entry) {x : ℕ} → x ≡ i.value → x ≡ value_in place i
  value_current i h = rw e h

module _ {place : Place} (e : place ≡ Kept) where
  pub code_kept : (w : ℕ) {c : ℕ} → c ≡ kept_of w → c ≡ code_of place w
  code_kept w h = rw e h

  pub shared_kept : (w : ℕ) → false ≡ shared_in place w
  shared_kept w = rw e refl

  pub value_kept : (i : Entry) {x : ℕ} → x ≡ i.kept_value → x ≡ value_in place i
  value_kept i h = rw e h
