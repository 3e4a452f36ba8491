-- The laws of `specs/Copies.antt`.
use Prim.Native.Nat.{ℕ}
use mathlib.Core.Path.{◌≡◌, refl, sym}
use mathlib.Core.Logic.{◌≢◌}
use mathlib.Core.Bool.{Bool, true, false, cond, ◌||◌}
use lib.Dec.{eqb}
use borrow.Author.Tests.{eqb-true}
use Rattle.counting.proofs.Laws.Tests.{by_cases}
use Rattle.table.specs.View.{Entry, current, kept}
use Rattle.table.specs.Copies.{no_copy, copy_of, back_by, back_copy, copy_number, copy_value}

-- the number and the value by the two places
module _ (e : Entry) where
  pub back_number_lem : copy_number (back_copy e) ≡ cond (eqb (current e) 4) 1 (cond (eqb (current e) 5) 2 (kept e))
  unfolding back_by
  back_number_lem = go (eqb (current e) 4) (eqb (current e) 5) (kept e)
    where
      go : (p q : Bool) (k : ℕ) → copy_number (back_by (cond p 1 (cond q 2 0)) k e.value e.kept_value) ≡ cond p 1 (cond q 2 k)
      go true q k = refl
      go false true k = refl
      go false false k = by_cases (eqb k 0) (λ z. rw z (sym (eqb-true k 0 z))) (λ z. rw z refl)

  pub back_value_lem : copy_number (back_copy e) ≢ 0 → copy_value (back_copy e) ≡ cond (eqb (current e) 4 || eqb (current e) 5) e.value e.kept_value
  unfolding back_by
  back_value_lem = go (eqb (current e) 4) (eqb (current e) 5) (kept e)
    where
      go : (p q : Bool) (k : ℕ) → copy_number (back_by (cond p 1 (cond q 2 0)) k e.value e.kept_value) ≢ 0
          → copy_value (back_by (cond p 1 (cond q 2 0)) k e.value e.kept_value) ≡ cond (p || q) e.value e.kept_value
      go true q k d = refl
      go false true k d = refl
      go false false k d = by_cases (eqb k 0) (λ z. absurd (d (rw z refl))) (λ z. rw z refl)

-- while a Shared-CK stands the kept place is free; while none stands the current value is
pub kept_free : (number k x y y' : ℕ) → eqb number 0 ≡ false → back_by number k x y' ≡ back_by number k x y
unfolding back_by
kept_free number k x y y' h = rw h

pub value_free : (number k x x' y : ℕ) → eqb number 0 ≡ true → back_by number k x' y ≡ back_by number k x y
unfolding back_by
value_free number k x x' y h = rw h

-- a copy that has moved from the current place to the kept one is the same copy
pub back_moved : (number k x x' y : ℕ) → back_by 0 (cond (eqb number 0) k number) x' (cond (eqb number 0) y x) ≡ back_by number k x y
unfolding back_by
back_moved number k x x' y = go (eqb number 0) refl
  where
    go : (q : Bool) → eqb number 0 ≡ q
        → cond (eqb (cond q k number) 0) no_copy (copy_of (cond q k number) (cond q y x)) ≡ cond q (cond (eqb k 0) no_copy (copy_of k y)) (copy_of number x)
    go true h = refl
    go false h = rw h
