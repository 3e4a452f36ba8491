-- Laws of `specs/code/Notes.antt`: the recovery copies of an item on a side.
use Prim.Native.Nat.{ℕ, ◌+◌}
use mathlib.Core.Path.{◌≡◌}
use mathlib.Core.Bool.{Bool, cond}
use Rattle.counting.specs.Counting.{every}
use Rattle.counting.specs.Values.{Values, met_of, no_values}
use Rattle.counting.proofs.Laws.Values.{values_none, values_next}
use Rattle.table.specs.declared.geometry.Geometry.{Geometry}
use Rattle.table.specs.View.{View}
use Rattle.table.specs.Copies.{copy_value}
use Rattle.recovery.specs.Sides.{copy_on, has_copy, item_fits, items_fit}
use Rattle.survivors.specs.Direction.{forward_in}
use Rattle.recovery.specs.code.Notes.{copies_to}

-- ---- the recovery copies of an item

-- with those of node n
abbrev pub met_at : Bool → View → ℕ → ℕ → Values → Values
met_at forward w b n s = cond (has_copy forward w b n) (met_of s (copy_value (copy_on forward (w.entry n b)))) s

module _ (forward : Bool) (w : View) (b : ℕ) where
  pub copies_start : no_values ≡ copies_to forward w b 0
  unfolding copies_to
  copies_start = values_none _ _

  pub copies_next : (n : ℕ) → copies_to forward w b (n + 1) ≡ met_at forward w b n (copies_to forward w b n)
  unfolding copies_to
  copies_next n = values_next _ _ _

-- on the side that the survivors choose
pub fits_chosen :
    (g : Geometry) (w : View) {forward r : Bool} → forward ≡ forward_in g w → r ≡ every (item_fits g forward w) g.items → r ≡ items_fit g w
unfolding items_fit
fits_chosen g w h e = rw (← h) e
