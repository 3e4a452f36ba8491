-- The recovery copy of an entry. Rolled back to: a Shared-CK in its current place, else an Inv-CK in its kept place.
-- Rolled forward to: a Shared-CK or a Precommit in its current place.
use Rattle.std.specs.Prelude.{ℕ, cond, eqb}
use Rattle.table.specs.declared.changes.Event.TheVariants.{RollForward}
use Rattle.table.specs.Changes.{change_of, checkpoint_of}
use Rattle.table.specs.View.{Entry, current, kept}

-- a number, 1 or 2, and a value
pub data Copy : Type 0 where
  no_copy : Copy
  copy_of : ℕ → ℕ → Copy

-- by the number of the Shared-CK (0 for none), the kept place, the value and the kept value
unfoldable pub back_by : ℕ → ℕ → ℕ → ℕ → Copy
back_by number k x y = cond (eqb number 0) (cond (eqb k 0) no_copy (copy_of k y)) (copy_of number x)

-- the back view of an entry
abbrev pub back_copy : Entry → Copy
back_copy e = back_by (checkpoint_of (current e)) (kept e) e.value e.kept_value

-- the forward view of an entry: its number is that of the Shared-CK which "roll forward" makes of the current place
abbrev pub forward_copy : Entry → Copy
forward_copy e = back_by (checkpoint_of (change_of (current e) RollForward)) 0 e.value e.kept_value

-- its number, 0 for none; and its value
abbrev pub copy_number : Copy → ℕ
copy_number no_copy = 0
copy_number (copy_of number x) = number

abbrev pub copy_value : Copy → ℕ
copy_value no_copy = 0
copy_value (copy_of number x) = x
