use Prim.Native.Nat.{◌*◌}
use Rattle.entries.specs.code.Row.{row_state}
use Rattle.recovery.specs.code.Rows.{Listing}
use Rattle.recovery.proofs.rows.gather_fours.Given as goal

abbrev pub invariant-loop-four : goal.invariant-loop-four
invariant-loop-four l = Listing (row_state l.table l.start) (4 * l.four) l.initial.list l.list l.count
