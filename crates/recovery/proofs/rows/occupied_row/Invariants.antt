use Rattle.entries.specs.code.Row.{row_state}
use Rattle.recovery.specs.code.Rows.{Listing}
use Rattle.recovery.proofs.rows.occupied_row.Given as goal

abbrev pub invariant-loop-item : goal.invariant-loop-item
invariant-loop-item l = Listing (row_state l.table l.start) l.item l.initial.list l.list l.count
