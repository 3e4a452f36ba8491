use lib.ListN.{length}
use Rattle.table.specs.declared.geometry.Geometry.{Geometry}
use Rattle.table.specs.View.{view}
use Rattle.recovery.specs.code.Rows.{reached}
use Rattle.recovery.proofs.Laws.CensusLaws.{RowListed, RowPassed}
use Rattle.recovery.proofs.census.note_row.Given as goal

abbrev pub invariant-loop-item : goal.invariant-loop-item
invariant-loop-item l =
    ((g : Geometry) → RowListed g l.node l.table l.start l.occupied (length l.occupied) l.initial.tallies l.initial.firsts
    → RowPassed l.forward (view g l.table) l.node (reached l.occupied l.item-index) l.initial.tallies l.tallies l.initial.firsts l.firsts l.low l.sum l.differ)
