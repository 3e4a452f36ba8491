use Rattle.layout.proofs.Laws.Rows.{Row}
use Rattle.layout.proofs.rows.store_row.Given as goal

abbrev pub invariant-loop-item : goal.invariant-loop-item
invariant-loop-item l = Row l.node l.first l.second l.around l.initial.stores l.item l.ahead l.stores
