use Rattle.table.specs.View.{view}
use Rattle.entries.proofs.Laws.MarksLoop.{Marking}
use Rattle.entries.proofs.marks.marks_met.Given as goal

abbrev pub invariant-loop-node : goal.invariant-loop-node
invariant-loop-node l = Marking (view l.g l.table) l.node l.first
