use Rattle.table.specs.Made.{Made}
use Rattle.table.specs.Stores.{runs}
use Rattle.layout.specs.Format.{first_mark}
use Rattle.layout.proofs.format.format_marks.Given as goal

abbrev pub invariant-loop-node : goal.invariant-loop-node
invariant-loop-node l = Made l.initial.stores (runs first_mark l.node) l.stores
