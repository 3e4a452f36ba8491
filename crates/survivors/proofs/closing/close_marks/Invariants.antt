use Rattle.table.specs.Made.{Made, shown}
use Rattle.table.specs.Stores.{runs}
use Rattle.table.specs.View.{mark_to}
use Rattle.survivors.specs.Survivors.{survivors}
use Rattle.survivors.proofs.closing.close_marks.Given as goal

abbrev pub invariant-loop-node : goal.invariant-loop-node
invariant-loop-node l =
    let s = l.initial.stores in
    Made s (runs (mark_to (survivors l.lost (shown s)) (λ x. l.word)) l.node) l.stores
