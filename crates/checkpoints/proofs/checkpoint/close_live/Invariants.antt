use Rattle.table.specs.Made.{Made, shown}
use Rattle.table.specs.View.{pass}
use Rattle.checkpoints.proofs.checkpoint.close_live.Given as goal

abbrev pub invariant-loop-item : goal.invariant-loop-item
invariant-loop-item g l =
    let s = l.initial.stores in
    Made s (pass (λ d. l.node) (λ d. d) (λ d. g.W.Closing.change ((shown s).entry l.node d)) l.item) l.stores
