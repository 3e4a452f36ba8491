use Rattle.table.specs.Made.{Made, shown}
use Rattle.table.specs.View.{pass}
use Rattle.calls.specs.Write.{other_changes}
use Rattle.calls.proofs.write.other_nodes.Given as goal

abbrev pub invariant-loop-node : goal.invariant-loop-node
invariant-loop-node l =
    let s = l.initial.stores in
    Made s (pass (λ k. k) (λ k. l.item) (other_changes (shown s) l.writer l.item) l.node) l.stores
