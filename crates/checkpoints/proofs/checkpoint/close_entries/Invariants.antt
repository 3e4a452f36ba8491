use Rattle.table.specs.Made.{Made, shown}
use Rattle.checkpoints.specs.Checkpoint.{entries_before}
use Rattle.checkpoints.proofs.checkpoint.close_entries.Given as goal

abbrev pub invariant-loop-node : goal.invariant-loop-node
invariant-loop-node g l =
    let s = l.initial.stores in
    Made s (entries_before s.g (shown s) g.W.Closing.change l.node) l.stores
