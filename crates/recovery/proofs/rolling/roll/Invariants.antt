use Rattle.table.specs.Made.{Made, shown}
use Rattle.checkpoints.specs.Checkpoint.{entries_before}
use Rattle.survivors.specs.Survivors.{survivors}
use Rattle.recovery.specs.Sides.{roll_change}
use Rattle.recovery.proofs.rolling.roll.Given as goal

abbrev pub invariant-loop-node : goal.invariant-loop-node
invariant-loop-node l =
    let s = l.initial.stores in
    Made s (entries_before s.g (survivors l.lost (shown s)) (roll_change l.forward) l.node) l.stores
