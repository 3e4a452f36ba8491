-- `roll` meets its contract: a turn finds its node's entries as they were at the start. Assumes nothing.
use Rattle.checkpoints.proofs.Laws.Checkpoint.{entries_start}
use Rattle.table.proofs.Laws.Made.{made_none, made_with, made_more}
use Rattle.recovery.specs.Sides.{roll_change}
use Rattle.recovery.proofs.Laws.RollingCode.{survivor_node, rolled_all}
use Rattle.recovery.proofs.rolling.roll.Goals as goal

pub loop-node-init : goal.loop-node-init
loop-node-init c = made_with (made_none _) (entries_start _ _ _ _ _)

pub loop-node-preserved : goal.loop-node-preserved
loop-node-preserved c =
    let i = c.loop-node.invariant in
    let d = c.roll_node.ensures.made in
    made_more i d
    (survivor_node (roll_change _) c.args.lost _ c.requires.0 _ c.loop-node-test.true i.stored
    (rw i.same_geometry at d.stored))

pub returns : goal.returns
returns c =
    let l = c.loop-node in
    rolled_all c.args.lost _ _ l.auto.node-end c.loop-node-test.false l.auto.list l.invariant
