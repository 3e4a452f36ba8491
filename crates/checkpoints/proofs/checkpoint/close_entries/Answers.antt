-- `close_entries` meets its contract: a turn finds its node's entries as they were at the start. Assumes nothing.
use Rattle.table.proofs.Laws.Made.{made_none, made_with, made_more}
use Rattle.checkpoints.proofs.Laws.Checkpoint.{made_long, entries_start, entries_turn, entries_end}
use Rattle.checkpoints.proofs.checkpoint.close_entries.Goals as goal

pub loop-node-init : goal.loop-node-init
loop-node-init g c = made_with (made_none _) (entries_start _ _ _ _ _)

pub close_node-requires : goal.close_node-requires
close_node-requires g c =
    let i = c.loop-node.invariant in
    (rw i.same_geometry c.loop-node-test.true, made_long i c.requires)

pub loop-node-preserved : goal.loop-node-preserved
loop-node-preserved g c =
    let i = c.loop-node.invariant in
    let d = c.close_node.ensures in
    made_more i d (entries_turn _ _ _ c.requires c.loop-node-test.true i.stored (rw i.same_geometry at d.stored))

pub returns : goal.returns
returns g c =
    let i = c.loop-node.invariant in
    made_with i (entries_end _ _ _ c.loop-node.auto.node-end c.loop-node-test.false i.stored)
