-- `format_nodes` meets its contract: the loop has stored the entries of the nodes before `node`. Assumes nothing.
use Rattle.table.proofs.Laws.Stores.{loop-turns}
use Rattle.table.proofs.Laws.Made.{made_starts, made_more, made_with, made_ends}
use Rattle.layout.proofs.Laws.Format.{entries_nested}
use Rattle.layout.proofs.format.format_nodes.Goals as goal

pub format_node-requires : goal.format_node-requires
format_node-requires c = rw c.loop-node.invariant.same_geometry (c.requires, c.loop-node-test.true)

pub loop-node-init : goal.loop-node-init
loop-node-init c = made_starts _ _

pub loop-node-preserved : goal.loop-node-preserved
loop-node-preserved c =
    let i = c.loop-node.invariant in
    let d = c.format_node.ensures in
    made_more i d (loop-turns _ _ i.stored (rw i.same_geometry at d.stored))

pub returns : goal.returns
returns c =
    let m = made_ends _ _ _ c.loop-node.auto.node-end c.loop-node-test.false c.loop-node.invariant in
    made_with m (entries_nested m.stored)
