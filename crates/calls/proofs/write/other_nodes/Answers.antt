-- `other_nodes` meets its contract: a turn finds its entry as it was at the start. Assumes nothing.
use Rattle.table.proofs.Laws.Made.{made_starts, made_more, made_ends}
use Rattle.calls.specs.Write.{other_stores}
use Rattle.calls.proofs.Laws.WriteCode.{other_turn}
use Rattle.calls.proofs.write.other_nodes.Goals as goal

pub loop-node-init : goal.loop-node-init
loop-node-init c = made_starts _ _

pub loop-node-preserved : goal.loop-node-preserved
loop-node-preserved c =
    let p = c.requires in
    let i = c.loop-node.invariant in
    let d = c.other_node.ensures in
    made_more i d (other_turn _ _ _ _ c.loop-node.auto.node-end p.0 p.1 i.stored (rw i.same_geometry at d.stored))

pub returns : goal.returns
unfolding other_stores
returns c = made_ends _ _ _ c.loop-node.auto.node-end c.loop-node-test.false c.loop-node.invariant
