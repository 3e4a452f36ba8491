-- `note_nodes` meets its contract: the nodes before `node` are noted. Assumes nothing.
use Rattle.counting.proofs.Laws.Counting.{every_none, every_next}
use Rattle.recovery.proofs.Laws.Notes.{equal_none}
use Rattle.recovery.proofs.Laws.CensusLaws.{census_start, nodes_noted}
use Rattle.recovery.proofs.census.note_nodes.Goals as goal

pub loop-node-init : goal.loop-node-init
loop-node-init c = (census_start _ _ _ c.requires, (every_none _, equal_none _ _ _))

pub loop-node-preserved : goal.loop-node-preserved
loop-node-preserved c =
    let i = c.loop-node.invariant in
    let m = c.note_node-found.ensures in
    (m.after, (every_next _ _ i.1.0 m.formed, m.agree i.1.1))

pub returns : goal.returns
returns c =
    let i = c.loop-node.invariant in
    nodes_noted _ _ _ _ c.loop-node.auto.node-end c.loop-node-test.false i.0 i.1.0 i.1.1 c.loop-node.auto.list
