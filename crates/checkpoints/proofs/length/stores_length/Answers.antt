-- `stores_length` meets its contract: the loop has counted the stores of the nodes before `node`. Assumes nothing.
use borrow.Author.Rules.{rules}
use Rattle.counting.proofs.Laws.Counting.{sum_none, sum_next}
use Rattle.checkpoints.proofs.Laws.CommitLength.{length_all}
use Rattle.checkpoints.proofs.length.stores_length.Goals as goal

pub loop-node-init : goal.loop-node-init
loop-node-init c = (sum_none _, search rules)

pub loop-node-preserved : goal.loop-node-preserved
loop-node-preserved c = (sum_next _ _ c.loop-node.invariant.0 c.node_length-found.ensures.0, search rules)

pub returns : goal.returns
returns c = length_all _ _ c.loop-node.invariant.0 c.loop-node.auto.node-end c.loop-node-test.false
