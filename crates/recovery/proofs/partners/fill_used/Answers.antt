-- `fill_used` meets its contract: the loop has filled the words before `node`. Assumes nothing.
use Rattle.recovery.proofs.Laws.PartnersCode.{filled_turn, filled_end}
use Rattle.recovery.proofs.partners.fill_used.Goals as goal

pub loop-node-preserved : goal.loop-node-preserved
loop-node-preserved c = filled_turn _ _ _ c.loop-node-test.true c.requires c.used_by.ensures c.loop-node.invariant

pub returns : goal.returns
returns c = filled_end _ _ _ c.loop-node.auto.node-end c.loop-node-test.false c.loop-node.invariant
