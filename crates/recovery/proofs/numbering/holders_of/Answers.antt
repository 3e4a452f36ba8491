-- `holders_of` meets its contract: the loop has counted the nodes before `node`. Assumes nothing.
use Rattle.recovery.proofs.Laws.NumberingCode.{holders_start, holders_turn, holders_end}
use Rattle.recovery.proofs.numbering.holders_of.Goals as goal

pub loop-node-init : goal.loop-node-init
loop-node-init c = holders_start _ _ c.default-all.ensures

pub loop-node-preserved : goal.loop-node-preserved
loop-node-preserved c = holders_turn _ _ _ c.loop-node.invariant c.survivor_code-current.ensures c.met-all.ensures

pub returns : goal.returns
returns c = holders_end _ _ _ _ c.loop-node.auto.node-end c.loop-node-test.false c.loop-node.invariant
