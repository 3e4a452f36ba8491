-- `common_mark` meets its contract: no node before `node` is live. Assumes nothing.
use Rattle.counting.proofs.Laws.First.{first_starts}
use Rattle.checkpoints.proofs.Laws.Checkpoint.{common_here, common_none, common_passes}
use Rattle.checkpoints.proofs.checkpoint.common_mark.Goals as goal

pub loop-node-init : goal.loop-node-init
loop-node-init c = first_starts _

pub returns-then-mark-ne0 : goal.returns-then-mark-ne0
returns-then-mark-ne0 c = common_here _ _ _ c.loop-node.invariant c.loop-node-test.true c.mark_at-mark.ensures c.if-mark-ne0.true

pub loop-node-preserved : goal.loop-node-preserved
loop-node-preserved c = common_passes _ _ _ c.loop-node.invariant c.mark_at-mark.ensures c.if-mark-ne0.false

pub returns : goal.returns
returns c = common_none _ _ _ c.loop-node.invariant c.loop-node-test.false c.loop-node.auto.node-end
