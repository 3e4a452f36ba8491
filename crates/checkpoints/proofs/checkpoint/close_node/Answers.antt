-- `close_node` meets its contract: a live node, or a dead one. Assumes nothing.
use Rattle.table.proofs.Laws.Made.{made_none, made_with}
use Rattle.checkpoints.proofs.Laws.Checkpoint.{dead_node, live_node}
use Rattle.checkpoints.proofs.checkpoint.close_node.Goals as goal

pub returns-then-mark-ne0 : goal.returns-then-mark-ne0
returns-then-mark-ne0 g c =
    let m = c.close_live.ensures in
    made_with m (live_node _ _ _ c.mark.ensures c.if-mark-ne0.true m.stored)

pub returns-else-mark-ne0 : goal.returns-else-mark-ne0
returns-else-mark-ne0 g c = made_with (made_none _) (dead_node _ _ _ c.mark.ensures c.if-mark-ne0.false)
