-- `mark_to` meets its contract: a live node, or a dead one. Assumes nothing.
use Rattle.table.proofs.Laws.Made.{made_as, made_none}
use Rattle.table.proofs.Laws.MarksPass.{mark_passed, mark_turned}
use Rattle.checkpoints.proofs.checkpoint.mark_to.Goals as goal

pub returns-then-mark-ne0 : goal.returns-then-mark-ne0
returns-then-mark-ne0 c = made_as (mark_turned _ _ _ c.mark.ensures c.if-mark-ne0.true) c.store_mark.ensures

pub returns-else-mark-ne0 : goal.returns-else-mark-ne0
returns-else-mark-ne0 c = made_as (mark_passed _ _ _ c.mark.ensures c.if-mark-ne0.false) (made_none _)
