-- `close_mark` meets its contract: a node that is no survivor, or one. Assumes nothing.
use Rattle.table.proofs.Laws.Made.{made_as, made_none}
use Rattle.table.proofs.Laws.MarksPass.{mark_passed, mark_turned}
use Rattle.survivors.proofs.closing.close_mark.Goals as goal

pub returns-then-mark-ne0 : goal.returns-then-mark-ne0
returns-then-mark-ne0 c = made_as (mark_turned _ _ _ c.survivor_mark-mark.ensures c.if-mark-ne0.true) c.store_mark.ensures

pub returns-else-mark-ne0 : goal.returns-else-mark-ne0
returns-else-mark-ne0 c = made_as (mark_passed _ _ _ c.survivor_mark-mark.ensures c.if-mark-ne0.false) (made_none _)
