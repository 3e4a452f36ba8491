-- `number_entry` meets its contract: a copy of a number, or none. Assumes nothing.
use Rattle.table.proofs.Laws.Made.{made_in_as, made_none}
use Rattle.recovery.proofs.Laws.NumberingCode.{by_none, by_copy}
use Rattle.recovery.proofs.numbering.number_entry.Goals as goal

pub returns-then-number-ne0 : goal.returns-then-number-ne0
returns-then-number-ne0 c =
    made_in_as _ _
    (by_copy _ _ _ _ c.checkpoint_of-number.ensures c.if-number-ne0.true c.of-below.ensures c.of-others.ensures
    c.number_after-next.ensures)
    c.settle.ensures

pub returns-else-number-ne0 : goal.returns-else-number-ne0
returns-else-number-ne0 c =
    made_in_as _ _ (by_none _ _ _ _ c.checkpoint_of-number.ensures c.if-number-ne0.false) (made_none _)
