-- `close` meets its contract: the largest number, then the marks. Assumes nothing.
use Rattle.table.specs.Made.{shown}
use Rattle.table.proofs.Laws.Made.{made_with}
use Rattle.survivors.specs.Survivors.{survivors}
use Rattle.survivors.proofs.Laws.ClosingMarksCode.{closing_stored}
use Rattle.survivors.proofs.closing.close.Goals as goal

pub returns : goal.returns
returns c =
    let a = c.args in
    let m = c.close_marks.ensures in
    made_with m
    (closing_stored _ (survivors a.lost (shown a.stores.now)) c.largest_number-number.ensures c.mark_word-word.ensures m.stored)
