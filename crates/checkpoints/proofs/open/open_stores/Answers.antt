-- `open_stores` meets its contract: one word on every live mark. Assumes nothing.
use Rattle.table.proofs.Laws.Made.{made_with}
use Rattle.checkpoints.proofs.Laws.ClosingCode.{marks_made, word_same, open_then}
use Rattle.checkpoints.proofs.open.open_stores.Goals as goal

pub returns : goal.returns
returns c =
    let m = marks_made c.marks_to.ensures c.requires.long in
    let w = word_same 1 c.number_of-number.ensures c.common_mark.ensures c.mark_word-word.ensures in
    made_with m (open_then _ c.requires w m.stored)
