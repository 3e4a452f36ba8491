-- `abandon_stores` meets its contract: the entries, then one word on every live mark. Assumes nothing.
use Rattle.table.proofs.Laws.Made.{made_more}
use Rattle.checkpoints.proofs.Laws.Checkpoint.{made_long}
use Rattle.checkpoints.proofs.Laws.ClosingCode.{marks_made, word_same, abandon_then}
use Rattle.checkpoints.proofs.abandon.abandon_stores.Goals as goal

pub close_entries-requires : goal.close_entries-requires
close_entries-requires c = c.requires.long

pub returns : goal.returns
returns c =
    let e = c.close_entries.ensures in
    let m = marks_made c.marks_to.ensures (made_long e c.requires.long) in
    let w = word_same 0 c.number_of-number.ensures c.common_mark.ensures c.mark_word-word.ensures in
    made_more e m (abandon_then _ c.requires w e.stored (rw e.same_geometry at m.stored))
