-- `commit_stores` meets its contract: marks, entries, marks. Assumes nothing.
use mathlib.Core.Path.{◌∙◌}
use Rattle.table.proofs.Laws.Made.{made_three}
use Rattle.checkpoints.proofs.Laws.Checkpoint.{made_long}
use Rattle.checkpoints.proofs.Laws.ClosingCode.{marks_made, word_next, commit_then}
use Rattle.checkpoints.proofs.commit.commit_stores.Goals as goal

pub close_entries-requires : goal.close_entries-requires
close_entries-requires c = made_long (marks_made c.marks_to.ensures c.requires.long) c.requires.long

pub returns : goal.returns
returns c =
    let a = c.requires in
    let n = c.number_of-number.ensures in
    let x = c.next_number-next.ensures in
    let m = marks_made c.marks_to.ensures a.long in
    let e = c.close_entries.ensures in
    let k = marks_made c.marks_to-2.ensures (made_long e (made_long m a.long)) in
    made_three m e k
    (commit_then _ a
    (word_next 2 n c.common_mark.ensures c.mark_word-committing.ensures x)
    (word_next 0 n c.common_mark.ensures c.mark_word-committed.ensures x)
    m.stored (rw m.same_geometry at e.stored) (rw (e.same_geometry ∙ m.same_geometry) at k.stored))
