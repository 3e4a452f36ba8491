-- A commit's `close_entry` meets its contract: one state store, or none. Assumes nothing.
use Rattle.table.proofs.Laws.Made.{made_in_as, made_none}
use Rattle.checkpoints.proofs.Laws.Closing.{commit_changes, commit_stays}
use Rattle.checkpoints.proofs.commit.CommittedClosing.close_entry.Goals as goal

pub returns-then-commits_in : goal.returns-then-commits_in
returns-then-commits_in c =
    made_in_as _ _
    (commit_changes _ c.requires c.commits_in.ensures c.if-commits_in.true c.current_of.ensures c.change-next.ensures)
    c.store_state.ensures

pub returns-else-commits_in : goal.returns-else-commits_in
returns-else-commits_in c =
    made_in_as _ _ (commit_stays _ c.requires c.commits_in.ensures c.if-commits_in.false) (made_none _)
