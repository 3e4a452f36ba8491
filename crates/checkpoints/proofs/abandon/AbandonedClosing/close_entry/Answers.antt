-- An abandon's `close_entry` meets its contract: one state store, or none. Assumes nothing.
use mathlib.Core.Path.{sym}
use Rattle.table.proofs.Laws.Made.{made_in_as, made_none}
use Rattle.checkpoints.proofs.Laws.Closing.{abandon_changes, abandon_stays}
use Rattle.checkpoints.proofs.abandon.AbandonedClosing.close_entry.Goals as goal

pub returns-then-is_precommit : goal.returns-then-is_precommit
returns-then-is_precommit c =
    made_in_as _ _
    (abandon_changes _ c.requires c.current_of-current.ensures c.kept_of-kept.ensures (sym c.if-is_precommit.ensures)
    c.change-next.ensures)
    c.store_state.ensures

pub returns-else-is_precommit : goal.returns-else-is_precommit
returns-else-is_precommit c =
    made_in_as _ _ (abandon_stays _ c.requires c.current_of-current.ensures (sym c.if-is_precommit.ensures))
    (made_none _)
