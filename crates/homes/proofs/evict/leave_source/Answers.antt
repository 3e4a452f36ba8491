-- `leave_source` meets its contract: one store, by the place. Assumes nothing.
use Rattle.table.proofs.Laws.Made.{made_as}
use Rattle.homes.proofs.Laws.EvictCode.{source_current, source_kept}
use Rattle.homes.proofs.evict.leave_source.Goals as goal

pub returns-in-Current : goal.returns-in-Current
returns-in-Current c = made_as (source_current _ _ _ c.in-Current.is c.kept_of-kept.ensures) c.store_state.ensures

pub returns-in-Kept : goal.returns-in-Kept
returns-in-Kept c = made_as (source_kept _ _ _ c.in-Kept.is c.current_of-current.ensures) c.store_state-in-Kept.ensures
