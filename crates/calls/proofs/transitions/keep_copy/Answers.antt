-- `keep_copy` meets its contract: one store after the other. Assumes nothing.
use Rattle.table.proofs.Laws.Made.{made_then}
use Rattle.calls.proofs.transitions.keep_copy.Goals as goal

pub returns : goal.returns
returns c = made_then c.store_kept.ensures c.store_state.ensures
