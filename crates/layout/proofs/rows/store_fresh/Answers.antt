-- `store_fresh` meets its contract: state, value, kept value. Assumes nothing.
use Rattle.table.proofs.Laws.Made.{made_then}
use Rattle.layout.proofs.rows.store_fresh.Goals as goal

pub returns : goal.returns
returns c = made_then c.store_state.ensures (made_then c.store_value.ensures c.store_kept.ensures)
