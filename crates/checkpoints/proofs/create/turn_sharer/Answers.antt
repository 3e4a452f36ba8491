-- `turn_sharer` meets its contract: two stores, by the kept places read. Assumes nothing.
use Rattle.table.proofs.Laws.Made.{made_turn}
use Rattle.checkpoints.proofs.Laws.CreateCode.{sharer_then}
use Rattle.checkpoints.proofs.create.turn_sharer.Goals as goal

pub returns : goal.returns
returns c =
    let a = c.store_state.ensures in
    made_turn a c.store_state-2.ensures
    (sharer_then _ _ _ c.state.ensures c.kept_of-kept.ensures a.stored _ c.state-2.ensures c.kept_of-beside.ensures)
