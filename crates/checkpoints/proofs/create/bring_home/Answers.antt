-- `bring_home` meets its contract: the owner's state, then the home's stores. Assumes nothing.
use Rattle.table.proofs.Laws.Made.{made_turn}
use Rattle.checkpoints.proofs.Laws.CreateCode.{taken_then}
use Rattle.checkpoints.proofs.create.bring_home.Goals as goal

pub returns : goal.returns
returns c =
    let a = c.store_state.ensures in
    made_turn a c.home_stores.ensures
    (taken_then _ _ _ c.state.ensures c.kept_of-kept.ensures a.stored _ c.value-value.ensures c.arrival_at-a.ensures)
