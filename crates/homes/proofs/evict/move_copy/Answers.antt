-- `move_copy` meets its contract: the home's stores, then the source's. Assumes nothing.
use Rattle.table.proofs.Laws.Made.{made_turn}
use Rattle.homes.proofs.Laws.EvictCode.{move_then}
use Rattle.homes.proofs.evict.move_copy.Goals as goal

pub returns : goal.returns
returns c =
    let d = c.home_stores.ensures in
    made_turn d c.leave_source.ensures
    (move_then _ _ _ _ _ c.state-state.ensures c.code_of-code.ensures c.value_in-value.ensures
    c.arrival_at-a.ensures d.stored)
