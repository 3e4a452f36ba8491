-- `arrive` meets its contract: value, then state, by the place. Assumes nothing.
use Rattle.table.proofs.Laws.Made.{made_turn}
use Rattle.homes.proofs.Laws.HomeCode.{arrives_current, arrives_kept}
use Rattle.homes.proofs.home.arrive.Goals as goal

pub returns-in-Current : goal.returns-in-Current
returns-in-Current c =
    let d = c.store_value.ensures in
    made_turn d c.store_state.ensures (arrives_current _ _ _ _ _ c.in-Current.is d.stored)

pub returns-in-Kept : goal.returns-in-Kept
returns-in-Kept c =
    let d = c.store_kept.ensures in
    made_turn d c.store_state-in-Kept.ensures (arrives_kept _ _ _ _ _ c.in-Kept.is d.stored)
