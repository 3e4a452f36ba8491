-- `arrival_at` meets its contract: each field as it was read. Assumes nothing.
use Rattle.homes.proofs.Laws.HomeCode.{arrival_read}
use Rattle.homes.proofs.home.arrival_at.Goals as goal

pub returns : goal.returns
returns c =
    arrival_read _ _ _ _ _ c.state_at-state.ensures c.shared_in-takeover.ensures c.dropped_item-dropped.ensures
    c.drop_at-drop.ensures c.current_of.ensures c.current_left-current.ensures c.kept_of-kept.ensures
