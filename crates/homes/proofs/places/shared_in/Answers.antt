-- `shared_in` meets its contract: by the place. Assumes nothing.
use Rattle.homes.proofs.Laws.Places.{shared_current, shared_kept}
use Rattle.homes.proofs.places.shared_in.Goals as goal

pub returns-in-Current : goal.returns-in-Current
returns-in-Current c = shared_current c.in-Current.is _ c.current_of.ensures

pub returns-in-Kept : goal.returns-in-Kept
returns-in-Kept c = shared_kept c.in-Kept.is _
