-- `value_in` meets its contract: by the place. Assumes nothing.
use Rattle.homes.proofs.Laws.Places.{value_current, value_kept}
use Rattle.homes.proofs.places.value_in.Goals as goal

pub returns-in-Current : goal.returns-in-Current
returns-in-Current c = value_current c.in-Current.is _ c.value_at.ensures

pub returns-in-Kept : goal.returns-in-Kept
returns-in-Kept c = value_kept c.in-Kept.is _ c.kept_value_at.ensures
