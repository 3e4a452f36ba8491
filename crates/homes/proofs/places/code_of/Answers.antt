-- `code_of` meets its contract: by the place. Assumes nothing.
use Rattle.homes.proofs.Laws.Places.{code_current, code_kept}
use Rattle.homes.proofs.places.code_of.Goals as goal

pub returns-in-Current : goal.returns-in-Current
returns-in-Current c = code_current c.in-Current.is _ c.current_of.ensures

pub returns-in-Kept : goal.returns-in-Kept
returns-in-Kept c = code_kept c.in-Kept.is _ c.kept_of.ensures
