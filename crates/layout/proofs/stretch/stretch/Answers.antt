-- `stretch` meets its contract: the part, or an empty one. Assumes nothing.
use Rattle.layout.proofs.Laws.Stretch.{stretch_found, stretch_empty}
use Rattle.layout.proofs.stretch.stretch.Goals as goal

pub returns-in-Err : goal.returns-in-Err
returns-in-Err c = stretch_empty _ _ c.in-Err.ensures

pub returns-in-Ok : goal.returns-in-Ok
returns-in-Ok c = stretch_found _ _ c.in-Ok.ensures
