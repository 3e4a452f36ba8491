-- `frame_full` meets its contract: needed, and no frame of the set free. Assumes nothing.
use mathlib.Core.Path.{◌∙◌}
use Rattle.homes.proofs.Laws.Admission.{frame_spared, frame_asked}
use Rattle.homes.proofs.admission.frame_full.Goals as goal

pub returns-then-needed : goal.returns-then-needed
returns-then-needed c = frame_asked _ _ _ _ c.if-needed.true c.frame_free.ensures

pub returns-else-needed : goal.returns-else-needed
returns-else-needed c = c.if-needed.false ∙ frame_spared _ _ _ _ c.if-needed.false
