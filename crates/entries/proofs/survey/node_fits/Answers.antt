-- `node_fits` meets its contract: frames that are one set, or any sets. Assumes nothing.
use mathlib.Core.Path.{sym, ap, ◌∙◌}
use lib.Dec.{leb}
use Rattle.entries.proofs.Laws.SurveySound.{fits_one, fits_sets}
use Rattle.entries.proofs.survey.node_fits.Goals as goal

pub returns-then-sets-eq1 : goal.returns-then-sets-eq1
returns-then-sets-eq1 c = ap (leb _) c.set_frames.ensures ∙ fits_one _ _ _ _ c.requires (sym c.sets.ensures ∙ c.if-sets-eq1.true)

pub returns : goal.returns
returns c = rw (sym c.frames_fit.ensures) at (fits_sets _ _ _ _ c.requires)
