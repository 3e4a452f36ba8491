-- `survey_of` meets its contract: a list and notes that are long enough, zero. Assumes nothing.
use native.Mathlib.Omega.{arith}
use lib.ListN.{length-replicate, get_or-replicate}
use Rattle.entries.proofs.Laws.SurveySound.{surveying_starts}
use Rattle.entries.proofs.survey.survey_of.Goals as goal

pub survey_in-requires : goal.survey_in-requires
survey_in-requires g c =
    let p = c.requires in
    surveying_starts p.1.1 (simp length-replicate p.0.0) (simp length-replicate p.1.0.0) (λ i l. get_or-replicate g.row.NOTES i 0 0 (omega (arith, p.1.0.0)))
