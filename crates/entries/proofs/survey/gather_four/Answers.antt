-- `gather_four` meets its contract: one entry, and one more three times. Assumes nothing.
use native.Mathlib.Omega.{arith}
use Rattle.entries.proofs.Laws.SurveyGather.{gathered_then}
use Rattle.entries.proofs.survey.gather_four.Goals as goal

pub returns : goal.returns
returns c =
    gathered_then
    (gathered_then
    (gathered_then c.gather_one-first.ensures (omega arith) c.gather_one-second.ensures)
    (omega arith)
    c.gather_one-third.ensures)
    (omega arith)
    c.gather_one.ensures
