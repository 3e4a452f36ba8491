-- `gather_fours` meets its contract: the entries before the four are gathered. Assumes nothing.
use native.Mathlib.Omega.{arith}
use Rattle.entries.proofs.Laws.SurveyGather.{gathering_at, gathering_none}
use Rattle.entries.proofs.survey.gather_fours.Goals as goal

pub loop-four-init : goal.loop-four-init
loop-four-init c = gathering_none _ _

pub loop-four-preserved : goal.loop-four-preserved
loop-four-preserved c = gathering_at (c.gather_four-count.ensures.gathers (omega arith) (omega arith) c.loop-four.invariant) (omega arith)

pub returns : goal.returns
returns c = gathering_at c.loop-four.invariant (omega arith)
