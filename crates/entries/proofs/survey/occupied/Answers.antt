-- `occupied` meets its contract: the entries before the item are gathered. Assumes nothing.
use native.Mathlib.Omega.{arith}
use mathlib.Core.Path.{refl}
use Rattle.entries.proofs.Laws.SurveyGather.{gathering_at, gathering_on, gathering_ends}
use Rattle.entries.proofs.survey.occupied.Goals as goal

pub loop-item-init : goal.loop-item-init
loop-item-init c = gathering_at (gathering_on c.gather_fours-count.ensures) (omega arith)

pub loop-item-preserved : goal.loop-item-preserved
loop-item-preserved c = c.gather_one-count.ensures.gathers refl (omega arith) c.loop-item.invariant

pub returns : goal.returns
returns c = gathering_ends c.loop-item.invariant (omega arith) c.loop-item-test.false (omega arith)
