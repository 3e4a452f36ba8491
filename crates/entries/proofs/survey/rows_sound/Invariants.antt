use Rattle.table.specs.View.{view}
use Rattle.entries.specs.code.SurveySound.{RowsSurveyed}
use Rattle.entries.proofs.survey.rows_sound.Given as goal

abbrev pub invariant-loop-node : goal.invariant-loop-node
invariant-loop-node l = RowsSurveyed l.g (view l.g l.table) l.node l.notes l.ok
