use Rattle.entries.specs.code.Row.{row_state}
use Rattle.entries.specs.code.SurveyGather.{Gathering}
use Rattle.entries.proofs.survey.occupied.Given as goal

abbrev pub invariant-loop-item : goal.invariant-loop-item
invariant-loop-item l = Gathering (row_state l.table l.start) l.item l.initial.list l.list l.count
