use Rattle.entries.proofs.Laws.SurveyDirty.{KindsFrom}
use Rattle.entries.proofs.survey.kinds_sound.Given as goal

abbrev pub invariant-loop-item : goal.invariant-loop-item
invariant-loop-item l = KindsFrom l.notes l.items l.phase l.item l.sound l.dirty
