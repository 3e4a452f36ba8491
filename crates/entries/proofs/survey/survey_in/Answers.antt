-- `survey_in` meets its contract: the rows, and then the items by what is noted. Assumes nothing.
use mathlib.Core.Path.{◌∙◌}
use Rattle.entries.proofs.Laws.SurveyDirty.{survey_fails, survey_found}
use Rattle.entries.proofs.survey.survey_in.Goals as goal

pub returns-then-not-rows_sound : goal.returns-then-not-rows_sound
returns-then-not-rows_sound c = survey_fails _ c.args.phase c.requires.table c.rows_sound.ensures c.if-not-rows_sound.true

pub kinds_sound-requires : goal.kinds_sound-requires
kinds_sound-requires c = c.rows_sound.ensures.noted.long

pub returns : goal.returns
returns c = c.kinds_sound.ensures ∙ survey_found _ c.args.phase c.requires.table c.rows_sound.ensures c.if-not-rows_sound.false
