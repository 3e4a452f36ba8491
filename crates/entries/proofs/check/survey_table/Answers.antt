-- `survey_table` meets its contract: the sizes, and then the survey. Assumes nothing.
use mathlib.Core.Path.{sym}
use Rattle.std.proofs.lemmas.Result.{err_from_is_err_and}
use Rattle.entries.proofs.Laws.CheckFacts.{sizes_surveyable}
use Rattle.entries.proofs.Laws.Check.{survey_unsized, survey_unsound, survey_sound}
use Rattle.entries.proofs.check.survey_table.Goals as goal

pub returns-in_err-g : goal.returns-in_err-g
returns-in_err-g c =
    let p = err_from_is_err_and c.from_residual.result c.from_residual.ensures.1 in
    rw (p.1, p.2) (survey_unsized _ c.in_err-g.ensures)

pub table_sound-requires : goal.table_sound-requires
table_sound-requires c = sizes_surveyable _ _ (sym c.in_ok-g.ensures)

pub returns-in_err-item : goal.returns-in_err-item
returns-in_err-item c =
    let p = err_from_is_err_and c.from_residual-in_err-item.result c.from_residual-in_err-item.ensures.1 in
    let e = c.in_err-item.ensures in
    rw (p.1, p.2) (survey_unsound _ c.in_ok-g.ensures c.table_sound.ensures e.ok_part e.value)

pub returns : goal.returns
returns c = survey_sound _ c.in_ok-g.ensures c.table_sound.ensures c.in_ok-item.ensures.ok_part
