-- `check_table` meets its contract: the item is dropped. Assumes nothing.
use mathlib.Core.Path.{refl}
use Rattle.std.proofs.lemmas.Result.{err_from_is_err_and}
use Rattle.entries.proofs.Laws.Check.{refused_failed, sound_passed}
use Rattle.entries.proofs.check.check_table.Goals as goal

pub returns-in_err-survey_table : goal.returns-in_err-survey_table
returns-in_err-survey_table c =
    let p = err_from_is_err_and c.from_residual.result c.from_residual.ensures.1 in
    rw (p.1, p.2) (refused_failed _ c.in_err-survey_table.ensures refl)

pub returns : goal.returns
returns c = (sound_passed _ c.in_ok-survey_table.ensures refl).0
