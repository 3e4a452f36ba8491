-- `check` meets its contract: a yes, or the refusal. Assumes nothing.
use Rattle.table.proofs.Laws.Answers.{told_refused, told_done}
use Rattle.layout.proofs.Laws.Stretch.{check_failed, check_passed}
use Rattle.layout.proofs.check.check.Goals as goal

pub returns-in-Err : goal.returns-in-Err
returns-in-Err c = told_refused _ (check_failed _ c.in-Err.ensures)

pub returns-in-Ok : goal.returns-in-Ok
returns-in-Ok c = told_done _ (check_passed _ c.in-Ok.ensures)
