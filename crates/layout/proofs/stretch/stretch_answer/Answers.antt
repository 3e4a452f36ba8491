-- `stretch_answer` meets its contract: a yes, or the refusal. Assumes nothing.
use Rattle.table.proofs.Laws.Answers.{told_refused}
use Rattle.layout.proofs.Laws.Stretch.{answer_refused, answer_yes}
use Rattle.layout.proofs.stretch.stretch_answer.Goals as goal

pub returns-in-Err : goal.returns-in-Err
returns-in-Err c = told_refused _ (answer_refused _ _ c.in-Err.ensures)

pub returns-in-Ok : goal.returns-in-Ok
returns-in-Ok c = answer_yes _ _ c.in-Ok.ensures
