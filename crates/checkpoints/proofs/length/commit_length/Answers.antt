-- `commit_length` meets its contract: a refusal, or the number of stores. Assumes nothing.
use mathlib.Core.Path.{sym}
use Rattle.table.proofs.Laws.Answers.{told_refused, told_done}
use Rattle.homes.proofs.Laws.Ready.{ready_tells}
use Rattle.checkpoints.proofs.Laws.CommitLength.{length_refused, length_is}
use Rattle.checkpoints.proofs.Laws.ClosingCode.{passed_agreed}
use Rattle.checkpoints.proofs.length.commit_length.Goals as goal

pub stores_length-value-requires : goal.stores_length-value-requires
stores_length-value-requires c = (passed_agreed _ _ (sym (ready_tells _ _ c.in-Ok.ensures).passed)).long

pub returns-in-Err : goal.returns-in-Err
returns-in-Err c = told_refused _ (length_refused _ c.in-Err.ensures)

pub returns-in-Ok : goal.returns-in-Ok
returns-in-Ok c = told_done _ (length_is _ c.in-Ok.ensures c.stores_length-value.ensures)
