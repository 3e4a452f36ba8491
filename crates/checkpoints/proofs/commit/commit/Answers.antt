-- `commit` meets its contract: a refusal, or all its stores. Assumes nothing.
use mathlib.Core.Path.{sym}
use borrow.Author.Rules.{rules}
use Rattle.table.proofs.Laws.Answers.{meets_refused}
use Rattle.table.proofs.Laws.Made.{meets_made}
use Rattle.homes.proofs.Laws.Ready.{ready_tells, plan_refused, plan_ready}
use Rattle.checkpoints.proofs.Laws.ClosingCode.{passed_agreed}
use Rattle.checkpoints.proofs.commit.commit.Goals as goal

pub commit_stores-requires : goal.commit_stores-requires
commit_stores-requires c = passed_agreed _ _ (sym (ready_tells _ _ c.in-Ok.ensures).passed)

pub returns-in-Err : goal.returns-in-Err
returns-in-Err c = meets_refused _ _ (plan_refused _ _ _ c.in-Err.ensures)

pub returns-in-Ok : goal.returns-in-Ok
returns-in-Ok c = meets_made (plan_ready _ _ _ c.in-Ok.ensures) c.commit_stores.ensures (search rules)
