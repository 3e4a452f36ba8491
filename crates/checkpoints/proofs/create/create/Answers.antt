-- `create` meets its contract: a refusal, or the plan of the lowest dirty item. Assumes nothing.
use borrow.Author.Rules.{rules}
use Rattle.table.proofs.Laws.Answers.{meets_refused}
use Rattle.homes.proofs.Laws.Plans.{meets_as}
use Rattle.checkpoints.proofs.Laws.CreateCode.{create_refused, create_opened, create_surveyed}
use Rattle.checkpoints.proofs.create.create.Goals as goal

pub create_next-requires : goal.create_next-requires
create_next-requires c = create_surveyed _ c.in-Ok.ensures

pub returns-in-Err : goal.returns-in-Err
returns-in-Err c = meets_refused _ _ (create_refused _ c.in-Err.ensures)

pub returns-in-Ok : goal.returns-in-Ok
returns-in-Ok c =
    let m = meets_as (create_opened _ c.in-Ok.ensures) c.create_next.ensures.plan in
    search rules
