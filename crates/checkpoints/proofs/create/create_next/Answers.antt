-- `create_next` meets its contract: an item, or 17. Assumes nothing.
use Rattle.checkpoints.proofs.Laws.CreateCode.{none_left, next_meets}
use Rattle.homes.proofs.Laws.Plans.{meets_nothing}
use Rattle.checkpoints.proofs.create.create_next.Goals as goal

pub returns-then-item-stores-clause-plan : goal.returns-then-item-stores-clause-plan
returns-then-item-stores-clause-plan c = next_meets _ _ c.requires c.if-item-stores.true c.create_item.ensures.plan

pub returns-clause-plan : goal.returns-clause-plan
returns-clause-plan c = meets_nothing _ _ (none_left _ _ c.requires c.if-item-stores.false)
