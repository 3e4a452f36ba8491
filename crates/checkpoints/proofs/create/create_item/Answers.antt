-- `create_item` meets its contract: a sharer, 11, or a home. Assumes nothing.
use mathlib.Core.Path.{refl}
use Rattle.table.proofs.Laws.Answers.{meets_refused}
use Rattle.table.proofs.Laws.Made.{meets_made}
use Rattle.checkpoints.proofs.Laws.CreateCode.{item_shared, item_none, item_taken}
use Rattle.checkpoints.proofs.create.create_item.Goals as goal

pub returns-then-sharer-stores-clause-plan : goal.returns-then-sharer-stores-clause-plan
returns-then-sharer-stores-clause-plan c =
    meets_made
    (item_shared _ _ _ c.first_holder-owner.ensures c.first_holder-sharer.ensures
    c.if-sharer-stores.true)
    c.turn_sharer.ensures refl

pub returns-then-home-owner-clause-plan : goal.returns-then-home-owner-clause-plan
returns-then-home-owner-clause-plan c =
    meets_refused _ _
    (item_none _ _ _ c.first_holder-owner.ensures c.first_holder-sharer.ensures
    c.if-sharer-stores.false c.home_of-home.ensures c.if-home-owner.true)

pub returns-clause-plan : goal.returns-clause-plan
returns-clause-plan c =
    meets_made
    (item_taken _ _ _ c.first_holder-owner.ensures c.first_holder-sharer.ensures
    c.if-sharer-stores.false c.home_of-home.ensures c.if-home-owner.false)
    c.bring_home.ensures refl
