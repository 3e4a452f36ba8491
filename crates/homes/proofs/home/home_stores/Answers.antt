-- `home_stores` meets its contract: taken over, or a drop and then the copy. Assumes nothing.
use Rattle.table.proofs.Laws.Made.{made_as, made_turn}
use Rattle.homes.proofs.Laws.HomeCode.{home_takes_over, home_arrives}
use Rattle.homes.proofs.home.home_stores.Goals as goal

pub returns-then-a : goal.returns-then-a
returns-then-a c = made_as (home_takes_over _ _ _ _ _ _ c.if-a.true) c.store_state.ensures

pub returns-else-a : goal.returns-else-a
returns-else-a c =
    let d = c.drop_copy.ensures in
    made_turn d c.arrive.ensures (home_arrives _ _ _ _ _ _ c.if-a.false d.stored)
