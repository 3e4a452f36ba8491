-- `drop_copy` meets its contract: one store or none. Assumes nothing.
use Rattle.table.proofs.Laws.Made.{made_as, made_none}
use Rattle.homes.proofs.Laws.HomeCode.{drop_made, drop_nothing}
use Rattle.homes.proofs.home.drop_copy.Goals as goal

pub returns-in-Some : goal.returns-in-Some
returns-in-Some c = made_as (drop_made _ _ c.in-Some.is c.kept_of-kept.ensures) c.store_state.ensures

pub returns-in_default : goal.returns-in_default
returns-in_default c = made_as (drop_nothing _ _ c.in_default.is) (made_none _)
