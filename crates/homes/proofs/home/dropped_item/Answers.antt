-- `dropped_item` meets its contract: none, or the lowest Shared copy. Assumes nothing.
use Rattle.homes.proofs.Laws.HomeCode.{drops_none, drops_shared}
use Rattle.homes.proofs.home.dropped_item.Goals as goal

pub returns-then-framed : goal.returns-then-framed
returns-then-framed c = drops_none _ _ _ _ c.frame_free-framed.ensures c.if-framed.true

pub returns-else-framed : goal.returns-else-framed
returns-else-framed c = drops_shared _ _ _ _ c.frame_free-framed.ensures c.if-framed.false c.shared_item.ensures
