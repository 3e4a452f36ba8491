-- `drop_at` meets its contract: an item's copy, or none. Assumes nothing.
use Rattle.table.specs.View.{view}
use Rattle.homes.proofs.Laws.HomeCode.{drop_some, drop_none}
use Rattle.homes.proofs.home.drop_at.Goals as goal

pub returns-then-item-g : goal.returns-then-item-g
returns-then-item-g c =
    drop_some c.args.g (view c.args.g c.args.table.now) _ _ c.if-item-g.true c.state_at-state.ensures

pub returns : goal.returns
returns c = drop_none c.args.g (view c.args.g c.args.table.now) c.args.h _ c.if-item-g.false
