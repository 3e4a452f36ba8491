-- `ready` meets its contract: a way of `evict_ready` for each way out. Assumes nothing.
use borrow.Author.Rules.{rules}
use Rattle.homes.proofs.Laws.EvictReady.{evict_failed, evict_turned, evict_leaves_by}
use Rattle.homes.proofs.evict.ready.Goals as goal

pub returns-in_err-g : goal.returns-in_err-g
returns-in_err-g c = search (rules, evict_failed)

pub returns-in_err-way : goal.returns-in_err-way
returns-in_err-way c = search (rules, evict_turned)

pub returns : goal.returns
returns c = evict_leaves_by _ _ _ _ c.in_ok-g.ensures c.in_ok-way.ensures
