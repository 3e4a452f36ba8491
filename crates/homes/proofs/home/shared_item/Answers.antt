-- `shared_item` meets its contract: the first item that is Shared there. Assumes nothing.
use Rattle.std.proofs.Common.{◌∙◌, rules, tests}
use Rattle.counting.proofs.Laws.Chains.{find_below}
use Rattle.homes.specs.Home.{shared_item}
use Rattle.homes.proofs.home.shared_item.Goals as goal

pub returns : goal.returns
unfolding shared_item
returns c = c.unwrap_or.ensures ∙ find_below _ _ _ c.find.ensures.ran (λ x b q k. search (rules, tests))
