-- `first_holder` meets its contract: the first node that holds such a copy. Assumes nothing.
use Rattle.std.proofs.Common.{◌∙◌, rules, tests}
use Rattle.counting.proofs.Laws.Chains.{find_below}
use Rattle.homes.specs.Holders.{first_holder}
use Rattle.homes.proofs.holders.first_holder.Goals as goal

pub returns : goal.returns
unfolding first_holder
returns c = c.unwrap_or.ensures ∙ find_below _ _ _ c.find.ensures.ran (λ x b q k. search (rules, tests))
