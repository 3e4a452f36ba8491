-- `survivor_count` meets its contract: it counts the nodes whose mark is not 0. Assumes nothing.
use Rattle.std.proofs.Common.{rules, tests}
use Rattle.counting.proofs.Laws.Chains.{count_below}
use Rattle.survivors.specs.Survivors.{survivor_count}
use Rattle.survivors.proofs.nodes.survivor_count.Goals as goal

pub returns : goal.returns
unfolding survivor_count
returns c =
    (count_below _ c.count.ensures.ran c.filter.ensures.source c.filter.ensures.closure (λ x b q k. search (rules, tests)), search rules)
