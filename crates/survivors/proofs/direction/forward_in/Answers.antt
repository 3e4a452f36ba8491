-- `forward_in` meets its contract: it asks of each node. Assumes nothing.
use Rattle.std.proofs.Common.{rules, tests}
use Rattle.counting.proofs.Laws.Chains.{any_below}
use Rattle.survivors.specs.Direction.{forward_in}
use Rattle.survivors.proofs.direction.forward_in.Goals as goal

pub returns : goal.returns
unfolding forward_in
returns c = any_below _ c.any.ensures.ran (λ x b q k. search (rules, tests))
