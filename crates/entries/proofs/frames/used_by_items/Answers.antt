-- `used_by_items` meets its contract: the frames of each item, added. Assumes nothing.
use Rattle.std.proofs.Common.{rules, tests, arith}
use Rattle.counting.proofs.Laws.Chains.{sum_below, fits_below}
use Rattle.entries.specs.Frames.{used}
use Rattle.entries.proofs.frames.used_by_items.Goals as goal

pub sum-requires-clause-fits : goal.sum-requires-clause-fits
sum-requires-clause-fits c = fits_below 65535 (omega arith) c.map.ensures.source c.map.ensures.closure (omega arith) (λ x r q k. search rules)

pub returns : goal.returns
unfolding used
returns c = sum_below _ c.sum.ensures.ran c.map.ensures.source c.map.ensures.closure (λ x r q k. search (rules, tests))
