-- `largest_number` meets its contract: it folds the nodes' numbers to the largest. Assumes nothing.
use Rattle.std.proofs.Common.{rules, max, refl}
use Rattle.counting.proofs.Laws.Chains.{fold_below}
use Rattle.survivors.specs.Survivors.{largest, largest_number}
use Rattle.survivors.proofs.closing.largest_number.Goals as goal

pub returns : goal.returns
unfolding largest_number largest
returns c =
    fold_below _ max (largest _) refl (λ k. refl) c.fold.ensures.ran c.map.ensures.source c.map.ensures.closure
    (λ x r q k. search rules) (λ a x b q k. search rules)
