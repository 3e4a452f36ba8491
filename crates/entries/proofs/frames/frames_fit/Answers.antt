-- `frames_fit` meets its contract: each set is asked. Assumes nothing.
use Rattle.std.proofs.Common.{rules, tests, ap, ◌∙◌}
use Rattle.counting.specs.Counting.{every}
use Rattle.counting.proofs.Laws.Chains.{all_below}
use Rattle.entries.specs.Frames.{frames_fit}
use Rattle.entries.proofs.frames.frames_fit.Goals as goal

pub returns : goal.returns
unfolding frames_fit
returns c = all_below _ c.all.ensures.ran (λ x r q k. search (rules, tests)) ∙ ap (every _) c.sets.ensures
