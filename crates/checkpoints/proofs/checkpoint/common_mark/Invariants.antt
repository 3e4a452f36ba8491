use mathlib.Core.Path.{◌≡◌}
use Rattle.counting.specs.Counting.{first}
use Rattle.table.specs.View.{view, live}
use Rattle.checkpoints.proofs.checkpoint.common_mark.Given as goal

abbrev pub invariant-loop-node : goal.invariant-loop-node
invariant-loop-node l = (first (live (view l.g l.table)) l.node ≡ l.node)
