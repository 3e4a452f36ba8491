use mathlib.Core.Path.{◌≡◌}
use Rattle.counting.specs.Counting.{count}
use Rattle.checkpoints.proofs.Laws.CommitLength.{commits_at}
use Rattle.checkpoints.proofs.length.row_length.Given as goal

abbrev pub invariant-loop-item : goal.invariant-loop-item
invariant-loop-item l = l.found ≡ count (commits_at l.fn.g l.table l.node) l.item
