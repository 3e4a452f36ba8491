use Prim.Native.Nat.{◌≤◌, ◌*◌}
use mathlib.Core.Path.{◌≡◌}
use Rattle.counting.specs.Counting.{sum}
use Rattle.table.specs.View.{view}
use Rattle.checkpoints.specs.code.CommitCode.{node_length}
use Rattle.checkpoints.proofs.length.stores_length.Given as goal

abbrev pub invariant-loop-node : goal.invariant-loop-node
invariant-loop-node l =
    ((l.found ≡ sum (node_length l.g (view l.g l.table)) l.node) × (l.found ≤ l.node * 65537))
