use Prim.Native.Nat.{◌+◌, ◌*◌, ◌≤◌}
use mathlib.Core.Path.{◌≡◌}
use Rattle.entries.specs.code.Row.{row_frames}
use Rattle.entries.proofs.frames.row_frames.Given as goal

abbrev pub invariant-loop-item : goal.invariant-loop-item
invariant-loop-item l = (l.n ≡ row_frames l.table l.start l.item) × (l.n ≤ 2 * l.items + 2 * l.item)
