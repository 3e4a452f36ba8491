use Prim.Native.Nat.{◌*◌, ◌≤◌}
use mathlib.Core.Path.{◌≡◌}
use Rattle.entries.specs.code.Row.{row_frames}
use Rattle.entries.proofs.frames.fours_frames.Given as goal

abbrev pub invariant-loop-four : goal.invariant-loop-four
invariant-loop-four l = (l.n ≡ row_frames l.table l.start (4 * l.four)) × (l.n ≤ 8 * l.four)
