-- `fours_frames` meets its contract: the frames of the entries before the four. Assumes nothing.
use Prim.Native.Nat.{◌+◌, ◌*◌}
use native.Mathlib.Omega.{arith}
use borrow.Author.Rules.{rules}
use Rattle.entries.proofs.Laws.RowFrames.{row_frames_none, row_frames_at, row_frames_four}
use Rattle.entries.proofs.frames.fours_frames.Goals as goal

pub loop-four-init : goal.loop-four-init
loop-four-init c = (row_frames_none _ _, search rules)

pub four_frames-n-requires : goal.four_frames-n-requires
four_frames-n-requires c = omega arith

pub loop-four-preserved : goal.loop-four-preserved
loop-four-preserved c =
    let k = c.loop-four.four in
    (row_frames_four _ _ (4 * k) (4 * (k + 1)) c.loop-four.invariant.0 (omega arith) (omega arith) c.four_frames-n.ensures.0, omega arith)

pub returns : goal.returns
returns c = (row_frames_at _ _ (4 * c.loop-four.four) _ c.loop-four.invariant.0 (omega arith), omega arith)
