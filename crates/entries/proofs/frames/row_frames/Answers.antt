-- `row_frames` meets its contract: the frames of the entries before the item. Assumes nothing.
use native.Mathlib.Omega.{arith}
use mathlib.Core.Path.{refl}
use Rattle.entries.proofs.Laws.RowFrames.{row_frames_at, row_frames_next}
use Rattle.entries.proofs.frames.row_frames.Goals as goal

pub loop-item-init : goal.loop-item-init
loop-item-init c = (row_frames_at _ _ _ _ c.fours_frames-n.ensures.0 (omega arith), omega arith)

pub loop-item-preserved : goal.loop-item-preserved
loop-item-preserved c =
    let i = c.loop-item.invariant in
    (row_frames_next _ _ c.loop-item.item i.0 refl c.frames_in-n.ensures.0, omega arith)

pub returns : goal.returns
returns c = row_frames_at _ _ _ _ c.loop-item.invariant.0 (omega arith)
