-- `frames_by` meets its contract: the table has the frames of each of the 64 values. Assumes nothing.
use Rattle.std.proofs.Common.{arith, ◌∙◌}
use Rattle.std.proofs.lemmas.List.FromFn.{get_or-map-range_with_len}
use Rattle.entries.proofs.Laws.Frames.{frames_two}
use Rattle.entries.proofs.Laws.RowFrames.{code_frames, frames_top}
use Rattle.entries.specs.code.Row.{top_of}
use Rattle.entries.proofs.frames.frames_by.Goals as goal

pub returns : goal.returns
returns c =
    let w = c.args.state in
    let e = get_or-map-range_with_len code_frames 0 64 (top_of w) (top_of w) 0 (omega (arith, c.ranges.state.fits)) (omega arith) ∙ frames_top w in
    (e, omega (arith, e, frames_two w))
