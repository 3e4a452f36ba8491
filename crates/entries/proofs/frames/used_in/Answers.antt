-- `used_in` meets its contract: by the row, or item by item. Assumes nothing.
use Prim.Native.Nat.{◌+◌, ◌*◌}
use lib.ListN.{length}
use Rattle.entries.proofs.Laws.RowFrames.{row_within, row_used}
use Rattle.entries.proofs.frames.used_in.Goals as goal

pub row_frames-requires : goal.row_frames-requires
row_frames-requires c =
    let a = c.args in
    (c.entry_at-start.ensures.small, row_within a.g a.node a.set c.sets.result _ _ c.if-whole.true)

pub returns-then-whole : goal.returns-then-whole
returns-then-whole c =
    let a = c.args in
    row_used _ _ _ _ (c.entry_at-start.result + 3 * a.g.items) (length a.table.now) c.if-whole.true _ c.entry_at-start.ensures c.sets.ensures c.row_frames.ensures
