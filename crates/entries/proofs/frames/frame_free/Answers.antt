-- `frame_free` meets its contract: told by the state word, or counted. Assumes nothing.
use Rattle.entries.proofs.Laws.Frames.{free_told, free_counted}
use Rattle.entries.proofs.frames.frame_free.Goals as goal

pub returns-then-ample-half : goal.returns-then-ample-half
returns-then-ample-half c = free_told _ _ _ _ c.ample.ensures c.state_at-state.ensures c.current_of.ensures c.kept_of.ensures c.if-ample-half.true

pub returns : goal.returns
returns c = free_counted _ _ _ c.args.item c.set_of.ensures c.used_in.ensures c.set_frames.ensures
