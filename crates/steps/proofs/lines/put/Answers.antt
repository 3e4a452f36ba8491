-- `put` meets its contract: the bytes stand at the place. Assumes nothing.
use Rattle.steps.proofs.Laws.Lines.{put_whole}
use Rattle.steps.proofs.lines.put.Goals as goal

pub returns : goal.returns
returns c = put_whole _ _ _ c.requires c.copy_from_slice.ensures.after
