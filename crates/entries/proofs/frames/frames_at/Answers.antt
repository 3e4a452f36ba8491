-- `frames_at` meets its contract: an entry of the set, or of another. Assumes nothing.
use mathlib.Core.Path.{ap, ◌∙◌}
use Rattle.entries.specs.Frames.{frames_in}
use Rattle.entries.proofs.Laws.Frames.{frames_here, frames_elsewhere}
use borrow.Author.Rules.{rules}
use Rattle.entries.proofs.frames.frames_at.Goals as goal

pub returns-then-set_of-set : goal.returns-then-set_of-set
returns-then-set_of-set c = (frames_elsewhere _ _ _ _ _ c.set_of.ensures c.if-set_of-set.true, search rules)

pub returns : goal.returns
returns c = (frames_here _ _ _ _ _ c.set_of.ensures c.if-set_of-set.false (c.frames_in.ensures.0 ∙ ap frames_in c.state_at.ensures), search rules)
