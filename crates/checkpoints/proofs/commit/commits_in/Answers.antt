-- `commits_in` meets its contract: a code alone, or the two places. Assumes nothing.
use Rattle.checkpoints.proofs.Laws.Closing.{commits_not}
use Rattle.checkpoints.proofs.commit.commits_in.Goals as goal

pub returns-then-rotate_left-lt6 : goal.returns-then-rotate_left-lt6
returns-then-rotate_left-lt6 c = commits_not _ (rw c.rotate_left.ensures at c.if-rotate_left-lt6.true)
