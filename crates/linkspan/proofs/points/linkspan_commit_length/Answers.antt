-- `linkspan_commit_length` meets its contract: the answer in numbers. Assumes nothing.
use Rattle.linkspan.proofs.Laws.Report.{told_tells}
use Rattle.linkspan.proofs.points.linkspan_commit_length.Goals as goal

pub returns : goal.returns
returns c = search told_tells
