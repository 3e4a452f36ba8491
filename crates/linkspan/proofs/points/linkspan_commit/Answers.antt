-- `linkspan_commit` meets its contract: the call that it wraps. Assumes nothing.
use Rattle.linkspan.proofs.Laws.Report.{reports_call}
use Rattle.linkspan.proofs.points.linkspan_commit.Goals as goal

pub returns : goal.returns
returns c = search reports_call
