-- `linkspan_abandon` meets its contract: the call that it wraps. Assumes nothing.
use Rattle.linkspan.proofs.Laws.Report.{reports_call}
use Rattle.linkspan.proofs.points.linkspan_abandon.Goals as goal

pub returns : goal.returns
returns c = search reports_call
