-- `linkspan_read` meets its contract: the call that it wraps. Assumes nothing.
use Rattle.linkspan.proofs.Laws.Report.{reports_call}
use Rattle.linkspan.proofs.memory.linkspan_read.Goals as goal

pub returns : goal.returns
returns c = search reports_call
