-- `linkspan_recover` meets its contract: the call that it wraps, or 18. Assumes nothing.
use Rattle.linkspan.proofs.Laws.Report.{recover_malformed, recover_planned}
use Rattle.linkspan.proofs.Laws.Arguments.{recover_unasked, recover_asked_lem}
use Rattle.linkspan.proofs.recovering.linkspan_recover.Goals as goal

pub returns-then-none-gt1 : goal.returns-then-none-gt1
returns-then-none-gt1 c = search (recover_malformed, recover_unasked)

pub returns : goal.returns
returns c = search (recover_planned, recover_asked_lem)
