-- `linkspan_evict` meets its contract: the call that it wraps, or 18. Assumes nothing.
use Rattle.linkspan.proofs.Laws.Report.{reports_malformed, reports_planned}
use Rattle.linkspan.proofs.Laws.Arguments.{evict_malformed, evict_asked_lem}
use Rattle.linkspan.proofs.memory.linkspan_evict.Goals as goal

pub returns-then-place-gt1 : goal.returns-then-place-gt1
returns-then-place-gt1 c = search (reports_malformed, evict_malformed)

pub returns : goal.returns
returns c = search (reports_planned, evict_asked_lem)
