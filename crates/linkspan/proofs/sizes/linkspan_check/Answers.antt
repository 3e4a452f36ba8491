-- `linkspan_check` meets its contract: the number of the answer. Assumes nothing.
use Rattle.linkspan.proofs.Laws.Report.{told_number}
use Rattle.linkspan.proofs.sizes.linkspan_check.Goals as goal

pub returns : goal.returns
returns c = search told_number
