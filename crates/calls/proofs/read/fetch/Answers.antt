-- `fetch` meets its contract: the stores of `fetch_from`, in their order. Assumes nothing.
use Rattle.calls.proofs.Laws.ReadCode.{fetch_all}
use Rattle.calls.proofs.read.fetch.Goals as goal

pub returns : goal.returns
returns c = search fetch_all
