-- `take` meets its contract: what the nodes and the tallies tell. Assumes nothing.
use Rattle.table.specs.View.{view}
use Rattle.survivors.specs.Survivors.{survivors}
use Rattle.recovery.proofs.Laws.CensusLaws.{taken}
use Rattle.recovery.proofs.census.take.Goals as goal

pub returns : goal.returns
returns c = taken c.args.g c.args.forward (survivors c.args.lost (view c.args.g c.args.table.now)) c.note_nodes-found.ensures c.kinds_of-kinds.ensures
