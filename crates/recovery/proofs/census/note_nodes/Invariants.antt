use mathlib.Core.Path.{◌≡◌}
use Rattle.counting.specs.Counting.{every}
use Rattle.table.specs.View.{view}
use Rattle.survivors.specs.Survivors.{survivors}
use Rattle.recovery.specs.code.Notes.{equal_to}
use Rattle.recovery.specs.code.Census.{CensusTo}
use Rattle.recovery.proofs.Laws.CensusLaws.{node_formed}
use Rattle.recovery.proofs.census.note_nodes.Given as goal

abbrev pub invariant-loop-node : goal.invariant-loop-node
invariant-loop-node l =
    CensusTo l.g l.forward (survivors l.lost (view l.g l.table)) l.node l.tallies l.firsts l.used
    × ((l.formed ≡ every (node_formed l.g (survivors l.lost (view l.g l.table))) l.node) × (l.agree ≡ equal_to l.g l.forward (survivors l.lost (view l.g l.table)) l.node))
