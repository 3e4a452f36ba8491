use mathlib.Core.Path.{◌≡◌}
use mathlib.Core.Bool.{not}
use lib.Dec.{eqb}
use lib.ListN.{get_or}
use Rattle.counting.specs.Counting.{every}
use Rattle.recovery.specs.code.Tallies.{plain}
use Rattle.recovery.proofs.census.kinds_of.Given as goal

abbrev pub invariant-loop-tally : goal.invariant-loop-tally
invariant-loop-tally l =
    (l.seen ≡ every (λ j. not (eqb (get_or l.tallies j 0) 0)) l.tally-index) × (l.plain ≡ every (λ j. plain (get_or l.tallies j 0)) l.tally-index)
