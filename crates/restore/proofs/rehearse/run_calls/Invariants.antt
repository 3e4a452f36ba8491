use mathlib.Core.Path.{◌≡◌}
use lib.ListN.{length}
use Rattle.restore.specs.Run.{run}
use Rattle.restore.specs.Rehearsal.{steps_to, scratch_run}
use Rattle.restore.proofs.rehearse.run_calls.Given as goal

abbrev pub invariant-loop-i : goal.invariant-loop-i
invariant-loop-i l =
    (length l.scratch ≡ length l.initial.scratch) × ((length l.table ≡ length l.initial.table)
    × ((l.table ≡ run l.initial.table (steps_to l.calls (length l.initial.scratch) l.i)) × (l.scratch ≡ scratch_run l.initial.table (steps_to l.calls (length l.initial.scratch) l.i) l.initial.scratch)))
