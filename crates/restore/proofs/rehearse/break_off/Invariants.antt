use mathlib.Core.Path.{◌≡◌}
use lib.ListN.{length, drop}
use Rattle.restore.specs.Rehearsal.{broken_at, scratch_broken_at}
use Rattle.restore.proofs.rehearse.break_off.Given as goal

abbrev pub invariant-loop-limit : goal.invariant-loop-limit
invariant-loop-limit l =
    (length l.scratch ≡ length l.initial.scratch) × ((length l.table ≡ length l.initial.table)
    × ((broken_at l.lost (length l.initial.scratch) (drop l.limit-index l.limits) l.table ≡ broken_at l.lost (length l.initial.scratch) l.limits l.initial.table)
    × (scratch_broken_at l.lost (length l.initial.scratch) (drop l.limit-index l.limits) l.table l.scratch ≡ scratch_broken_at l.lost (length l.initial.scratch) l.limits l.initial.table l.initial.scratch)))
