use mathlib.Core.Path.{◌≡◌}
use lib.ListN.{length}
use Rattle.restore.specs.Rehearsal.{put_to}
use Rattle.restore.proofs.rehearse.put_words.Given as goal

abbrev pub invariant-loop-i : goal.invariant-loop-i
invariant-loop-i l =
    (length l.table ≡ length l.initial.table) × (l.table ≡ put_to l.g l.node l.words l.i l.initial.table)
