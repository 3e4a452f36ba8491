use Rattle.std.proofs.Common.{◌≡◌, length}
use Rattle.steps.specs.Run.{quay}
use Rattle.steps.specs.code.RunCode.{RunTo}
use Rattle.steps.proofs.run.run_records.Given as goal

abbrev pub invariant-loop-i : goal.invariant-loop-i
invariant-loop-i l =
    (length l.table ≡ length l.initial.table) × ((length l.scratch ≡ length l.initial.scratch)
    × RunTo (quay l.initial.table l.initial.scratch l.initial.progress) l.bytes l.initial.out (quay l.table l.scratch l.progress) l.out l.i l.to)
