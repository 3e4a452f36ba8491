-- `run_file` has run whole chunks.
use Rattle.steps.specs.Run.{quay, start}
use Rattle.quay.proofs.Chunks.{ChunksRun}
use Rattle.quay.proofs.run.run_file.Given as goal

abbrev pub invariant-loop : goal.invariant-loop
invariant-loop g l =
    ChunksRun start (quay l.table l.scratch l.progress)
    (g.R.Read.remaining l.initial.file) (g.R.Read.remaining l.file)
    (g.W.Write.contents l.initial.lines) (g.W.Write.contents l.lines)
