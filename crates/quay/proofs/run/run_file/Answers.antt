-- `run_file` gives the lines of the whole file: chunk after chunk, to the short one.
use Rattle.quay.proofs.Chunks.{chunks_none, chunks_next, chunks_end}
use Rattle.quay.proofs.run.run_file.Goals as goal

pub loop-init : goal.loop-init
loop-init g c = rw (c.table-table.ensures, c.scratch-scratch.ensures, c.start-progress.ensures) chunks_none

pub returns-in-Break-clause-lines : goal.returns-in-Break-clause-lines
returns-in-Break-clause-lines g c = chunks_end c.loop.invariant c.in_ok-after.ensures c.in-Break.is

pub loop-preserved : goal.loop-preserved
loop-preserved g c = chunks_next c.loop.invariant c.in_ok-after.ensures c.in-Continue.is
