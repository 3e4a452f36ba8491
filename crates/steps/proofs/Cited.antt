-- What the public functions ensure, as statements about lists: the contracts themselves, not copies of them, so that a
-- weaker one is refused here. `a` holds the arguments in the code's order, `s` the same at the exit, `r` is the result.
use Rattle.std.proofs.Common.{◌≡◌, ℕ, ◌*◌, List, ◌++◌, length, take}
use contract.Lifetimes
use borrow.Fn.World
use borrow.Fn.Kinds as Kinds
use denote.Triple.Clauses
use Rattle.steps.specs.Run.{quay, StepServed, lines_of, RecordsRun}
use Rattle.steps.specs.Lines.{line_bytes, BytesPut}
use Rattle.steps.proofs.Laws.Run.{run_then}
use Rattle.steps.specs.contracts.serve.serve as serve
use Rattle.steps.proofs.serve.serve.Kinds as serve_kinds
use Rattle.steps.proofs.serve.serve.Reads as serve_reads
use Rattle.steps.specs.contracts.lines.line as line
use Rattle.steps.proofs.lines.line.Kinds as line_kinds
use Rattle.steps.proofs.lines.line.Reads as line_reads
use Rattle.steps.specs.contracts.run.run_chunk as run_chunk
use Rattle.steps.proofs.run.run_chunk.Kinds as run_chunk_kinds
use Rattle.steps.proofs.run.run_chunk.Reads as run_chunk_reads

pub serve_says :
    (κs : Lifetimes.Lfts 2) (a : World.ArgsD serve.signature κs) (r : World.ResD serve.signature κs)
    (s : Clauses.AtExit (Kinds.ended_of 2 serve_kinds.ps serve_kinds.r) κs) → serve_reads.Learnt κs a r s
    → StepServed (quay a.0.now a.1.0.now a.1.1.0) a.1.1.1.0
    (quay s.0.now s.1.0.now r.progress) r.numbers
serve_says κs a r s h = h

pub line_says :
    (κs : Lifetimes.Lfts 1) (a : World.ArgsD line.signature κs) (r : World.ResD line.signature κs)
    (s : Clauses.AtExit (Kinds.ended_of 1 line_kinds.ps line_kinds.r) κs) → line_reads.Learnt κs a r s
    → BytesPut (line_bytes a.0 a.1.0) a.1.1.0.now s.1.1.0.now r
line_says κs a r s h = h

pub run_chunk_says :
    (κs : Lifetimes.Lfts 4) (a : World.ArgsD run_chunk.signature κs) (r : World.ResD run_chunk.signature κs)
    (s : Clauses.AtExit (Kinds.ended_of 4 run_chunk_kinds.ps run_chunk_kinds.r) κs) → run_chunk_reads.Learnt κs a r s
    → RecordsRun (quay a.0.now a.1.0.now a.1.1.0) (take a.1.1.1.1.0 a.1.1.1.0.now)
    (quay s.0.now s.1.0.now r.progress) a.1.1.1.1.1.0.now s.1.1.1.1.1.0.now r.count
run_chunk_says κs a r s h = h

-- so the bytes that a full chunk has written, and then the lines of the rest of the file, are the lines of the whole
pub run_chunk_then :
    (k : ℕ) (rest : List ℕ) (κs : Lifetimes.Lfts 4) (a : World.ArgsD run_chunk.signature κs) (r : World.ResD run_chunk.signature κs)
    (s : Clauses.AtExit (Kinds.ended_of 4 run_chunk_kinds.ps run_chunk_kinds.r) κs) → run_chunk_reads.Learnt κs a r s
    → length (take a.1.1.1.1.0 a.1.1.1.0.now) ≡ 16 * k
    → lines_of (quay a.0.now a.1.0.now a.1.1.0) (take a.1.1.1.1.0 a.1.1.1.0.now ++ rest)
    ≡ take r.count s.1.1.1.1.1.0.now ++ lines_of (quay s.0.now s.1.0.now r.progress) rest
run_chunk_then k rest κs a r s h whole = run_then k rest a.1.1.1.1.1.0.now whole (run_chunk_says κs a r s h)
