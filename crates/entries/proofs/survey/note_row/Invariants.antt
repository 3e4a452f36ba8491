use Prim.Native.Nat.{ℕ}
use Rattle.entries.proofs.Laws.SurveyNoting.{NotedTo}
use Rattle.entries.proofs.survey.note_row.Given as goal

abbrev pub invariant-loop-offset : goal.invariant-loop-offset
invariant-loop-offset l = (p : ℕ) × NotedTo l.fn.g l.table l.node l.start p l.offset-index l.notes l.frames l.differ
