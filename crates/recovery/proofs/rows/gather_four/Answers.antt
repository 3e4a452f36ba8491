-- `gather_four` meets its contract: one entry, and one more three times. Assumes nothing.
use native.Mathlib.Omega.{arith}
use Rattle.recovery.proofs.Laws.Rows.{listed_then}
use Rattle.recovery.proofs.rows.gather_four.Goals as goal

pub returns : goal.returns
returns c =
    listed_then
    (listed_then
    (listed_then c.gather_one-first.ensures (omega arith) (omega arith) c.gather_one-second.ensures)
    (omega arith)
    (omega arith)
    c.gather_one-third.ensures)
    (omega arith)
    (omega arith)
    c.gather_one.ensures
