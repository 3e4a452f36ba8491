-- `gather_fours` meets its contract: the items before the next four are listed. Assumes nothing.
use native.Mathlib.Omega.{arith}
use Rattle.recovery.proofs.Laws.Rows.{listing_at, listing_none}
use Rattle.recovery.proofs.rows.gather_fours.Goals as goal

pub loop-four-init : goal.loop-four-init
loop-four-init c = listing_none _ _

pub loop-four-preserved : goal.loop-four-preserved
loop-four-preserved c = listing_at (omega arith) (c.gather_four-count.ensures.lists _ (omega arith) (omega arith) c.loop-four.invariant)

pub returns : goal.returns
returns c = listing_at (omega arith) c.loop-four.invariant
