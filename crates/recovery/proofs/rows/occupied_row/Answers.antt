-- `occupied_row` meets its contract: the items before `item` are listed. Assumes nothing.
use native.Mathlib.Omega.{arith}
use Rattle.recovery.proofs.Laws.Rows.{listing_for, listing_ends}
use Rattle.recovery.proofs.rows.occupied_row.Goals as goal

pub loop-item-preserved : goal.loop-item-preserved
loop-item-preserved c = c.gather_one-count.ensures.lists _ (omega arith) (omega arith) c.loop-item.invariant

pub returns : goal.returns
returns c =
    listing_for c.gather_fours-count.ensures.size (listing_ends _ (omega arith) c.loop-item-test.false c.loop-item.invariant)
