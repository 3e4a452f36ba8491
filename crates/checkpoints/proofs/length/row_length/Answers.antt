-- `row_length` meets its contract: the loop has counted the entries before `item`. Assumes nothing.
use native.Mathlib.Omega.{arith}
use Rattle.counting.proofs.Laws.Counting.{count_none, count_le, bit_counted}
use Rattle.checkpoints.proofs.Laws.CommitLength.{commits_at, row_turn, row_end}
use Rattle.checkpoints.proofs.Laws.Checkpoint.{entry_lies, lies_within}
use Rattle.checkpoints.proofs.length.row_length.Goals as goal

pub loop-item-init : goal.loop-item-init
loop-item-init c = count_none _

pub bounds-table-start : goal.bounds-table-start
bounds-table-start c = omega (arith, lies_within (entry_lies c.args.g _ _ c.requires.0 c.requires.1 c.entry_at-start.ensures.at _ c.loop-item-test.true))

pub overflow_add-found : goal.overflow_add-found
overflow_add-found c = omega (arith, (bit_counted c.commits_in.result).small, count_le c.loop-item.item (commits_at c.args.g c.args.table.now c.args.node), c.loop-item.invariant)

pub loop-item-preserved : goal.loop-item-preserved
loop-item-preserved c = row_turn _ _ _ (entry_lies _ _ _ c.requires.0 c.requires.1 c.entry_at-start.ensures.at _ c.loop-item-test.true) c.loop-item.invariant c.commits_in.ensures

pub returns : goal.returns
returns c = row_end _ _ _ c.loop-item.invariant c.loop-item.auto.item-end c.loop-item-test.false
