-- `format_marks` meets its contract: the loop has stored the marks before `node`. Assumes nothing.
use Rattle.table.proofs.Laws.Stores.{loop-turns}
use Rattle.table.proofs.Laws.Made.{made_starts, made_turn, made_ends}
use Rattle.layout.proofs.format.format_marks.Goals as goal

pub loop-node-init : goal.loop-node-init
loop-node-init c = made_starts _ _

pub loop-node-preserved : goal.loop-node-preserved
loop-node-preserved c =
    let i = c.loop-node.invariant in
    made_turn i (rw c.mark_word-word.ensures at c.store_mark.ensures) (loop-turns _ _ i.stored)

pub returns : goal.returns
returns c = made_ends _ _ _ c.loop-node.auto.node-end c.loop-node-test.false c.loop-node.invariant
