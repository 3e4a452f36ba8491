-- `close_marks` meets its contract: a turn finds its mark as it was at the start. Assumes nothing.
use Rattle.table.proofs.Laws.Made.{made_starts, made_more, made_ends}
use Rattle.table.specs.View.{marks_to}
use Rattle.survivors.proofs.Laws.ClosingMarksCode.{survivor_mark_turn}
use Rattle.survivors.proofs.closing.close_marks.Goals as goal

pub loop-node-init : goal.loop-node-init
loop-node-init c = made_starts _ _

pub loop-node-preserved : goal.loop-node-preserved
loop-node-preserved c =
    let i = c.loop-node.invariant in
    let d = c.close_mark.ensures in
    made_more i d (survivor_mark_turn _ c.args.lost _ _ i.stored (rw i.same_geometry at d.stored))

pub returns : goal.returns
unfolding marks_to
returns c = made_ends _ _ _ c.loop-node.auto.node-end c.loop-node-test.false c.loop-node.invariant
