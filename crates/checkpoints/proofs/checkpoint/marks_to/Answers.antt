-- `marks_to` meets its contract: a turn finds its mark as it was at the start. Assumes nothing.
use mathlib.Core.Path.{refl, ◌∙◌}
use Rattle.table.proofs.Laws.Stores.{loop-starts, loop-ends}
use Rattle.table.proofs.Laws.MarksPass.{marks_turn}
use Rattle.checkpoints.proofs.checkpoint.marks_to.Goals as goal

pub loop-node-init : goal.loop-node-init
loop-node-init c =
    record {
      same_reference = refl;
      same_geometry = refl;
      size = refl;
      stored = λ long. loop-starts _ _ _ _;
    }

pub loop-node-preserved : goal.loop-node-preserved
loop-node-preserved c =
    let i = c.loop-node.invariant in
    let d = c.mark_to.ensures in
    record {
      same_reference = d.same_reference ∙ i.same_reference;
      same_geometry = d.same_geometry ∙ i.same_geometry;
      size = d.stored.size ∙ i.size;
      stored = λ long.
          marks_turn _ _ _ c.loop-node.auto.node-end long (i.stored long) (rw i.same_geometry at d.stored);
    }

pub returns : goal.returns
returns c =
    let i = c.loop-node.invariant in
    record {
      same_reference = i.same_reference;
      same_geometry = i.same_geometry;
      size = i.size;
      stored = λ long. loop-ends _ _ _ c.loop-node.auto.node-end c.loop-node-test.false (i.stored long);
    }
