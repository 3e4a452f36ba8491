-- `other_node` meets its contract: passed over, or changed. Assumes nothing.
use mathlib.Core.Logic.{inl, inr}
use Rattle.table.proofs.Laws.Made.{made_in_as, made_none}
use Rattle.calls.proofs.Laws.WriteCode.{node_writes, node_dead, node_turned}
use Rattle.calls.proofs.write.other_node.Goals as goal

pub returns-then-node-writer : goal.returns-then-node-writer
returns-then-node-writer c =
    let m = c.mark-mark.ensures in
    elim c.then-node-writer.either [
      | inl e ↦ made_in_as _ _ (node_writes _ _ _ _ m e) (made_none _)
      | inr e ↦ made_in_as _ _ (node_dead _ _ _ _ m e.0 e.1) (made_none _)
    ]

pub returns : goal.returns
returns c =
    let turned = node_turned _ _ _ _ c.mark-mark.ensures c.if-node-writer.false c.if-mark-eq0.false in
    made_in_as _ _ turned c.change_by.ensures
