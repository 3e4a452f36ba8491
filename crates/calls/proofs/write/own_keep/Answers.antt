-- `own_keep` meets its contract: nothing, or the copy kept. Assumes nothing.
use mathlib.Core.Path.{ap, ◌∙◌}
use Rattle.table.specs.Changes.{checkpoint_of}
use Rattle.table.proofs.Laws.Made.{made_in_as, made_none}
use Rattle.calls.proofs.Laws.WriteCode.{own_keeps_none, own_keeps}
use Rattle.calls.proofs.write.own_keep.Goals as goal

pub returns-then-number-ne0 : goal.returns-then-number-ne0
returns-then-number-ne0 c =
    let number = c.checkpoint_of-number.ensures ∙ ap checkpoint_of c.current_of.ensures in
    made_in_as _ _ (own_keeps _ _ number c.if-number-ne0.true) c.keep_copy.ensures

pub returns-else-number-ne0 : goal.returns-else-number-ne0
returns-else-number-ne0 c =
    let number = c.checkpoint_of-number.ensures ∙ ap checkpoint_of c.current_of.ensures in
    made_in_as _ _ (own_keeps_none _ _ number c.if-number-ne0.false) (made_none _)
