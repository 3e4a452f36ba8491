-- `roll_node` meets its contract: no survivor, or one whose occupied entries are listed. Assumes nothing.
use borrow.Author.Rules.{rules}
use Rattle.recovery.proofs.Laws.RollingCode.{node_passed_over, node_rolled}
use Rattle.recovery.proofs.rolling.roll_node.Goals as goal

pub returns-then-mark-ne0 : goal.returns-then-mark-ne0
returns-then-mark-ne0 c =
    node_rolled c.args.lost _ _ c.survivor_mark-mark.ensures c.if-mark-ne0.true (search rules) c.roll_listed.ensures

pub returns-else-mark-ne0 : goal.returns-else-mark-ne0
returns-else-mark-ne0 c = node_passed_over c.args.lost _ _ c.survivor_mark-mark.ensures c.if-mark-ne0.false
