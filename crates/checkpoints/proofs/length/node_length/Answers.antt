-- `node_length` meets its contract: a dead node, or a live one. Assumes nothing.
use Rattle.checkpoints.proofs.Laws.CommitLength.{length_dead, length_live}
use borrow.Author.Rules.{rules}
use Rattle.checkpoints.proofs.length.node_length.Goals as goal

pub returns-then-mark_at-eq0 : goal.returns-then-mark_at-eq0
returns-then-mark_at-eq0 c = (length_dead _ _ _ c.mark_at.ensures c.if-mark_at-eq0.true, search rules)

pub returns : goal.returns
returns c = (length_live _ _ _ c.mark_at.ensures c.if-mark_at-eq0.false c.row_length.ensures, search rules)
