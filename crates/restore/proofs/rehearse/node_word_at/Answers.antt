-- `node_word_at` meets its contract. Assumes nothing.
use Rattle.restore.proofs.Laws.RehearseCode.{node_mark, node_entry}
use Rattle.restore.proofs.rehearse.node_word_at.Goals as goal

pub returns-then-i-eq0 : goal.returns-then-i-eq0
returns-then-i-eq0 c = node_mark _ _ _ c.if-i-eq0.true

pub returns : goal.returns
returns c = node_entry _ _ _ c.if-i-eq0.false c.entry_at-first.ensures
