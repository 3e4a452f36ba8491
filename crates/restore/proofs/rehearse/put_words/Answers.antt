-- `put_words` meets its contract: the loop has put the words before `i`. Assumes nothing.
use Rattle.restore.proofs.Laws.RehearseCode.{put_none, put_next, put_end}
use borrow.Author.Rules.{rules}
use Rattle.restore.proofs.rehearse.put_words.Goals as goal

pub loop-i-init : goal.loop-i-init
loop-i-init c = (search rules, put_none _ _ _ _)

pub loop-i-preserved : goal.loop-i-preserved
loop-i-preserved c = (search rules, put_next _ _ _ _ _ c.loop-i.invariant.1 c.node_word_at-at.ensures c.word-word.ensures c.store.ensures)

pub returns : goal.returns
returns c = put_end _ _ _ _ c.loop-i.auto.i-end c.loop-i-test.false c.min-i-end.ensures c.loop-i.invariant.1
