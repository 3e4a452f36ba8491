-- `call_at` meets its contract: the five words of the call. Assumes nothing.
use Rattle.restore.proofs.Laws.RehearseCode.{call_here, call_past}
use Rattle.restore.proofs.rehearse.call_at.Goals as goal

pub returns-then-i-words : goal.returns-then-i-words
returns-then-i-words c =
    call_here _ _ c.if-i-words.true c.word-operation.ensures c.word-x.ensures c.word-y.ensures
    c.word-z.ensures c.word-flag.ensures c.call_by-named.ensures c.unwrap_or.ensures

pub returns : goal.returns
returns c = call_past _ _ c.if-i-words.false
