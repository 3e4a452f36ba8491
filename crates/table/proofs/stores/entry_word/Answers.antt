-- `entry_word` meets its contract: a word of the entry, or the zero of one that is not there. Assumes nothing.
use native.Mathlib.Omega.{arith}
use Rattle.table.proofs.Laws.View.{entry_word_lem, word_none}
use Rattle.table.proofs.stores.entry_word.Goals as goal

pub returns-then-within : goal.returns-then-within
returns-then-within c = entry_word_lem _ _ _ _ _ c.if-within.true (omega arith) c.word.ensures

pub returns : goal.returns
returns c = word_none _ _ _ _ _ c.if-within.false
