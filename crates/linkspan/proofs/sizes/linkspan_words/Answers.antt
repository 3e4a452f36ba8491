-- `linkspan_words` meets its contract: the words of the geometry, or 0. Assumes nothing.
use Rattle.linkspan.proofs.Laws.Words.{words_past, words_none, words_some}
use Rattle.linkspan.proofs.sizes.linkspan_words.Goals as goal

pub returns-then-items-gt-ITEMS_MAX : goal.returns-then-items-gt-ITEMS_MAX
returns-then-items-gt-ITEMS_MAX c = search words_past

pub returns-in-None : goal.returns-in-None
returns-in-None c = search words_none

pub returns-in-Some : goal.returns-in-Some
returns-in-Some c = search words_some
