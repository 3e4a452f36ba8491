-- `state_at` meets its contract: a word of the entry. Assumes nothing.
use mathlib.Core.Path.{◌∙◌}
use Rattle.table.proofs.Laws.View.{state_read}
use Rattle.table.proofs.stores.state_at.Goals as goal

pub returns : goal.returns
returns c = c.entry_word.ensures ∙ state_read _ _ _ _
