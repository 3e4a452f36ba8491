-- `value_at` meets its contract: a word of the entry. Assumes nothing.
use mathlib.Core.Path.{◌∙◌}
use Rattle.table.proofs.Laws.View.{value_read}
use Rattle.table.proofs.stores.value_at.Goals as goal

pub returns : goal.returns
returns c = c.entry_word.ensures ∙ value_read _ _ _ _
