-- `kept_value_at` meets its contract: a word of the entry. Assumes nothing.
use mathlib.Core.Path.{◌∙◌}
use Rattle.table.proofs.Laws.View.{kept_value_read}
use Rattle.table.proofs.stores.kept_value_at.Goals as goal

pub returns : goal.returns
returns c = c.entry_word.ensures ∙ kept_value_read _ _ _ _
