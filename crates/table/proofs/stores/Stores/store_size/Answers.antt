-- `store_size` meets its contract: one word, where and as the store says. Assumes nothing.
use Rattle.std.proofs.Common.{refl}
use Rattle.table.proofs.Laws.Made.{made_one}
use Rattle.table.proofs.stores.Stores.store_size.Goals as goal

pub returns : goal.returns
returns c = made_one _ refl refl c.store-self.ensures refl c.size_word-word.ensures
