-- `store_mark` meets its contract: one word, where and as the store says. Assumes nothing.
use Rattle.std.proofs.Common.{refl, arith}
use Rattle.table.proofs.Laws.Made.{made_one}
use Rattle.table.proofs.stores.Stores.store_mark.Goals as goal

pub returns : goal.returns
returns c = made_one _ refl refl c.store-self.ensures (omega arith) refl
