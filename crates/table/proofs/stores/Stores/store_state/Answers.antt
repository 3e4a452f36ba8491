-- `store_state` meets its contract: one word, where and as the store says. Assumes nothing.
use Rattle.std.proofs.Common.{refl, arith}
use Rattle.table.proofs.Laws.Made.{made_one}
use Rattle.table.proofs.stores.Stores.store_state.Goals as goal

pub returns : goal.returns
returns c = made_one _ refl refl c.store-self.ensures (omega arith) c.state_word-word.ensures
