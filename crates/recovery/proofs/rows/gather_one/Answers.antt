-- `gather_one` meets its contract. Assumes nothing.
use mathlib.Core.Path.{refl}
use Rattle.recovery.proofs.Laws.Rows.{listed_one}
use Rattle.recovery.proofs.rows.gather_one.Goals as goal

pub returns : goal.returns
returns c = listed_one _ _ _ refl
