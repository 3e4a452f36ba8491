-- `gather_one` meets its contract. Assumes nothing.
use Prim.Native.Nat.{◌+◌}
use mathlib.Core.Path.{refl}
use mathlib.Core.Bool.{not}
use native.Mathlib.Omega.{arith}
use lib.Dec.{eqb}
use lib.ListN.{get_or}
use Rattle.counting.proofs.Laws.Counting.{bit_counted}
use Rattle.entries.proofs.Laws.SurveyGather.{gathered_one, bit_fits}
use Rattle.entries.proofs.survey.gather_one.Goals as goal

pub overflow_add-result : goal.overflow_add-result
overflow_add-result c =
    let a = c.args in
    record { fits = bit_fits a.count (not (eqb (get_or a.table.now (a.start + a.offset) 0) 0)) (omega arith) }

pub returns : goal.returns
returns c = gathered_one _ _ _ refl (bit_counted _)
