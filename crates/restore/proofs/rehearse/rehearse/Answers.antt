-- `rehearse` meets its contract: the definitions one after the other, and with them the demand. Assumes nothing.
use mathlib.Core.Path.{refl, ◌∙◌}
use Rattle.restore.proofs.Laws.RehearseCode.{rehearsed}
use Rattle.restore.proofs.rehearse.rehearse.Goals as goal

pub returns : goal.returns
returns c =
    let n₁ = c.run_calls.auto.scratch in
    let n₂ = c.strike.auto.scratch ∙ n₁ in
    let n₃ = c.break_off.auto.scratch ∙ n₂ in
    rehearsed _ c.run_calls.new.scratch c.strike.new.scratch refl n₁ n₂ n₃ c.run_calls.ensures c.strike.ensures c.break_off.ensures c.recover.ensures
