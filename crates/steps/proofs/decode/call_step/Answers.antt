-- `call_step` meets its contract: a law for a record that keeps the rule, and for one that breaks it. Assumes nothing.
use Rattle.steps.proofs.Laws.StepCode.{call_kept, call_broken}
use Rattle.steps.proofs.decode.call_step.Goals as goal

pub returns-then-rest_of-unused : goal.returns-then-rest_of-unused
returns-then-rest_of-unused c = search call_kept

pub returns : goal.returns
returns c = search call_broken
