-- `format_step` meets its contract: a law for a record that keeps the rule, and for one that breaks it. Assumes nothing.
use Rattle.steps.proofs.Laws.StepCode.{format_kept, format_broken}
use Rattle.steps.proofs.decode.format_step.Goals as goal

pub returns-then-size_form-second : goal.returns-then-size_form-second
returns-then-size_form-second c = search format_kept

pub returns : goal.returns
returns c = search format_broken
