-- `decode` meets its contract: a format, or another operation. Assumes nothing.
use Rattle.steps.proofs.Laws.StepCode.{step_format, step_call}
use Rattle.steps.proofs.decode.decode.Goals as goal

pub returns-then-operation_of-eq-FORMAT : goal.returns-then-operation_of-eq-FORMAT
returns-then-operation_of-eq-FORMAT c = step_format _ _ c.operation_of.ensures c.if-operation_of-eq-FORMAT.true c.format_step.ensures

pub returns : goal.returns
returns c = step_call _ _ c.operation_of.ensures c.if-operation_of-eq-FORMAT.false c.call_step.ensures
