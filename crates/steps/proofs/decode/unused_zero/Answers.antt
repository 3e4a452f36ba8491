-- `unused_zero` meets its contract: the operation picks the fields. Assumes nothing.
use Rattle.steps.proofs.Laws.StepCode.{unused_read, unused_write, unused_evict, unused_recover, unused_all}
use Rattle.steps.proofs.decode.unused_zero.Goals as goal

pub returns-in-1 : goal.returns-in-1
returns-in-1 c = unused_read _ _ _ _ _ c.in-1.is

pub returns-in-2 : goal.returns-in-2
returns-in-2 c = unused_write _ _ _ _ _ c.in-2.is

pub returns-in-3 : goal.returns-in-3
returns-in-3 c = unused_evict _ _ _ _ _ c.in-3.is

pub returns-in-8 : goal.returns-in-8
returns-in-8 c = unused_recover _ _ _ _ _ c.in-8.is

pub returns-in_default : goal.returns-in_default
returns-in_default c = search unused_all
