-- `call_by` meets its contract: the operation picks the call. Assumes nothing.
use mathlib.Core.Path.{refl}
use Rattle.restore.specs.Operations.{call_by}
use Rattle.restore.proofs.Laws.OperationCode.{call_by_lem, call_evict, call_recover, call_unknown}
use Rattle.restore.proofs.operations.call_by.Goals as goal

pub returns-in-0 : goal.returns-in-0
unfolding call_by
returns-in-0 c = call_by_lem _ _ _ _ _ 0 c.in-0.is refl

pub returns-in-1 : goal.returns-in-1
unfolding call_by
returns-in-1 c = call_by_lem _ _ _ _ _ 1 c.in-1.is refl

pub returns-in-2 : goal.returns-in-2
unfolding call_by
returns-in-2 c = call_by_lem _ _ _ _ _ 2 c.in-2.is refl

pub returns-in-3 : goal.returns-in-3
unfolding call_by
returns-in-3 c = call_evict _ _ _ _ _ c.in-3.is c.from-place.ensures

pub returns-in-4 : goal.returns-in-4
unfolding call_by
returns-in-4 c = call_by_lem _ _ _ _ _ 4 c.in-4.is refl

pub returns-in-5 : goal.returns-in-5
unfolding call_by
returns-in-5 c = call_by_lem _ _ _ _ _ 5 c.in-5.is refl

pub returns-in-6 : goal.returns-in-6
unfolding call_by
returns-in-6 c = call_by_lem _ _ _ _ _ 6 c.in-6.is refl

pub returns-in-7 : goal.returns-in-7
unfolding call_by
returns-in-7 c = call_by_lem _ _ _ _ _ 7 c.in-7.is refl

pub returns-in-8 : goal.returns-in-8
unfolding call_by
returns-in-8 c = call_recover _ _ _ _ _ c.in-8.is c.lost_by-lost.ensures

pub returns-in-16 : goal.returns-in-16
unfolding call_by
returns-in-16 c = call_by_lem _ _ _ _ _ 16 c.in-16.is refl

pub returns-in-17 : goal.returns-in-17
unfolding call_by
returns-in-17 c = call_by_lem _ _ _ _ _ 17 c.in-17.is refl

pub returns-in_default : goal.returns-in_default
unfolding call_by
returns-in_default c = search call_unknown
