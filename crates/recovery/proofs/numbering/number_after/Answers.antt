-- `number_after` meets its contract: the lowest holder, the second lowest, a further one. Assumes nothing.
use Rattle.recovery.proofs.Laws.NumberingCode.{after_lowest, after_second, after_further}
use Rattle.recovery.proofs.numbering.number_after.Goals as goal

pub returns-then-lower-eq0 : goal.returns-then-lower-eq0
returns-then-lower-eq0 c = after_lowest _ _ _ c.requires c.if-lower-eq0.true c.shared_ck.ensures

pub returns-then-lower-others : goal.returns-then-lower-others
returns-then-lower-others c = after_second _ _ _ c.if-lower-eq0.false c.requires c.if-lower-others.true c.shared_ck-then-lower-others.ensures

pub returns : goal.returns
returns c = after_further _ _ _ c.if-lower-eq0.false c.if-lower-others.false
