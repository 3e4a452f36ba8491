-- `carry_lent` meets its contract: the whole table, or an empty one. Assumes nothing.
use Rattle.steps.proofs.Laws.Serving.{lent_whole_lem, lent_empty}
use Rattle.steps.proofs.serve.carry_lent.Goals as goal

pub returns-then-whole : goal.returns-then-whole
returns-then-whole c = search lent_whole_lem

pub returns : goal.returns
returns c = lent_empty _ c.if-whole.false c.carry_out-2.auto.table c.carry_out-2.ensures
