-- `survivor_code` meets its contract: a node that is no survivor, or one. Assumes nothing.
use Rattle.recovery.proofs.Laws.NumberingCode.{code_dead, code_live}
use Rattle.recovery.proofs.numbering.survivor_code.Goals as goal

pub returns-then-mark-eq0 : goal.returns-then-mark-eq0
returns-then-mark-eq0 c = code_dead _ _ _ c.survivor_mark-mark.ensures c.if-mark-eq0.true

pub returns : goal.returns
returns c = code_live c.args.lost _ _ _ c.survivor_mark-mark.ensures c.if-mark-eq0.false c.state_at-state.ensures c.current_of.ensures
