-- `line` meets its contract: the four fields. Assumes nothing.
use Rattle.steps.proofs.Laws.Lines.{line_put}
use Rattle.steps.proofs.lines.line.Goals as goal

pub returns : goal.returns
returns c = line_put _ _ c.put_field-answer_at.ensures.put_at c.put_field-value_at.ensures.put_at c.put_field-stores_at.ensures.put_at c.put_field.ensures.put_at
