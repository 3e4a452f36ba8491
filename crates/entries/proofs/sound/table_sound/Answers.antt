-- `table_sound` meets its contract: the marks, and then nodes and items. Assumes nothing.
use mathlib.Core.Path.{sym, ◌∙◌}
use Rattle.entries.proofs.Laws.SurveyDirty.{marks_apart, marks_bad, marks_good}
use Rattle.entries.proofs.sound.table_sound.Goals as goal

pub returns-in_err-mark : goal.returns-in_err-mark
returns-in_err-mark c = rw c.from_residual.ensures (marks_apart _ _ c.in_err-mark.ensures)

pub returns-then-not-agree : goal.returns-then-not-agree
returns-then-not-agree c = marks_bad _ _ c.in_ok-mark.ensures (sym c.agree.ensures ∙ c.if-not-agree.true)

pub returns : goal.returns
returns c = rw c.phase_of.ensures at c.survey.ensures ∙ marks_good _ _ c.in_ok-mark.ensures (sym c.agree.ensures ∙ c.if-not-agree.false)
