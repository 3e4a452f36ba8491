-- `holds_at` meets its contract: dead, or as its current place says. Assumes nothing.
use mathlib.Core.Path.{◌∙◌}
use borrow.Author.Tests.{lt-leb}
use Rattle.homes.proofs.Laws.Holders.{holds_dead, holds_above, holds_below}
use Rattle.homes.proofs.holders.holds_at.Goals as goal

pub returns-then-mark-eq0 : goal.returns-then-mark-eq0
returns-then-mark-eq0 c = holds_dead _ _ _ _ _ c.mark_at-mark.ensures c.if-mark-eq0.true

pub returns-then-low-current : goal.returns-then-low-current
returns-then-low-current c =
    holds_above _ _ _ _ _ c.mark_at-mark.ensures c.if-mark-eq0.false c.state_at.ensures c.current_of-current.ensures
    c.if-low-current.true

pub returns-else-low-current : goal.returns-else-low-current
returns-else-low-current c =
    lt-leb _ _ c.if-low-current.false
    ∙ holds_below _ _ _ _ _ c.mark_at-mark.ensures c.if-mark-eq0.false c.state_at.ensures c.current_of-current.ensures
    c.if-low-current.false
