-- `can_take` meets its contract: live and its place decides, or dead. Assumes nothing.
use mathlib.Core.Path.{ap, ◌∙◌}
use mathlib.Core.Bool.{not}
use borrow.Author.Tests.{eq-eqb}
use Rattle.homes.proofs.Laws.HomeCode.{fits_dead, fits_live}
use Rattle.homes.proofs.home.can_take.Goals as goal

pub returns-then-mark-ne0 : goal.returns-then-mark-ne0
returns-then-mark-ne0 c = fits_live _ _ _ _ _ c.mark_at-mark.ensures c.if-mark-ne0.true c.place_fits.ensures

pub returns-else-mark-ne0 : goal.returns-else-mark-ne0
returns-else-mark-ne0 c = ap not (eq-eqb _ _ c.if-mark-ne0.false) ∙ fits_dead _ _ _ _ _ c.mark_at-mark.ensures c.if-mark-ne0.false
