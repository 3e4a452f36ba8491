-- `place_fits` meets its contract: taken over, Invalid with room, or neither. Assumes nothing.
use mathlib.Core.Path.{◌∙◌}
use borrow.Author.Tests.{ne_eqb}
use Rattle.homes.proofs.Laws.HomeCode.{place_over, place_free, place_taken}
use Rattle.homes.proofs.home.place_fits.Goals as goal

pub returns-then-over : goal.returns-then-over
returns-then-over c =
    c.if-over.true ∙ place_over _ _ _ _ _ c.state_at-state.ensures c.shared_in-over.ensures c.if-over.true

pub returns-then-code-eq-INVALID : goal.returns-then-code-eq-INVALID
returns-then-code-eq-INVALID c =
    place_free _ _ _ _ _ c.state_at-state.ensures c.shared_in-over.ensures c.if-over.false
    c.code_of-code.ensures c.if-code-eq-INVALID.true c.has_room.ensures

pub returns-else-code-eq-INVALID : goal.returns-else-code-eq-INVALID
returns-else-code-eq-INVALID c =
    ne_eqb _ _ c.if-code-eq-INVALID.false
    ∙ place_taken _ _ _ _ _ c.state_at-state.ensures c.shared_in-over.ensures c.if-over.false
    c.code_of-code.ensures c.if-code-eq-INVALID.false
