-- `from` meets its contract: 0, or any other number. Assumes nothing.
use Rattle.homes.proofs.Laws.Places.{place_current, place_kept}
use Rattle.homes.proofs.places.PlaceFromU64.from.Goals as goal

pub returns-then-number-eq0 : goal.returns-then-number-eq0
returns-then-number-eq0 c = place_current _ c.if-number-eq0.true

pub returns-else-number-eq0 : goal.returns-else-number-eq0
returns-else-number-eq0 c = place_kept _ c.if-number-eq0.false
