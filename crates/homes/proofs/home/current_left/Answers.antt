-- `current_left` meets its contract: the copy dropped, or another. Assumes nothing.
use Rattle.homes.proofs.Laws.HomeCode.{left_dropped, left_stays}
use Rattle.homes.proofs.home.current_left.Goals as goal

pub returns-then-dropped-item : goal.returns-then-dropped-item
returns-then-dropped-item c = left_dropped _ _ _ c.if-dropped-item.true

pub returns-else-dropped-item : goal.returns-else-dropped-item
returns-else-dropped-item c = left_stays _ _ _ c.if-dropped-item.false
