-- `has_room` meets its contract: a free frame, or a copy to drop. Assumes nothing.
use mathlib.Core.Path.{◌∙◌}
use Rattle.homes.proofs.Laws.HomeCode.{room_framed, room_drops}
use Rattle.homes.proofs.home.has_room.Goals as goal

pub returns-then-frame_free : goal.returns-then-frame_free
returns-then-frame_free c = c.if-frame_free.true ∙ room_framed _ _ _ _ c.frame_free.ensures c.if-frame_free.true

pub returns-else-frame_free : goal.returns-else-frame_free
returns-else-frame_free c = room_drops _ _ _ _ c.frame_free.ensures c.if-frame_free.false c.shared_item.ensures
