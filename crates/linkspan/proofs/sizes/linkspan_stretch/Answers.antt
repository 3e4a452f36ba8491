-- `linkspan_stretch` meets its contract: where the entries lie, or the refusal. Assumes nothing.
use mathlib.Core.Path.{refl}
use Rattle.linkspan.proofs.Laws.Part.{part_refused, part_found}
use Rattle.linkspan.proofs.sizes.linkspan_stretch.Goals as goal

pub overflow_sub-words : goal.overflow_sub-words
overflow_sub-words c = (c.in-Ok.ensures.within _ refl).0

pub returns-in-Err : goal.returns-in-Err
returns-in-Err c = part_refused _ _ c.in-Err.ensures c.from.ensures

pub returns-in-Ok : goal.returns-in-Ok
returns-in-Ok c = part_found _ _ c.in-Ok.ensures
