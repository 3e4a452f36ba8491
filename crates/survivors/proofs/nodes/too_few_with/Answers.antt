-- `too_few_with` meets its contract: under two, or by the room. Assumes nothing.
use mathlib.Core.Path.{refl}
use Rattle.survivors.proofs.Laws.SurvivorsCode.{few_two, few_room}
use Rattle.survivors.proofs.nodes.too_few_with.Goals as goal

pub returns-then-k-lt2 : goal.returns-then-k-lt2
returns-then-k-lt2 c = few_two _ _ c.if-k-lt2.true

pub returns : goal.returns
returns c = few_room _ _ c.if-k-lt2.false refl
