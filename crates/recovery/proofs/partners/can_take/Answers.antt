-- `can_take` meets its contract: no survivor, or its place and its frames decide. Assumes nothing.
use Rattle.recovery.proofs.Laws.PartnersCode.{takes_dead, takes_live}
use Rattle.table.specs.View.{view}
use Rattle.recovery.proofs.partners.can_take.Goals as goal

pub returns-then-mark-eq0 : goal.returns-then-mark-eq0
returns-then-mark-eq0 c =
    let a = c.args in
    takes_dead a.lost (view a.g a.table.now) a.item a.node c.survivor_mark-mark.ensures a.g a.scratch.now c.if-mark-eq0.true

pub returns : goal.returns
returns c =
    let a = c.args in
    takes_live a.lost (view a.g a.table.now) a.item a.node c.survivor_mark-mark.ensures a.g a.scratch.now c.if-mark-eq0.false c.state_in.ensures c.current_of-current.ensures c.word-used.ensures c.set_frames-frames.ensures
