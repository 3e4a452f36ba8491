-- `admit_recover` meets its contract: each refusal in its order, or admitted. Assumes nothing.
use Rattle.std.proofs.Common.{ap, not}
use Rattle.table.specs.View.{view}
use Rattle.survivors.specs.Survivors.{survivors}
use Rattle.recovery.proofs.Laws.RecoverCode.{admit_outside, admit_scratch, admit_unformed, admit_few, admit_unfit, admit_all}
use Rattle.recovery.proofs.recover.admit_recover.Goals as goal

pub returns-then-lost_outside : goal.returns-then-lost_outside
returns-then-lost_outside c =
    let a = c.args in
    admit_outside a.g (survivors a.lost (view a.g a.table.now)) a.lost a.room c.lost_outside.ensures c.if-lost_outside.true

pub returns-then-room-scratch_words : goal.returns-then-room-scratch_words
returns-then-room-scratch_words c =
    let a = c.args in
    admit_scratch a.g (survivors a.lost (view a.g a.table.now)) a.lost a.room c.lost_outside.ensures c.if-lost_outside.false c.scratch_words.ensures c.if-room-scratch_words.true

pub returns-then-not-formed : goal.returns-then-not-formed
returns-then-not-formed c =
    let a = c.args in
    admit_unformed a.g (survivors a.lost (view a.g a.table.now)) a.lost a.room c.lost_outside.ensures c.if-lost_outside.false c.scratch_words.ensures c.if-room-scratch_words.false c.requires.0 (ap not c.if-not-formed.true)

pub returns-then-too_few : goal.returns-then-too_few
returns-then-too_few c =
    let a = c.args in
    admit_few a.g (survivors a.lost (view a.g a.table.now)) a.lost a.room c.lost_outside.ensures c.if-lost_outside.false c.scratch_words.ensures c.if-room-scratch_words.false c.requires.0 (ap not c.if-not-formed.false) c.too_few.ensures c.if-too_few.true

pub returns-then-not-fit : goal.returns-then-not-fit
returns-then-not-fit c =
    let a = c.args in
    admit_unfit a.g (survivors a.lost (view a.g a.table.now)) a.lost a.room c.lost_outside.ensures c.if-lost_outside.false c.scratch_words.ensures c.if-room-scratch_words.false c.requires.0 (ap not c.if-not-formed.false) c.too_few.ensures c.if-too_few.false c.requires.1 (ap not c.if-not-fit.true)

pub returns : goal.returns
returns c =
    let a = c.args in
    admit_all a.g (survivors a.lost (view a.g a.table.now)) a.lost a.room c.lost_outside.ensures c.if-lost_outside.false c.scratch_words.ensures c.if-room-scratch_words.false c.requires.0 (ap not c.if-not-formed.false) c.too_few.ensures c.if-too_few.false c.requires.1 (ap not c.if-not-fit.false)
