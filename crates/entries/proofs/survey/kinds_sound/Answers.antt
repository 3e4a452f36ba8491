-- `kinds_sound` meets its contract: the loop has tested the items from `item` on. Assumes nothing.
use mathlib.Core.Path.{refl}
use native.Mathlib.Omega.{arith}
use borrow.Author.Tests.{eq-eqb, ne_eqb}
use Rattle.entries.proofs.Laws.SurveyDirty.{kinds_start, kinds_turn, kinds_end}
use Rattle.entries.proofs.survey.kinds_sound.Goals as goal

pub loop-item-init : goal.loop-item-init
loop-item-init c = kinds_start _ _ _

pub loop-item-preserved-then-tally-ne0 : goal.loop-item-preserved-then-tally-ne0
loop-item-preserved-then-tally-ne0 c =
    kinds_turn _ _ _ c.created_tally-created.ensures c.loop-item.invariant (omega (arith, c.loop-item-test.true)) refl c.kind_sound-sound.ensures (rw (ne_eqb _ 0 c.if-tally-ne0.true) refl)

pub loop-item-preserved : goal.loop-item-preserved
loop-item-preserved c =
    kinds_turn _ _ _ c.created_tally-created.ensures c.loop-item.invariant (omega (arith, c.loop-item-test.true)) refl c.kind_sound-sound.ensures (rw (eq-eqb _ 0 c.if-tally-ne0.false) refl)

pub returns : goal.returns
returns c = kinds_end _ _ _ c.loop-item-test.false c.loop-item.invariant c.then_some.ensures
