-- `rows_sound` meets its contract: the loop has surveyed the nodes before `node`. Assumes nothing.
use native.Mathlib.Omega.{arith}
use Rattle.entries.proofs.Laws.SurveySound.{rows_none, rows_on, rows_next, rows_all}
use Rattle.entries.proofs.survey.rows_sound.Goals as goal

pub loop-node-init : goal.loop-node-init
loop-node-init c = rows_none _ c.requires

pub row_sound-ok-requires : goal.row_sound-ok-requires
row_sound-ok-requires c = rows_on _ c.loop-node.invariant c.requires.table (omega (arith, c.requires.room))

pub loop-node-preserved : goal.loop-node-preserved
loop-node-preserved c = rows_next _ c.loop-node.invariant c.row_sound-ok.ensures

pub returns : goal.returns
returns c = rows_all _ c.loop-node.invariant c.loop-node.auto.node-end c.loop-node-test.false
