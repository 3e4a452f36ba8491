-- `first_after` meets its contract, for each test that the closure's answers are: the nodes tried fail it. Assumes nothing.
use Rattle.std.proofs.Common.{refl}
use Rattle.counting.proofs.Laws.Cyclic.{search_starts, search_there, search_found, search_on, search_ends, step_falls}
use Rattle.counting.proofs.cyclic.first_after.Goals as goal

pub loop-cursor-init : goal.loop-cursor-init
loop-cursor-init g c = (search_starts _ _ _ c.after-cursor.ensures, λ test answers. search_starts test _ _ c.after-cursor.ensures)

pub passes-requires : goal.passes-requires
passes-requires g c = c.requires _ (search_there _ _ _ c.loop-cursor.invariant.0 c.loop-cursor-test.true)

pub returns-then-passes : goal.returns-then-passes
returns-then-passes g c = λ test answers.
    let s = c.loop-cursor.invariant.1 test answers in
    let l = c.loop-cursor-test.true in
    search_found test _ _ s l (answers _ _ (search_there test _ _ s l) c.passes.ensures) c.if-passes.true

pub loop-cursor-smaller : goal.loop-cursor-smaller
loop-cursor-smaller g c = step_falls _ _ c.loop-cursor-test.true c.step-cursor.ensures

pub loop-cursor-preserved : goal.loop-cursor-preserved
loop-cursor-preserved g c = (
  search_on _ _ _ c.loop-cursor.invariant.0 c.loop-cursor-test.true refl refl c.step-cursor.ensures,
  λ test answers.
      let s = c.loop-cursor.invariant.1 test answers in
      let l = c.loop-cursor-test.true in
      search_on test _ _ s l (answers _ _ (search_there test _ _ s l) c.passes.ensures) c.if-passes.false c.step-cursor.ensures,
)

pub returns : goal.returns
returns g c = λ test answers. search_ends test _ _ (c.loop-cursor.invariant.1 test answers) c.loop-cursor-test.false
