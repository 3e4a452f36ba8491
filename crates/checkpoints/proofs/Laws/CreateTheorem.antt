-- THE THEOREM of Create: however it is cut, a roll back finds every recovery copy as it was. And what a whole one leaves.
use Rattle.std.specs.Prelude.{Ok}
use Prim.Native.Nat.{ℕ, ◌≤◌, ◌<◌}
use mathlib.Core.Path.{◌≡◌}
use mathlib.Core.Bool.{false}
use mathlib.Core.List.{List}
use lib.ListN.{length}
use Rattle.table.specs.declared.geometry.Geometry.{Geometry}
use Rattle.table.specs.Stores.{Store, after}
use Rattle.table.specs.View.{view}
use Rattle.table.proofs.Laws.Via.{via_cut, via_whole}
use Rattle.table.specs.Answers.{carry}
use Rattle.entries.specs.Check.{fault_of}
use Rattle.entries.proofs.Laws.SoundFacts.{phase_in, number_in}
use Rattle.entries.proofs.Laws.CheckFacts.{Accepted, accepted_facts}
use Rattle.homes.proofs.Laws.Plans.{Acted, plan_acted}
use Rattle.entries.specs.Dirty.{dirty_item}
use Rattle.checkpoints.specs.Checkpoint.{open_admission}
use Rattle.checkpoints.specs.Create.{create_stores, no_partner, create_plan, create_of}
use Rattle.homes.proofs.Laws.Kept.{Kept}
use Rattle.checkpoints.proofs.Laws.Created.{CreateFinds, CreateLeaves}
use Rattle.checkpoints.proofs.Laws.CreateTells.{Creates, plan_creates, create_via, create_finds}

module _ (t : List ℕ) {g : Geometry} {value : ℕ} {ss : List Store} (accepted : create_of t ≡ carry g value ss) where
  pub acted : Acted open_admission create_plan t (carry g value ss)
  acted = plan_acted open_admission create_plan t accepted

  pub creates : Creates acted.geometry (view acted.geometry t) g value ss
  creates = plan_creates acted.geometry (view acted.geometry t) acted.plan

  pub passed : fault_of t ≡ Ok g
  passed = rw creates.same at acted.passed

  pub some : dirty_item g (view g t) < g.items
  some = rw creates.same at creates.some

  partnered : no_partner g (view g t) (dirty_item g (view g t)) ≡ false
  partnered = rw creates.same at creates.partnered

  pub stores_are : ss ≡ create_stores g (view g t)
  stores_are = rw creates.same at creates.stores_are

  pub facts : Accepted t g (phase_in g (view g t)) (number_in g (view g t))
  facts = accepted_facts t g passed

  -- before the first: the item, its owner, its partner
  pub create_found : CreateFinds g (view g t)
  create_found = create_finds g (view g t) _ _ facts.table some partnered

  pub create_answer : value ≡ 0
  create_answer = creates.answer

  -- after any number of its stores
  pub create_keeps : (limit : ℕ) → Kept g (view g t) (view g (after g limit ss t))
  create_keeps limit =
      rw stores_are (via_cut t facts.shape.long (create_via g (view g t) _ _ facts.table some partnered) limit)

  -- after all of them
  pub create_created : (limit : ℕ) → length ss ≤ limit → CreateLeaves g (view g t) (view g (after g limit ss t))
  create_created limit all =
      let l = rw stores_are at all in
      rw stores_are (via_whole t facts.shape.long (create_via g (view g t) _ _ facts.table some partnered) limit l)
