-- THE THEOREM of frames for four copies. A home can drop a Shared copy and no other: the others are pinned. A clean
-- item has two pinned copies, a dirty one three, a created one four. So while at most one node is dead the live nodes
-- but the owner are not all full of them, and one of them takes the second Precommit.
use Rattle.std.specs.Prelude.{Ok}
use Prim.Native.Nat.{ℕ, ◌*◌, ◌≤◌, ◌<◌}
use mathlib.Core.Path.{◌≡◌, refl}
use mathlib.Core.Logic.{◌≢◌, ◌⊎◌, inl, inr, ⊎_elim}
use mathlib.Core.Bool.{true, false}
use mathlib.Core.List.{List}
use native.Mathlib.Omega.{arith}
use lib.Dec.{ltb}
use borrow.Author.Tests.{ltb-true}
use Rattle.counting.proofs.Laws.Tests.{by_cases}
use Rattle.table.specs.declared.geometry.Geometry.{Geometry}
use Rattle.table.specs.declared.answers.Refusal.{Refusal}
use Rattle.table.specs.declared.answers.Refusal.TheVariants.{NoCheckpoint}
use Rattle.table.specs.Geometry.{allowed}
use Rattle.table.proofs.Laws.Geometry.{four_copies_lem}
use Rattle.table.specs.View.{View, view, live, current}
use Rattle.table.specs.Answers.{refuse, nothing_left, carry, refusal_number}
use Rattle.entries.specs.Check.{fault_of}
use Rattle.entries.specs.Dirty.{owns, owner_of, dirty_item}
use Rattle.entries.proofs.Laws.SoundFacts.{SoundTable}
use Rattle.entries.proofs.Laws.CheckFacts.{accepted_facts}
use Rattle.homes.specs.declared.places.Place.TheVariants.{Current}
use Rattle.homes.specs.Admission.{plan_admitted, plan_checked, plan_by}
use Rattle.homes.specs.Home.{fits, no_home}
use Rattle.homes.proofs.Laws.HomeLaws.{no_home_none}
use Rattle.homes.proofs.Laws.Kept.{live_test}
use Rattle.checkpoints.specs.Checkpoint.{is_open, open_admission}
use Rattle.checkpoints.specs.Create.{has_sharer, no_partner, create_stores, create_plan, create_of}
use Rattle.checkpoints.specs.CreateRoom.{dead_nodes, CreateRoom}
use Rattle.checkpoints.proofs.Laws.CreateCode.{next_owned}
use Rattle.checkpoints.proofs.Laws.CreateTells.{owner_tells}
use Rattle.checkpoints.proofs.Laws.CreateFrames.{not_ample, four_each}

-- ---- a home for the second Precommit of item b, which node o owns and no node shares

module _ (g : Geometry) (v : View) (phase number b o : ℕ) (good : SoundTable g v phase number) (item : b < g.items)
    (there : o < g.nodes) (alive : live v o ≡ true) (owned : owns (current (v.entry o b)) ≡ true)
    (unshared : has_sharer g v b ≡ false)
    (none : (n : ℕ) → n < g.nodes → n ≢ o → fits g v Current b n ≡ false) where
  some_fits :
      allowed g.nodes g.items g.frames ≡ true → (dead_nodes g v ≤ 1) ⊎ (2 * g.items ≤ g.frames) → ⊥
  some_fits fair (inr e) = not_ample g v phase number b o good item there alive owned unshared none e
  some_fits fair (inl dead) =
      ⊎_elim (λ e. not_ample g v phase number b o good item there alive owned unshared none (omega (arith, e))) (four_each g v phase number b o good item there alive owned unshared none dead)
      (four_copies_lem g.nodes g.items g.frames fair)

-- ---- the table

module _ (t : List ℕ) (g : Geometry) (passed : fault_of t ≡ Ok g)
    (room : (dead_nodes g (view g t) ≤ 1) ⊎ (2 * g.items ≤ g.frames)) where
  abbrev v : View
  v = view g t

  -- the next item to be created
  abbrev b : ℕ
  b = dirty_item g v

  abbrev o : ℕ
  o = owner_of g v b

  -- it has a partner
  pub partnered : b < g.items → no_partner g v b ≡ false
  unfolding no_partner
  partnered some =
      let k = accepted_facts t g passed in
      let there = next_owned g v refl some in
      let own = owner_tells g v b there in
      by_cases (has_sharer g v b) (λ e. rw e refl)
      (λ e. by_cases (no_home g v Current o b)
      (λ h. absurd (some_fits g v _ _ b o k.table some there (live_test g v o own.node) own.owned e
      (no_home_none g v Current o b there h) k.shape.fair room))
      (λ h. rw (e, h) refl))

  never : (r : Refusal) → create_of t ≡ refuse r → refusal_number r ≢ 11
  unfolding plan_by plan_checked plan_admitted open_admission create_plan
  never r e = by_cases (is_open g v)
      (λ begun. by_cases (ltb b g.items)
      (λ some. let q : carry g 0 (create_stores g v) ≡ refuse r =
      rw (passed, begun, some, partnered (ltb-true b g.items some)) at e in
      let z : ◌≡◌ {A = ℕ} 0 1 = cc in absurd (omega arith))
      (λ none. let q : nothing_left ≡ refuse r = rw (passed, begun, none) at e in
      let z : ◌≡◌ {A = ℕ} 0 1 = cc in absurd (omega arith)))
      (λ shut. let q : refuse NoCheckpoint ≡ refuse r = rw (passed, shut) at e in
      let same : NoCheckpoint ≡ r = cc in
      rw (← same) (λ z. omega arith))

pub create_room : CreateRoom
create_room = record {
  never_11 = λ t g passed dead. never t g passed (inl dead);
  ample_11 = λ t g passed ample. never t g passed (inr ample);
}
