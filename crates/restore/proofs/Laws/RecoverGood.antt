-- A whole Recover of a table that serves, naming any node or none: the values are those saved.
use Rattle.std.specs.Prelude.{Err, Ok, Option, Result}
use Prim.Native.Nat.{ℕ}
use mathlib.Core.Path.{◌≡◌, sym, ◌∙◌}
use mathlib.Core.Logic.{◌≢◌}
use mathlib.Core.List.{List}
use native.Mathlib.Omega.{arith}
use lib.ListN.{length}
use Rattle.table.specs.declared.geometry.Geometry.{Geometry}
use Rattle.table.specs.Stores.{Store, after}
use Rattle.table.specs.View.{view}
use Rattle.table.specs.Answers.{nothing_left, carry}
use Rattle.entries.specs.Check.{sizes_of}
use Rattle.entries.proofs.Laws.CheckFacts.{accepted_facts, facts_sizes}
use Rattle.homes.proofs.Laws.Kept.{Kept}
use Rattle.homes.proofs.Laws.KeptOn.{kept_begins}
use Rattle.homes.specs.Admission.{Admission, plan_admitted}
use Rattle.survivors.specs.Survivors.{survivors}
use Rattle.recovery.specs.Recover.{recover_stores, recover_admission, recover_checked, recover_of}
use Rattle.recovery.proofs.Laws.RecoverPlan.{recover_carries}
use Rattle.recovery.proofs.Laws.Ready.{Ready}
use Rattle.recovery.proofs.Laws.RecoverTheorem.{recover_serves}
use Rattle.restore.proofs.Laws.KeptReady.{kept_ready}
use Rattle.restore.specs.Memory.{Memory, value_of, saved_in}
use Rattle.restore.specs.Run.{geometry_in}
use Rattle.restore.proofs.Laws.Good.{Good, good_by}
use Rattle.table.specs.declared.answers.Refusal.{Refusal}

-- ---- it never answers 17

something : (a : Admission) (g : Geometry) (ss : List Store) → plan_admitted a (carry g 0 ss) ≢ nothing_left
unfolding plan_admitted
something (Err r) g ss e = let z : ◌≡◌ {A = ℕ} 0 1 = cc in omega arith
something (Ok _) g ss e = let z : ◌≡◌ {A = ℕ} 0 1 = cc in omega arith

pub recover_something : (t : List ℕ) (lost : Option ℕ) (scratch : ℕ) → recover_of t lost scratch ≢ nothing_left
unfolding recover_of recover_checked
recover_something t lost scratch e = go (sizes_of t) e
  where
    go : (c : Result Geometry Refusal) → recover_checked t lost scratch c ≢ nothing_left
    go (Err r) e = let z : ◌≡◌ {A = ℕ} 0 1 = cc in omega arith
    go (Ok g) e = something (recover_admission g (survivors lost (view g t)) lost scratch) g (recover_stores g lost (view g t)) e

-- ---- nothing was cut

module _ (t : List ℕ) (memory : Memory) (commits : ℕ) (good : Good t memory commits) where
  abbrev G : Geometry
  G = geometry_in t

  pub good_sizes : sizes_of t ≡ Ok G
  good_sizes = facts_sizes t G (accepted_facts t G good.serves.passed).shape

  pub good_kept : Kept G (view G t) (view G t)
  good_kept = kept_begins G (view G t) _ _ (accepted_facts t G good.serves.passed).table

  pub good_ready : (lost : Option ℕ) → Ready G (saved_in memory) commits (survivors lost (view G t))
  good_ready lost = kept_ready t G (value_of memory) (saved_in memory) commits good.serves (view G t) good_kept lost

  pub recover_good :
      (lost : Option ℕ) (scratch : ℕ) (g : Geometry) (x : ℕ) (ss : List Store) → recover_of t lost scratch ≡ carry g x ss
      → Good (after g (length ss) ss t) (record { values = memory.saved; saved = memory.saved }) commits
  recover_good lost scratch g x ss e =
      let c = recover_carries t lost scratch e in
      let p : Ok g ≡ Ok G = sym c.passed ∙ good_sizes in
      let same : g ≡ G = cc in
      let list : ss ≡ recover_stores G lost (view G t) = rw same at c.stores_are in
      rw (same, list)
      (good_by _ G _ commits
      (recover_serves t G (saved_in memory) commits lost good_sizes (rw same at c.inside) (good_ready lost) (rw same at c.enough_nodes)
      (length (recover_stores G lost (view G t))) (omega arith)) good.saved_size good.saved_size)
