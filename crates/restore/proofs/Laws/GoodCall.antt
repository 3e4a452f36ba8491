-- Every whole call keeps the table related to the plain memory, whatever its arguments, refused or not.
use Rattle.std.specs.Prelude.{Err, None, Ok, Option, Result, Some}
use Prim.Native.Nat.{ℕ, suc}
use mathlib.Core.Path.{◌≡◌, refl}
use mathlib.Core.Logic.{◌≢◌}
use mathlib.Core.Bool.{not, cond}
use mathlib.Core.List.{List, []}
use native.Mathlib.Omega.{arith}
use native.Mathlib.Numerals.{add-one}
use lib.Dec.{leb}
use lib.ListN.{length}
use Rattle.counting.proofs.Laws.Tests.{by_cases}
use Rattle.table.specs.declared.geometry.Geometry.{Geometry}
use Rattle.table.specs.declared.answers.Refusal.{Refusal}
use Rattle.table.specs.Geometry.{geometry_of, words_of}
use Rattle.table.specs.Stores.{Store, after}
use Rattle.table.proofs.Laws.Stores.{after_none}
use Rattle.table.specs.View.{View, view}
use Rattle.table.specs.Answers.{Plan, refuse, nothing_left, carry}
use Rattle.entries.specs.Check.{sizes_of, fault_of}
use Rattle.layout.specs.Format.{unusable_frames, format_made, format_of}
use Rattle.layout.specs.Stretch.{checked_plan, check_of, stretch_checked, stretch_of}
use Rattle.homes.specs.Admission.{Admission, plan_admitted, plan_checked, plan_by}
use Rattle.calls.specs.Write.{write_admission, write_stores, write_of}
use Rattle.checkpoints.specs.Commit.{commit_admission, commit_stores, commit_of, abandon_of}
use Rattle.calls.specs.Read.{read_of}
use Rattle.homes.specs.Evict.{evict_of}
use Rattle.checkpoints.specs.Open.{open_of}
use Rattle.checkpoints.specs.Create.{create_of}
use Rattle.homes.proofs.Laws.Serves.{Serves}
use Rattle.calls.proofs.Laws.ReadServes.{read_serves}
use Rattle.homes.proofs.Laws.EvictServes.{evict_serves}
use Rattle.checkpoints.proofs.Laws.OpenServes.{open_serves}
use Rattle.checkpoints.proofs.Laws.CreateServes.{create_serves}
use Rattle.checkpoints.proofs.Laws.CommitServes.{commit_serves}
use Rattle.checkpoints.proofs.Laws.AbandonServes.{abandon_serves}
use Rattle.restore.specs.declared.call.Call.{Call}
use Rattle.restore.specs.declared.call.Call.TheVariants.{Format, Check, Stretch, Read, Write, Evict, Open, Create, Commit, Abandon, Recover}
use Rattle.recovery.specs.Recover.{recover_of}
use Rattle.restore.specs.Call.{plan_of, refused}
use Rattle.restore.specs.Memory.{Memory, carried, fed, value_of, saved_in}
use Rattle.restore.specs.Run.{Step, geometry_in, whole_table, commits_with, table_by, memory_with, commits_after}
use Rattle.restore.proofs.Laws.Good.{Good, good_by}
use Rattle.restore.proofs.Laws.GoodStep.{good_format, good_plan, good_same, good_write}

-- ---- 17 is Create's alone

refuse_something : {r : Refusal} → refuse r ≡ nothing_left → ⊥
refuse_something e = let z : ◌≡◌ {A = ℕ} 0 1 = cc in omega arith

carry_something : {g : Geometry} {x : ℕ} {ss : List Store} → carry g x ss ≡ nothing_left → ⊥
carry_something e = let z : ◌≡◌ {A = ℕ} 0 1 = cc in omega arith

plan_something :
    (admits : Geometry → View → Admission) (value : Geometry → View → ℕ) (stores : Geometry → View → List Store) (t : List ℕ)
    → plan_by admits (λ g v. carry g (value g v) (stores g v)) t ≢ nothing_left
unfolding plan_by plan_checked plan_admitted
plan_something admits value stores t e = checked (fault_of t) e
  where
    admitted : (g : Geometry) (a : Admission) → plan_admitted a (carry g (value g (view g t)) (stores g (view g t))) ≡ nothing_left → ⊥
    admitted g (Err r) e = refuse_something e
    admitted g (Ok _) e = carry_something e

    checked : (c : Result Geometry Refusal) → plan_checked admits (λ g v. carry g (value g v) (stores g v)) t c ≡ nothing_left → ⊥
    checked (Err r) e = refuse_something e
    checked (Ok g) e = admitted g (admits g (view g t)) e

pub write_something : (t : List ℕ) (n b x : ℕ) → write_of t n b x ≢ nothing_left
write_something t n b x = plan_something (λ g v. write_admission g v n b) (λ g v. 0) (λ g v. write_stores g v n b x) t

format_something : (t : List ℕ) (n m f : ℕ) → format_of t n m f ≢ nothing_left
unfolding format_made
format_something t n m f e = go (geometry_of n m f) e
  where
    go : (made : Option Geometry) → format_made t made ≡ nothing_left → ⊥
    go None e = refuse_something e
    go (Some g) e = by_cases (unusable_frames g)
        (λ u. refuse_something (rw u at e))
        (λ u. by_cases (leb (words_of g) (length t))
        (λ l. carry_something (rw (u, l) at e)) (λ l. refuse_something (rw (u, l) at e)))

-- ---- Check and Stretch store nothing

pub check_nothing : (t : List ℕ) {g : Geometry} {x : ℕ} {ss : List Store} → check_of t ≡ carry g x ss → ss ≡ []
unfolding checked_plan
check_nothing t {g} {x} {ss} e = go (fault_of t) e
  where
    go : (c : Result Geometry Refusal) → checked_plan c ≡ carry g x ss → ss ≡ []
    go (Err r) e = let z : ◌≡◌ {A = ℕ} 0 1 = cc in absurd (omega arith)
    go (Ok h) e = cc

pub stretch_nothing : (t : List ℕ) (n : ℕ) {g : Geometry} {x : ℕ} {ss : List Store} → stretch_of t n ≡ carry g x ss → ss ≡ []
unfolding stretch_checked
stretch_nothing t n {g} {x} {ss} e = go (sizes_of t) e
  where
    go : (c : Result Geometry Refusal) → stretch_checked n c ≡ carry g x ss → ss ≡ []
    go (Err r) e = let z : ◌≡◌ {A = ℕ} 0 1 = cc in absurd (omega arith)
    go (Ok h) e =
        by_cases (leb h.nodes n)
        (λ y. let e' = rw y at e in let z : ◌≡◌ {A = ℕ} 0 1 = cc in absurd (omega arith)) (λ y. let e' = rw y at e in cc)

-- ---- THE STEP

module _ (t : List ℕ) (memory : Memory) (commits : ℕ) (good : Good t memory commits)
    (recovers : (lost : Option ℕ) (scratch : ℕ) (g : Geometry) (x : ℕ) (ss : List Store) → recover_of t lost scratch ≡ carry g x ss
    → Good (after g (length ss) ss t) (record { values = memory.saved; saved = memory.saved }) commits)
    (recover_something : (lost : Option ℕ) (scratch : ℕ) → recover_of t lost scratch ≢ nothing_left) where
  nothing_stored : (g : Geometry) (ss : List Store) → ss ≡ [] → Good (after g (length ss) ss t) memory commits
  nothing_stored g ss e = rw (e, after_none g 0 t) good

  here : Serves t (geometry_in t) (value_of memory) (saved_in memory) commits
  here = good.serves

  abbrev G : Geometry
  G = geometry_in t

  -- a call that serves the same values, at the limit of all its stores
  same :
      (call : Call) (p : Plan) → carried call memory ≡ memory → commits_with call commits ≡ commits
      → ((g : Geometry) (x : ℕ) (ss : List Store) → p ≡ carry g x ss → Serves (after g (length ss) ss t) G (value_of memory) (saved_in memory) commits)
      → Good (whole_table p t) (fed call (refused p) memory) (cond (not (refused p)) (commits_with call commits) commits)
  same call p m c f =
      good_plan t memory commits good call p (λ g x ss e. rw (m, c) (good_same t memory commits good _ (f g x ss e))) (λ e. rw (m, c) good)

  pub good_call : (s : Step) → Good (table_by t s) (memory_with t s memory) (commits_after t s commits)
  unfolding plan_of
  good_call s = go s.call
    where
      step : (call : Call) → Step
      step c = record { call = c; scratch = s.scratch }

      go : (call : Call) → Good (table_by t (step call)) (memory_with t (step call) memory) (commits_after t (step call) commits)
      go (Format n m f) =
          good_plan t memory commits good (Format n m f) (format_of t n m f) (λ g x ss e. good_format t n m f e) (λ e. absurd (format_something t n m f e))
      go Check = good_plan t memory commits good Check (check_of t) (λ g x ss e. nothing_stored g ss (check_nothing t e)) (λ e. good)
      go (Stretch n) =
          good_plan t memory commits good (Stretch n) (stretch_of t n) (λ g x ss e. nothing_stored g ss (stretch_nothing t n e)) (λ e. good)
      go (Read n b) = same (Read n b) (read_of t n b) refl refl (λ g x ss e. read_serves t G _ _ commits here n b e (length ss) (omega arith))
      go (Write n b x) =
          good_plan t memory commits good (Write n b x) (write_of t n b x) (λ g y ss e. good_write t memory commits good n b x e)
          (λ e. absurd (write_something t n b x e))
      go (Evict n b place) =
          same (Evict n b place) (evict_of t n b place) refl refl (λ g x ss e. evict_serves t G _ _ commits here n b place e (length ss) (omega arith))
      go Open = same Open (open_of t) refl refl (λ g x ss e. open_serves t G _ _ commits here e (length ss) (omega arith))
      go Create = same Create (create_of t) refl refl (λ g x ss e. create_serves t G _ _ commits here e (length ss) (omega arith))
      go Commit =
          good_plan t memory commits good Commit (commit_of t)
          (λ g x ss e. good_by _ G _ (suc commits) (rw add-one at (commit_serves t G _ _ commits here e (length ss) (omega arith))) good.values_size good.values_size)
          (λ e. absurd (plan_something commit_admission (λ g v. 0) commit_stores t e))
      go Abandon = same Abandon (abandon_of t) refl refl (λ g x ss e. abandon_serves t G _ _ commits here e (length ss) (omega arith))
      go (Recover lost) =
          good_plan t memory commits good (Recover lost) (recover_of t lost s.scratch) (λ g x ss e. recovers lost s.scratch g x ss e)
          (λ e. absurd (recover_something lost s.scratch e))
