-- A run of whole calls as a history; and a run up to its last finished commit or formatting, where the values are those saved.
use Rattle.std.specs.Prelude.{Ok, Option}
use Prim.Native.Nat.{ℕ}
use mathlib.Core.Path.{◌≡◌, refl, sym, ◌∙◌}
use mathlib.Core.Bool.{Bool, true, false, not, ◌&&◌}
use mathlib.Core.List.{List, [], ◌∷◌, ◌++◌}
use Rattle.counting.proofs.Laws.Tests.{by_cases, no_both, either, neither}
use Rattle.table.specs.View.{view}
use Rattle.table.specs.Answers.{Plan, refuse, nothing_left, carry}
use Rattle.entries.proofs.Laws.CheckFacts.{Shape}
use Rattle.homes.proofs.Laws.SoundKept.{shape_after}
use Rattle.restore.specs.declared.call.Call.{Call}
use Rattle.restore.specs.declared.call.Call.TheVariants.{Format, Check, Stretch, Read, Write, Evict, Open, Create, Commit, Abandon, Recover}
use Rattle.recovery.specs.Recover.{recover_stores, recover_of}
use Rattle.recovery.proofs.Laws.RecoverPlan.{recover_carries}
use Rattle.recovery.proofs.Laws.RecoverOff.{recover_off}
use Rattle.restore.specs.Call.{plan_of, refused}
use Rattle.restore.specs.Memory.{Memory, fed}
use Rattle.restore.specs.Run.{Step, geometry_in, whole_table, is_point, plan_at, table_by, finished, memory_with, run, has_point, to_point, commits_from, memory_from, commits_after}
use Rattle.restore.specs.History.{History, whole_call}
use Rattle.restore.proofs.Laws.Good.{Good, shape_geometry}
use Rattle.restore.proofs.Laws.GoodCall.{good_call}
use Rattle.restore.proofs.Laws.RecoverGood.{good_sizes, recover_something, recover_good}
use Rattle.restore.proofs.Laws.CutShape.{good_shape, cut_shape}

-- ---- a run is a history

pub run_history :
    (calls : List Step) {t : List ℕ} {memory : Memory} {commits : ℕ} → History t memory commits
    → History (run t calls) (memory_from memory t calls) (commits_from commits t calls)
unfolding run memory_from commits_from
run_history [] h = h
run_history (s ∷ ss) h = run_history ss (whole_call h s)

pub run_one : (t : List ℕ) (calls : List Step) (s : Step) → run t (calls ++ (s ∷ [])) ≡ table_by (run t calls) s
unfolding run
run_one t [] s = refl
run_one t (x ∷ xs) s = run_one (table_by t x) xs s

good_next : {t : List ℕ} {memory : Memory} {commits : ℕ} → Good t memory commits → (s : Step) → Good (table_by t s) (memory_with t s memory) (commits_after t s commits)
good_next {t} {memory} {commits} good s = good_call t memory commits good (recover_good t memory commits good) (recover_something t) s

-- ---- a call that is no finished commit or formatting keeps what is saved, and the geometry

module _ (t : List ℕ) (memory : Memory) (commits : ℕ) (good : Good t memory commits) (s : Step) (no : (is_point s.call && finished t s) ≡ false) where
  pub saved_stays : (memory_with t s memory).saved ≡ memory.saved
  saved_stays = go s.call (refused (plan_at t s)) no
    where
      go : (call : Call) (q : Bool) → (is_point call && not q) ≡ false → (fed call q memory).saved ≡ memory.saved
      go call true n = refl
      go (Format n m f) false e = absurd (no_both refl e)
      go Check false e = refl
      go (Stretch n) false e = refl
      go (Read n b) false e = refl
      go (Write n b x) false e = refl
      go (Evict n b place) false e = refl
      go Open false e = refl
      go Create false e = refl
      go Commit false e = absurd (no_both refl e)
      go Abandon false e = refl
      go (Recover lost) false e = refl

  pub geometry_stays : geometry_in (table_by t s) ≡ geometry_in t
  unfolding plan_of
  geometry_stays = shape_geometry (table_by t s) (geometry_in t) (go s.call no)
    where
      recovers : (lost : Option ℕ) (p : Plan) → p ≡ recover_of t lost s.scratch → Shape (whole_table p t) (geometry_in t)
      recovers lost (refuse r) e = good_shape t memory commits good
      recovers lost nothing_left e = good_shape t memory commits good
      recovers lost (carry g x ss) e =
          let c = recover_carries t lost s.scratch (sym e) in
          let p : Ok g ≡ Ok (geometry_in t) = sym c.passed ∙ good_sizes t memory commits good in
          let same : g ≡ geometry_in t = cc in
          let list : ss ≡ recover_stores (geometry_in t) lost (view (geometry_in t) t) = rw same at c.stores_are in
          rw (same, list) (shape_after (geometry_in t) _ t (recover_off (geometry_in t) lost (view (geometry_in t) t)) (good_shape t memory commits good))

      formats : (p : Plan) → not (refused p) ≡ false → Shape (whole_table p t) (geometry_in t)
      formats (refuse r) e = good_shape t memory commits good
      formats nothing_left e = absurd (no_both refl e)
      formats (carry g x ss) e = absurd (no_both refl e)

      go : (call : Call) → (is_point call && not (refused (plan_of t s.scratch call))) ≡ false → Shape (whole_table (plan_of t s.scratch call) t) (geometry_in t)
      go (Format n m f) e = formats (plan_of t s.scratch (Format n m f)) e
      go Check e = cut_shape t memory commits good Check s.scratch _ refl
      go (Stretch n) e = cut_shape t memory commits good (Stretch n) s.scratch _ refl
      go (Read n b) e = cut_shape t memory commits good (Read n b) s.scratch _ refl
      go (Write n b x) e = cut_shape t memory commits good (Write n b x) s.scratch _ refl
      go (Evict n b place) e = cut_shape t memory commits good (Evict n b place) s.scratch _ refl
      go Open e = cut_shape t memory commits good Open s.scratch _ refl
      go Create e = cut_shape t memory commits good Create s.scratch _ refl
      go Commit e = cut_shape t memory commits good Commit s.scratch _ refl
      go Abandon e = cut_shape t memory commits good Abandon s.scratch _ refl
      go (Recover lost) e = recovers lost (recover_of t lost s.scratch) refl

-- ---- no point in the list

pub no_points :
    (calls : List Step) (t : List ℕ) (memory : Memory) (commits : ℕ) → Good t memory commits → has_point t calls ≡ false
    → ((memory_from memory t calls).saved ≡ memory.saved) × (geometry_in (run t calls) ≡ geometry_in t)
unfolding has_point memory_from run
no_points [] t memory commits good h = (refl, refl)
no_points (s ∷ ss) t memory commits good h =
    let (a, b) = neither (is_point s.call && finished t s) (has_point (table_by t s) ss) h in
    let (x, y) = no_points ss (table_by t s) (memory_with t s memory) (commits_after t s commits) (good_next good s) b in
    (x ∙ saved_stays t memory commits good s a, y ∙ geometry_stays t memory commits good s a)

-- ---- at a point

-- a table whose values are those saved
pub record AtPoint (t : List ℕ) (saved : List ℕ) : Type 0 where
  pub commits : ℕ
  pub good : Good t (record { values = saved; saved = saved }) commits

-- a finished commit or formatting
point_now :
    (t : List ℕ) (memory : Memory) (commits : ℕ) → Good t memory commits → (s : Step) → (is_point s.call && finished t s) ≡ true
    → AtPoint (table_by t s) (memory_with t s memory).saved
point_now t memory commits good s h = record { commits = commits_after t s commits; good = rw (sym same) at (good_next good s) }
  where
    go : (call : Call) (q : Bool) → (is_point call && not q) ≡ true → (fed call q memory).values ≡ (fed call q memory).saved
    go (Format n m f) true e = absurd (no_both e refl)
    go (Format n m f) false e = refl
    go Check q e = absurd (no_both e refl)
    go (Stretch n) q e = absurd (no_both e refl)
    go (Read n b) q e = absurd (no_both e refl)
    go (Write n b x) q e = absurd (no_both e refl)
    go (Evict n b place) q e = absurd (no_both e refl)
    go Open q e = absurd (no_both e refl)
    go Create q e = absurd (no_both e refl)
    go Commit true e = absurd (no_both e refl)
    go Commit false e = refl
    go Abandon q e = absurd (no_both e refl)
    go (Recover lost) q e = absurd (no_both e refl)

    same : record { values = (memory_with t s memory).saved; saved = (memory_with t s memory).saved } ≡ memory_with t s memory
    same = λ i. record { values = sym (go s.call (refused (plan_at t s)) h) i; saved = (memory_with t s memory).saved }

-- no point: none of the list
to_none : (calls : List Step) (t : List ℕ) → has_point t calls ≡ false → to_point t calls ≡ []
unfolding to_point
to_none [] t h = refl
to_none (s ∷ ss) t h = rw h refl

pub to_point_lem :
    (calls : List Step) (t : List ℕ) (memory : Memory) (commits : ℕ) → Good t memory commits → has_point t calls ≡ true
    → AtPoint (run t (to_point t calls)) (memory_from memory t calls).saved × (geometry_in (run t (to_point t calls)) ≡ geometry_in (run t calls))
unfolding has_point to_point run memory_from
to_point_lem [] t memory commits good h = absurd (no_both h refl)
to_point_lem (s ∷ ss) t memory commits good h = by_cases (has_point (table_by t s) ss)
    (λ later. rw h (to_point_lem ss (table_by t s) (memory_with t s memory) (commits_after t s commits) (good_next good s) later))
    (λ last.
    let here : (is_point s.call && finished t s) ≡ true =
    either (is_point s.call && finished t s) h (λ y. y) (λ y. absurd (no_both y last)) in
    let (x, y) = no_points ss (table_by t s) (memory_with t s memory) (commits_after t s commits) (good_next good s) last in
    rw (h, to_none ss (table_by t s) last, x) (point_now t memory commits good s here, sym y))

-- from a point on: the last point of the list, or where it began
pub last_point :
    (calls : List Step) (t : List ℕ) (saved : List ℕ) → AtPoint t saved
    → AtPoint (run t (to_point t calls)) (memory_from (record { values = saved; saved = saved }) t calls).saved
    × (geometry_in (run t (to_point t calls)) ≡ geometry_in (run t calls))
unfolding run
last_point calls t saved p = by_cases (has_point t calls)
    (to_point_lem calls t _ p.commits p.good)
    (λ none.
    let (x, y) = no_points calls t _ p.commits p.good none in
    rw (to_none calls t none, x) (p, sym y))
