-- THE THEOREM of saves: while at most one node is dead, a save goes through.
use Prim.Native.Nat.{ℕ, zero, suc, ◌+◌, ◌-◌, ◌^◌, ◌≤◌, ◌<◌}
use mathlib.Core.Path.{◌≡◌, refl, ap, ◌∙◌, subst}
use mathlib.Core.Bool.{true, false}
use mathlib.Core.List.{List}
use native.Mathlib.Omega.{arith}
use lib.ListN.{length}
use Rattle.table.specs.declared.geometry.Geometry.{Geometry}
use Rattle.table.specs.Stores.{Store, after}
use Rattle.table.specs.View.{view}
use Rattle.table.specs.Answers.{carry}
use Rattle.entries.proofs.Laws.KindTests.{clean_test}
use Rattle.entries.proofs.Laws.CheckFacts.{accepted_facts}
use Rattle.homes.proofs.Laws.Serves.{Serves, serves_number}
use Rattle.checkpoints.specs.Checkpoint.{is_open}
use Rattle.checkpoints.specs.Create.{create_stores}
use Rattle.checkpoints.specs.Commit.{commit_stores, commit_of}
use Rattle.checkpoints.specs.Open.{open_stores}
use Rattle.checkpoints.specs.CreateRoom.{dead_nodes, dirty_items}
use Rattle.checkpoints.proofs.Laws.MarksSound.{common_number}
use Rattle.checkpoints.proofs.Laws.OpenServes.{open_serves}
use Rattle.checkpoints.proofs.Laws.CreateServes.{create_serves}
use Rattle.checkpoints.proofs.Laws.CommitServes.{commit_serves}
use Rattle.checkpoints.proofs.Laws.CommitSound.{commit_saves}
use Rattle.checkpoints.proofs.Laws.SaveSteps.{create_fewer, create_dead, create_open, open_dirty, open_dead, open_open}
use Rattle.checkpoints.proofs.Laws.SaveSteps.{open_carried, create_carried, create_ends, commit_carried}
use Rattle.restore.specs.declared.call.Call.TheVariants.{Open, Create, Commit}
use Rattle.restore.specs.Call.{plan_of, accepted}
use Rattle.restore.specs.Memory.{Memory, value_of, saved_in}
use Rattle.restore.specs.Run.{geometry_in, whole_table, plan_at, table_by, run}
use Rattle.restore.specs.OneItem.{HasValue}
use Rattle.restore.specs.Save.{asked, created_by, GoesThrough, SaveDemand}
use Rattle.restore.proofs.Laws.Good.{Good, good_by, passed_geometry}
use Rattle.restore.proofs.Laws.GoodValues.{good_has}
use Rattle.restore.proofs.Laws.HistoryTheorem.{history_good}

module _ (g : Geometry) (memory : Memory) (values_size : length memory.values ≡ g.items) (commits : ℕ) where
  abbrev Here : List ℕ → Type 0
  Here t = Serves t g (value_of memory) (saved_in memory) commits

  -- ---- nothing is dirty: 17, and the commit

  module _ (t : List ℕ) (here : Here t) (opened : is_open g (view g t) ≡ true) (none : dirty_items g (view g t) ≡ 0) where
    abbrev ss : List Store
    ss = commit_stores g (view g t)

    abbrev t' : List ℕ
    t' = after g (length ss) ss t

    plan : commit_of t ≡ carry g 0 ss
    plan = commit_carried t g here.passed opened none

    left : table_by t (asked Commit) ≡ t'
    unfolding plan_of
    left = ap (λ p. whole_table p t) plan

    serves : Serves t' g (value_of memory) (value_of memory) (commits + 1)
    serves = commit_serves t g _ _ commits here plan (length ss) (omega arith)

    saved_good : Good t' (record { values = memory.values; saved = memory.values }) (commits + 1)
    saved_good = good_by t' g _ (commits + 1) serves values_size values_size

    same : geometry_in t' ≡ g
    same = passed_geometry t' g serves.passed

    value_of_lem : (b : ℕ) → b < g.items → HasValue (view g t') b (value_of memory b)
    value_of_lem b =
        subst (λ g. b < g.items → HasValue (view g t') b (value_of memory b)) same (good_has t' _ _ saved_good b)

    none_through : GoesThrough g t memory 0
    unfolding plan_of run
    none_through = record {
      creates = λ k l. absurd (omega (arith, l));
      none_left = create_ends t g here.passed opened none;
      commits = ap accepted plan;
      clean = λ b h. rw left
          (clean_test (view g t') g.nodes b (commit_saves t plan (length ss) (omega arith) b h).clean_after);
      written = λ b h. rw left (value_of_lem b h);
      geometry = ap geometry_in left ∙ same;
    }

  -- ---- a create, and what follows

  next_through :
      (t : List ℕ) (d : ℕ) → accepted (plan_at t (asked Create)) ≡ true
      → GoesThrough g (table_by t (asked Create)) memory d → GoesThrough g t memory (suc d)
  unfolding run
  next_through t d done through = record {
    creates = each;
    none_left = through.none_left;
    commits = through.commits;
    clean = through.clean;
    written = through.written;
    geometry = through.geometry;
  }
    where
      each : (k : ℕ) → k < suc d → accepted (plan_at (created_by k t) (asked Create)) ≡ true
      each zero l = done
      each (suc k) l = through.creates k (omega (arith, l))

  all_through :
      (d : ℕ) (t : List ℕ) → Here t → dead_nodes g (view g t) ≤ 1 → is_open g (view g t) ≡ true
      → dirty_items g (view g t) ≡ d → GoesThrough g t memory d
  unfolding plan_of
  all_through zero t here dead opened e = none_through t here opened e
  all_through (suc d) t here dead opened e =
      let plan = create_carried t g here.passed opened dead (omega (arith, e)) in
      let n = length (create_stores g (view g t)) in
      let left : table_by t (asked Create) ≡ after g n (create_stores g (view g t)) t = ap (λ p. whole_table p t) plan in
      next_through t d (ap accepted plan)
      (rw left (all_through d (after g n (create_stores g (view g t)) t)
      (create_serves t g _ _ commits here plan n (omega arith))
      (omega (arith, dead, create_dead t plan n (omega arith)))
      (create_open t plan n (omega arith) ∙ opened)
      (omega (arith, e, create_fewer t plan n (omega arith)))))

-- ---- THE THEOREM

module _ (t : List ℕ) (memory : Memory) (commits : ℕ) (good : Good t memory commits)
    (dead : dead_nodes (geometry_in t) (view (geometry_in t) t) ≤ 1) where
  abbrev G : Geometry
  G = geometry_in t

  pub open_through : is_open G (view G t) ≡ true → GoesThrough G t memory (dirty_items G (view G t))
  open_through opened = all_through G memory good.values_size commits _ t good.serves dead opened refl

  pub whole_through :
      is_open G (view G t) ≡ false → commits < 2 ^ 32 - 1
      → (accepted (plan_at t (asked Open)) ≡ true)
      × GoesThrough G (table_by t (asked Open)) memory (dirty_items G (view G t))
  unfolding plan_of
  whole_through shut room =
      let s = good.serves in
      let a = accepted_facts t G s.passed in
      let common = common_number G (view G t) _ _ a.table (omega (arith, a.shape.sizes)) in
      let number = common ∙ serves_number t G _ _ commits s in
      let plan = open_carried t G s.passed shut commits room number in
      let n = length (open_stores G (view G t)) in
      let left : table_by t (asked Open) ≡ after G n (open_stores G (view G t)) t = ap (λ p. whole_table p t) plan in (
        ap accepted plan,
        rw left (all_through G memory good.values_size commits _ (after G n (open_stores G (view G t)) t)
            (open_serves t G _ _ commits s plan n (omega arith))
            (omega (arith, dead, open_dead t plan n (omega arith)))
            (open_open t plan n (omega arith))
            (open_dirty t plan n (omega arith))),
      )

pub save_demand : SaveDemand
save_demand = record {
  opened = λ {t} {memory} {commits} history dead. open_through t memory commits (history_good history) dead;
  not_opened = λ {t} {memory} {commits} history dead. whole_through t memory commits (history_good history) dead;
}
