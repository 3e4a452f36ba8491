-- DEMAND 3 holds: the restore of any struck run.
use Rattle.std.specs.Prelude.{None, Option, Some}
use Prim.Native.Nat.{ℕ, ◌+◌, ◌<◌}
use mathlib.Core.Path.{◌≡◌, refl, sym, ap, ◌∙◌, subst}
use mathlib.Core.Bool.{Bool, true, false, not, cond}
use mathlib.Core.List.{List, [], ◌∷◌, ◌++◌}
use native.Mathlib.Omega.{arith}
use lib.Dec.{eqb, ltb}
use lib.ListN.{replicate}
use borrow.Author.Tests.{ltb-true, ne_eqb, not-true}
use Rattle.counting.proofs.Laws.Tests.{by_cases, no_both, both}
use Rattle.table.specs.declared.geometry.Geometry.{Geometry}
use Rattle.table.specs.Words.{mark_word}
use Rattle.table.specs.View.{View, view, live}
use Rattle.table.proofs.Laws.Puts.{put₁_case}
use Rattle.table.specs.Answers.{Plan, refuse, nothing_left, carry, table_of}
use Rattle.homes.proofs.Laws.Kept.{test_live}
use Rattle.layout.specs.Formatted.{Formatted}
use Rattle.restore.specs.declared.call.Call.{Call}
use Rattle.restore.specs.declared.call.Call.TheVariants.{Format, Check, Stretch, Read, Write, Evict, Open, Create, Commit, Abandon, Recover}
use Rattle.survivors.specs.Survivors.{survivors, carries}
use Rattle.recovery.proofs.Laws.Recovered.{Recovered}
use Rattle.restore.specs.Call.{refused, accepted}
use Rattle.restore.specs.Memory.{Memory, zeros, carried, fed, value_of, saved_in}
use Rattle.restore.specs.Run.{Step, geometry_in, plan_at, table_by, finished, run, to_point, commits_from, memory_from}
use Rattle.restore.specs.Strike.{is_commit, Strike, fourteen, attempted, recovered, surviving, commit_counts, memory_by, commits_by}
use Rattle.restore.specs.OneItem.{HasValue}
use Rattle.restore.specs.History.{begun}
use Rattle.restore.specs.Demand3.{Restored, Demand3}
use Rattle.restore.proofs.Laws.Good.{Good, shape_geometry}
use Rattle.restore.proofs.Laws.GoodStep.{good_begins}
use Rattle.restore.proofs.Laws.GoodCall.{good_call}
use Rattle.restore.proofs.Laws.RecoverGood.{recover_something, recover_good}
use Rattle.restore.proofs.Laws.CutReady.{none_carries}
use Rattle.restore.proofs.Laws.CutShape.{cut_shape}
use Rattle.restore.proofs.Laws.StrikeGood.{strike_plan, strike_leaves, strike_live, strike_geometry, memory_size}
use Rattle.restore.proofs.Laws.HistoryTheorem.{history_good, on_two_nodes}
use Rattle.restore.proofs.Laws.RunPoints.{run_history, run_one, AtPoint, last_point}
use Rattle.restore.proofs.Laws.GoodValues.{good_has}

-- ---- live nodes of a recovered table

module _ (g : Geometry) (saved : ℕ → ℕ) (number : ℕ) (w : View) (t : List ℕ) (z : Recovered g saved number w (view g t)) where
  recovered_live : (n : ℕ) → n < g.nodes → live (view g t) n ≡ live w n
  recovered_live n h = by_cases (live w n)
      (λ l. ap (λ x. not (eqb x 0)) (z.marks n (test_live g w n h l)) ∙ ap not (ne_eqb (mark_word 0 number) 0 (λ e. omega arith)) ∙ sym l)
      (λ l. ap (λ x. not (eqb x 0)) (z.dead n l))

-- a node that is not there is live in neither
no_live : (g : Geometry) (t : List ℕ) (n : ℕ) → ltb n g.nodes ≡ false → live (view g t) n ≡ false
unfolding view
no_live g t n h = rw h refl

no_survivor : (g : Geometry) (t : List ℕ) (lost : Option ℕ) (n : ℕ) → ltb n g.nodes ≡ false → live (survivors lost (view g t)) n ≡ false
no_survivor g t None n h = no_live g t n h
no_survivor g t (Some m) n h = put₁_case (λ x. not (eqb x 0) ≡ false) (view g t).mark m 0 n (λ e. refl) (λ e. no_live g t n h)

commit_is : (call : Call) → is_commit call ≡ true → call ≡ Commit
commit_is (Format n m f) h = absurd (no_both h refl)
commit_is Check h = absurd (no_both h refl)
commit_is (Stretch n) h = absurd (no_both h refl)
commit_is (Read n b) h = absurd (no_both h refl)
commit_is (Write n b x) h = absurd (no_both h refl)
commit_is (Evict n b place) h = absurd (no_both h refl)
commit_is Open h = absurd (no_both h refl)
commit_is Create h = absurd (no_both h refl)
commit_is Commit h = refl
commit_is Abandon h = absurd (no_both h refl)
commit_is (Recover lost) h = absurd (no_both h refl)

-- the plain memory's values after a commit that was not refused
commit_values : (call : Call) (q : Bool) (m : Memory) (b : ℕ) → call ≡ Commit → q ≡ false → value_of (fed call q m) b ≡ value_of m b
commit_values call q m b e f = rw (e, f) refl

-- a value known at a geometry and under another name
has_as : (g g' : Geometry) (t : List ℕ) (b x x' : ℕ) → g ≡ g' → x ≡ x' → HasValue (view g t) b x → HasValue (view g' t) b x'
has_as g g' t b x x' e f h = rw (← e, ← f) h

module _ (t₀ : List ℕ) (formatted : Formatted t₀) (calls : List Step) (strike : Strike (run t₀ calls)) where
  abbrev fed_list : Memory
  fed_list = memory_from (zeros formatted.geometry.items) t₀ calls

  abbrev done : ℕ
  done = commits_from 0 t₀ calls

  abbrev now : List ℕ
  now = run t₀ calls

  abbrev g : Geometry
  g = geometry_in (run t₀ calls)

  good : Good now fed_list done
  good = history_good (run_history calls (begun t₀ formatted))

  -- ---- the undisturbed run

  finished_by :
      (p : Plan) → carries g (done + 1) (survivors strike.lost (view g (table_of p strike.cut.limit now))) ≡ true → not (refused p) ≡ true
  finished_by (refuse r) h = absurd (no_both h (none_carries now fed_list done good strike.lost))
  finished_by nothing_left h = refl
  finished_by (carry h x ss) e = refl

  counted_finished : commit_counts strike done ≡ true → finished now strike.cut.next ≡ true
  counted_finished h = finished_by (plan_at now strike.cut.next) (both (is_commit strike.cut.next.call) h).1

  -- the cut commit counts: it is carried out there
  with_commit : commit_counts strike done ≡ true → (b : ℕ) → b < g.items → HasValue (view g (table_by now strike.cut.next)) b (value_of fed_list b)
  with_commit h b l =
      let s = strike.cut.next in
      let c = commit_is s.call (both (is_commit s.call) h).0 in
      let same = shape_geometry (table_by now s) g (cut_shape now fed_list done good s.call s.scratch _ strike.cut.cuttable) in
      let next = good_call now fed_list done good (recover_good now fed_list done good) (recover_something now) s in
      has_as (geometry_in (table_by now s)) g (table_by now s) b _ (value_of fed_list b) same (commit_values s.call (refused (plan_at now s)) fed_list b c (not-true (refused (plan_at now s)) (counted_finished h)))
      (good_has (table_by now s) _ _ next b (subst (λ h. b < h.items) (sym same) l))

  -- it does not: the last point of the list, or the formatted table
  last : AtPoint (run t₀ (to_point t₀ calls)) fed_list.saved × (geometry_in (run t₀ (to_point t₀ calls)) ≡ g)
  last =
      last_point calls t₀ (replicate formatted.geometry.items 0)
      (record { commits = 0; good = good_begins t₀ formatted })

  without : (b : ℕ) → b < g.items → HasValue (view g (run t₀ (to_point t₀ calls))) b (saved_in fed_list b)
  without b l = has_as (geometry_in (run t₀ (to_point t₀ calls))) g (run t₀ (to_point t₀ calls)) b (saved_in fed_list b) (saved_in fed_list b) last.1 refl (good_has (run t₀ (to_point t₀ calls)) _ _ last.0.good b (subst (λ h. b < h.items) (sym last.1) l))

  undisturbed_by :
      (q : Bool) → commit_counts strike done ≡ q → (b : ℕ) → b < g.items
      → HasValue (view g (run t₀ (cond q (calls ++ (strike.cut.next ∷ [])) (to_point t₀ calls)))) b
      (saved_in (carried (Recover strike.lost) (cond q (carried Commit fed_list) fed_list)) b)
  undisturbed_by true h b l = rw (run_one t₀ calls strike.cut.next) (with_commit h b l)
  undisturbed_by false h b l = without b l

  geometry_by :
      (q : Bool) → commit_counts strike done ≡ q → geometry_in (run t₀ (cond q (calls ++ (strike.cut.next ∷ [])) (to_point t₀ calls))) ≡ g
  geometry_by true h =
      let s = strike.cut.next in
      rw (run_one t₀ calls s)
      (shape_geometry (table_by now s) g (cut_shape now fed_list done good s.call s.scratch _ strike.cut.cuttable))
  geometry_by false h = last.1

  -- ---- the struck run

  module _ (room : fourteen strike ≡ false) where
    leaves : Recovered g (saved_in (memory_by strike done fed_list)) (commits_by strike done) (survivors strike.lost (view g (attempted strike))) (view g (recovered strike))
    leaves = strike_leaves now fed_list done good strike room

    lives : (n : ℕ) → live (view g (recovered strike)) n ≡ live (surviving strike) n
    lives n = by_cases (ltb n g.nodes)
        (λ h. recovered_live g _ _ _ (recovered strike) leaves n (ltb-true n g.nodes h) ∙ strike_live now fed_list done good strike room n)
        (λ h. no_live g (recovered strike) n h ∙ sym (no_survivor g _ strike.lost n h))

    restored : Restored t₀ formatted calls strike
    restored = record {
      carried_out = ap accepted (strike_plan now fed_list done good strike room);
      restored = λ b h. on_two_nodes g (recovered strike) _ _ _ leaves b h;
      live_nodes = lives;
      undisturbed_value = undisturbed_by (commit_counts strike done) refl;
      commit_finished = counted_finished;
      struck_geometry = strike_geometry now fed_list done good strike room;
      undisturbed_geometry = geometry_by (commit_counts strike done) refl;
      memory_items = memory_size now fed_list done good strike;
    }

-- ---- THE DEMAND

pub demand3 : Demand3
demand3 = restored
