-- THE RESTORE of one strike: on a table related to the plain memory, unless 14's condition holds, the whole recovery is accepted, and its table is
-- related to the plain memory that was fed the cut commit, where it counts, and the recovery.
use Rattle.std.specs.Prelude.{None, Ok, Option, Some}
use Prim.Native.Nat.{ℕ}
use mathlib.Core.Path.{◌≡◌, refl, ap, ◌∙◌}
use mathlib.Core.Bool.{Bool, true, false, not, cond}
use mathlib.Core.List.{List}
use native.Mathlib.Omega.{arith}
use lib.Dec.{eqb}
use lib.ListN.{length}
use borrow.Author.Tests.{lt-leb}
use Rattle.counting.proofs.Laws.Tests.{by_cases, no_both}
use Rattle.table.specs.declared.geometry.Geometry.{Geometry}
use Rattle.table.specs.declared.answers.Refusal.TheVariants.{TooFewNodes}
use Rattle.table.specs.View.{View, view, live}
use Rattle.table.specs.Answers.{refuse, carry}
use Rattle.entries.specs.Check.{sizes_of}
use Rattle.entries.proofs.Laws.CheckFacts.{Shape, facts_sizes}
use Rattle.homes.proofs.Laws.Serves.{Serves}
use Rattle.restore.specs.declared.call.Call.TheVariants.{Commit, Recover}
use Rattle.survivors.specs.Survivors.{survivors, lost_outside, too_few}
use Rattle.recovery.specs.Recover.{recover_stores}
use Rattle.recovery.proofs.Laws.RecoverPlan.{few_refused, few_fourteen}
use Rattle.recovery.proofs.Laws.ReadyAccepts.{ready_formed}
use Rattle.recovery.proofs.Laws.Ready.{Ready}
use Rattle.recovery.proofs.Laws.Recovered.{Recovered}
use Rattle.recovery.proofs.Laws.RecoverTheorem.{going_few, recover_accepts, recover_leaves, recover_serves}
use Rattle.restore.specs.Call.{accepted}
use Rattle.restore.specs.Memory.{Memory, carried, value_of, saved_in}
use Rattle.restore.specs.Run.{geometry_in}
use Rattle.restore.specs.Strike.{cut_table, live_or_none, Strike, fourteen, attempted, last_recovery, recovered, surviving, commit_counts, memory_by, commits_by}
use Rattle.restore.proofs.Laws.Good.{Good, passed_geometry, good_by}
use Rattle.restore.proofs.Laws.HitReady.{live_inside, hit_marks, hit_ready, hit_shape}
use Rattle.restore.proofs.Laws.CutReady.{cut_ready}
use Rattle.restore.proofs.Laws.CutShape.{cut_shape}
use Rattle.restore.proofs.Laws.Attempts.{Attempted, attempts}

inside_of : (g : Geometry) (t : List ℕ) (lost : Option ℕ) → live_or_none (view g t) lost ≡ true → lost_outside g lost ≡ false
inside_of g t None h = refl
inside_of g t (Some n) h = lt-leb g.nodes n (live_inside g t n h)

module _ (t : List ℕ) (memory : Memory) (commits : ℕ) (good : Good t memory commits) (s : Strike t) where
  abbrev G : Geometry
  G = geometry_in t

  -- what is to come back, and its number
  abbrev back : Memory
  back = memory_by s commits memory

  abbrev number : ℕ
  number = commits_by s commits

  -- by whether the commit counts
  by_counts :
      (q : Bool) (k : ℕ) (w : View) → Ready G (λ b. cond q (value_of memory b) (saved_in memory b)) k w
      → Ready G (saved_in (carried (Recover s.lost) (cond q (carried Commit memory) memory))) k w
  by_counts true k w r = r
  by_counts false k w r = r

  back_size : length back.saved ≡ G.items
  back_size = go (commit_counts s commits)
    where
      go : (q : Bool) → length (carried (Recover s.lost) (cond q (carried Commit memory) memory)).saved ≡ G.items
      go true = good.values_size
      go false = good.saved_size

  -- ---- cut, hit, broken off

  pub cut_survivors : Ready G (saved_in back) number (surviving s)
  cut_survivors =
      by_counts (commit_counts s commits) number (surviving s)
      (cut_ready t memory commits good s.lost s.cut.next.call s.cut.next.scratch s.cut.limit s.cut.cuttable)

  cut_is : Shape (cut_table t s.cut) G
  cut_is = cut_shape t memory commits good s.cut.next.call s.cut.next.scratch s.cut.limit s.cut.cuttable

  inside : lost_outside G s.lost ≡ false
  inside = inside_of G (cut_table t s.cut) s.lost s.hit.one

  struck_survivors : Ready G (saved_in back) number (survivors s.lost (view G s.struck))
  struck_survivors = hit_ready G s.lost (cut_table t s.cut) s.struck s.hit (saved_in back) number cut_survivors

  all_attempts : Attempted G (saved_in back) number s.lost s.struck (attempted s)
  all_attempts =
      attempts G (saved_in back) number s.lost inside s.broken s.struck
      (hit_shape G s.lost (cut_table t s.cut) s.struck s.hit cut_is) struck_survivors

  passed : sizes_of (attempted s) ≡ Ok G
  passed = facts_sizes (attempted s) G all_attempts.shape

  -- the survivors before the whole recovery, and that they are as many as after the strike
  abbrev before : View
  before = survivors s.lost (view G (attempted s))

  as_many : too_few G before ≡ fourteen s
  as_many = going_few G (saved_in back) number (survivors s.lost (view G s.struck)) before all_attempts.going

  -- ---- the whole recovery

  module _ (room : fourteen s ≡ false) where
    pub strike_plan : last_recovery s ≡ carry G 0 (recover_stores G s.lost (view G (attempted s)))
    strike_plan =
        recover_accepts (attempted s) G (saved_in back) number s.lost passed inside all_attempts.going.ready (as_many ∙ room) s.scratch s.enough

    pub strike_leaves : Recovered G (saved_in back) number before (view G (recovered s))
    strike_leaves =
        rw strike_plan
        (recover_leaves (attempted s) G (saved_in back) number s.lost passed inside all_attempts.going.ready (as_many ∙ room) _ (omega arith))

    strike_serves : Serves (recovered s) G (saved_in back) (saved_in back) number
    strike_serves =
        rw strike_plan
        (recover_serves (attempted s) G (saved_in back) number s.lost passed inside all_attempts.going.ready (as_many ∙ room) _ (omega arith))

    pub strike_good : Good (recovered s) back number
    strike_good = good_by (recovered s) G back number strike_serves back_size back_size

    pub strike_geometry : geometry_in (recovered s) ≡ G
    strike_geometry = passed_geometry (recovered s) G strike_serves.passed

    -- the survivors are those of the cut table
    pub strike_live : (n : ℕ) → live before n ≡ live (surviving s) n
    strike_live n = all_attempts.going.same n ∙ ap (λ f. not (eqb (f n) 0)) (hit_marks G s.lost (cut_table t s.cut) s.struck s.hit)

  -- an accepted one tells that 14's condition does not hold
  pub accepted_room : accepted (last_recovery s) ≡ true → fourteen s ≡ false
  accepted_room a =
      by_cases (fourteen s)
      (λ few. let r = few_refused (attempted s) s.lost s.scratch passed (as_many ∙ few) in absurd (no_both a (ap accepted r.plan))) (λ q. q)

  -- and where it holds the answer is 14: never 2, never 15
  pub strike_few : fourteen s ≡ true → last_recovery s ≡ refuse TooFewNodes
  strike_few few =
      few_fourteen (attempted s) s.lost s.scratch passed inside s.enough
      (ready_formed G (saved_in back) number before all_attempts.going.ready) (as_many ∙ few)

  pub memory_size : length back.saved ≡ G.items
  memory_size = back_size
