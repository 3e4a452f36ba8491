-- THE THEOREM of histories: along whole calls and strikes in any order the table stays related to the plain memory, and every strike is restored.
use Prim.Native.Nat.{ℕ, ◌<◌}
use mathlib.Core.Path.{◌≡◌, ap}
use mathlib.Core.Logic.{◌≢◌, ◌⊎◌, inl, inr}
use mathlib.Core.Bool.{true}
use mathlib.Core.List.{List}
use native.Mathlib.Omega.{arith}
use native.Mathlib.Decide.{ℕ_discrete}
use Rattle.table.specs.declared.geometry.Geometry.{Geometry}
use Rattle.table.specs.Words.{shared_ck1, shared_ck2}
use Rattle.table.proofs.Laws.Changes.{checkpoint_code}
use Rattle.table.specs.View.{View, view, live, current}
use Rattle.entries.proofs.Laws.Kinds.{has_live, has_code, has_at_lem, has_apart}
use Rattle.restore.specs.Call.{accepted}
use Rattle.restore.specs.Memory.{Memory, saved_in}
use Rattle.restore.specs.Run.{geometry_in}
use Rattle.restore.specs.Strike.{recovered, memory_by, commits_by}
use Rattle.restore.specs.OneItem.{OnTwoNodes}
use Rattle.restore.specs.History.{History, begun, whole_call, struck_call, HistoryDemand}
use Rattle.recovery.proofs.Laws.Recovered.{Recovered}
use Rattle.recovery.proofs.Laws.RecoveredSound.{plain_at}
use Rattle.restore.proofs.Laws.HitReady.{live_inside}
use Rattle.restore.proofs.Laws.Good.{Good}
use Rattle.restore.proofs.Laws.GoodStep.{good_begins}
use Rattle.restore.proofs.Laws.GoodCall.{good_call}
use Rattle.restore.proofs.Laws.RecoverGood.{recover_something, recover_good}
use Rattle.restore.proofs.Laws.StrikeGood.{strike_plan, strike_leaves, strike_good, accepted_room}

pub history_good : {t : List ℕ} {memory : Memory} {commits : ℕ} → History t memory commits → Good t memory commits
history_good (begun t f) = good_begins t f
history_good (whole_call {t} {memory} {commits} h s) =
    let good = history_good h in
    good_call t memory commits good (recover_good t memory commits good) (recover_something t) s
history_good (struck_call {t} {memory} {commits} h s a) =
    let good = history_good h in
    strike_good t memory commits good s (accepted_room t memory commits good s a)

-- ---- one item of a recovered table

module _ (g : Geometry) (t : List ℕ) (saved : ℕ → ℕ) (number : ℕ) (w : View) (z : Recovered g saved number w (view g t)) (b : ℕ) (h : b < g.items) where
  abbrev v : View
  v = view g t

  abbrev one : ℕ
  one = (z.pairs b h).one

  abbrev two : ℕ
  two = (z.pairs b h).two

  value_at_lem : (n : ℕ) → live v n ≡ true → current (v.entry n b) ≢ 0 → (v.entry n b).value ≡ saved b
  value_at_lem n l d = (plain_at g saved number w v z n b (live_inside g t n l) h l).value d

  third : (n : ℕ) → live v n ≡ true → n ≢ one → n ≢ two → (current (v.entry n b) ≡ shared_ck1) ⊎ (current (v.entry n b) ≡ shared_ck2)
      → current (v.entry n b) ≡ 0
  third n l d e (inl c) = absurd (d ((z.pairs b h).first.alone n (live_inside g t n l) (has_at_lem v b n shared_ck1 l c)))
  third n l d e (inr c) = absurd (e ((z.pairs b h).second.alone n (live_inside g t n l) (has_at_lem v b n shared_ck2 l c)))

  pub on_two_nodes : OnTwoNodes (view g t) b (saved b)
  on_two_nodes =
      let p = z.pairs b h in
      let c₁ = has_code v b one shared_ck1 p.first.holds in
      let c₂ = has_code v b two shared_ck2 p.second.holds in
      record {
        first = one;
        second = two;
        distinct = has_apart v g.nodes b one two shared_ck1 shared_ck2 (λ e. omega arith) p.first p.second;
        first_live = has_live v b one shared_ck1 p.first.holds;
        second_live = has_live v b two shared_ck2 p.second.holds;
        first_state = c₁;
        second_state = c₂;
        first_value = value_at_lem one (has_live v b one shared_ck1 p.first.holds) (λ e. omega arith);
        second_value = value_at_lem two (has_live v b two shared_ck2 p.second.holds) (λ e. omega arith);
        no_third = λ n l d e. elim (ℕ_discrete (current (v.entry n b)) 0) [
          | yes q ↦ q
          | no q ↦ third n l d e (checkpoint_code (current (v.entry n b)) ((plain_at g saved number w v z n b (live_inside g t n l) h l).code q))
        ];
        none_kept = λ n l. (plain_at g saved number w v z n b (live_inside g t n l) h l).nothing;
      }

-- ---- THE RESTORE, after any number of strikes

pub history_demand : HistoryDemand
history_demand t memory commits history strike room =
    let good = history_good history in (
      ap accepted (strike_plan t memory commits good strike room),
      (λ b h. on_two_nodes (geometry_in t) (recovered strike) (saved_in (memory_by strike commits memory)) (commits_by strike commits) _
          (strike_leaves t memory commits good strike room) b h),
    )
