-- However the next call is cut, whatever it is but a formatting or a recovery, the survivors are ready: for the save before, or, where a survivor
-- carries the number of the point that a cut commit makes, for that save.
use Rattle.std.specs.Prelude.{Option}
use Prim.Native.Nat.{ℕ, ◌+◌}
use mathlib.Core.Path.{◌≡◌, refl, sym, ap, ◌∙◌}
use mathlib.Core.Bool.{Bool, true, false, cond, ◌&&◌}
use mathlib.Core.List.{List, []}
use native.Mathlib.Omega.{arith}
use borrow.Author.Tests.{ne_eqb}
use Rattle.counting.proofs.Laws.Tests.{by_cases, no_both}
use Rattle.table.specs.declared.geometry.Geometry.{Geometry}
use Rattle.table.specs.Words.{number_of}
use Rattle.table.specs.Stores.{Store, after}
use Rattle.table.proofs.Laws.Stores.{after_none}
use Rattle.table.specs.View.{View, view, live}
use Rattle.table.specs.Answers.{Plan, refuse, nothing_left, carry, table_of}
use Rattle.layout.specs.Stretch.{check_of, stretch_of}
use Rattle.homes.proofs.Laws.Kept.{test_live}
use Rattle.calls.specs.Read.{read_of}
use Rattle.calls.specs.Write.{write_of}
use Rattle.homes.specs.Evict.{evict_of}
use Rattle.checkpoints.specs.Open.{open_of}
use Rattle.checkpoints.specs.Create.{create_of}
use Rattle.checkpoints.specs.Commit.{commit_of, abandon_of}
use Rattle.restore.specs.declared.call.Call.{Call}
use Rattle.restore.specs.declared.call.Call.TheVariants.{Format, Check, Stretch, Read, Write, Evict, Open, Create, Commit, Abandon, Recover}
use Rattle.counting.proofs.Laws.Exists.{exists_not}
use Rattle.survivors.specs.Survivors.{survivors, carries}
use Rattle.restore.proofs.Laws.Surviving.{survivor_mark, survivor_live}
use Rattle.recovery.proofs.Laws.Ready.{Ready}
use Rattle.restore.proofs.Laws.CallsReady.{read_ready, write_ready, evict_ready, open_ready, create_ready, abandon_ready}
use Rattle.restore.proofs.Laws.CommitReady.{commit_ready}
use Rattle.restore.specs.Call.{plan_of}
use Rattle.restore.specs.Memory.{Memory, value_of, saved_in}
use Rattle.restore.specs.Run.{geometry_in}
use Rattle.restore.specs.Strike.{can_be_cut, is_commit}
use Rattle.restore.proofs.Laws.Good.{Good}
use Rattle.restore.proofs.Laws.GoodCall.{check_nothing, stretch_nothing}
use Rattle.restore.proofs.Laws.RecoverGood.{good_ready}

module _ (t : List ℕ) (memory : Memory) (commits : ℕ) (good : Good t memory commits) (lost : Option ℕ) where
  abbrev G : Geometry
  G = geometry_in t

  -- the survivors of a table that a call left
  abbrev survived : List ℕ → View
  survived u = survivors lost (view G u)

  -- ready for the save before, or for that of a commit that counts
  abbrev pub ReadyBy : Bool → View → Type 0
  ReadyBy counts w = Ready G (λ b. cond counts (value_of memory b) (saved_in memory b)) (cond counts (commits + 1) commits) w

  -- no survivor carries the next number before a commit begins
  pub none_carries : carries G (commits + 1) (survived t) ≡ false
  none_carries = exists_not G.nodes _ (λ n h. by_cases (live (survived t) n)
      (λ y. let l = test_live G (survived t) n h y in
      let e : number_of ((survived t).mark n) ≡ commits =
      ap number_of (survivor_mark G (view G t) lost n l) ∙ good.serves.number_is n (survivor_live G (view G t) lost n l) in
      rw (y, e) (ne_eqb commits (commits + 1) (λ z. omega arith))) (λ y. rw y refl))

  -- a call that is no commit, by its plan
  plain :
      (p : Plan) → ((g : Geometry) (x : ℕ) (ss : List Store) → p ≡ carry g x ss → (limit : ℕ) → Ready G (saved_in memory) commits (survived (after g limit ss t)))
      → (limit : ℕ) → Ready G (saved_in memory) commits (survived (table_of p limit t))
  plain (refuse r) f limit = good_ready t memory commits good lost
  plain nothing_left f limit = good_ready t memory commits good lost
  plain (carry g x ss) f limit = f g x ss refl limit

  unchanged : (g : Geometry) (ss : List Store) (limit : ℕ) → ss ≡ [] → Ready G (saved_in memory) commits (survived (after g limit ss t))
  unchanged g ss limit e = rw (e, after_none g limit t) (good_ready t memory commits good lost)

  committing : (p : Plan) → p ≡ commit_of t → (limit : ℕ) → ReadyBy (carries G (commits + 1) (survived (table_of p limit t))) (survived (table_of p limit t))
  committing (refuse r) e limit = rw none_carries (good_ready t memory commits good lost)
  committing nothing_left e limit = rw none_carries (good_ready t memory commits good lost)
  committing (carry g x ss) e limit = commit_ready t G (value_of memory) (saved_in memory) commits good.serves (sym e) limit lost

  pub cut_ready :
      (call : Call) (scratch limit : ℕ) → can_be_cut call ≡ true
      → ReadyBy (is_commit call && carries G (commits + 1) (survived (table_of (plan_of t scratch call) limit t))) (survived (table_of (plan_of t scratch call) limit t))
  unfolding plan_of
  cut_ready (Format n m f) scratch limit h = absurd (no_both h refl)
  cut_ready Check scratch limit h = plain (check_of t) (λ g x ss e l. unchanged g ss l (check_nothing t e)) limit
  cut_ready (Stretch n) scratch limit h = plain (stretch_of t n) (λ g x ss e l. unchanged g ss l (stretch_nothing t n e)) limit
  cut_ready (Read n b) scratch limit h = plain (read_of t n b) (λ g x ss e l. read_ready t G _ _ commits good.serves n b e l lost) limit
  cut_ready (Write n b y) scratch limit h = plain (write_of t n b y) (λ g x ss e l. write_ready t G _ _ commits good.serves n b y e l lost) limit
  cut_ready (Evict n b place) scratch limit h = plain (evict_of t n b place) (λ g x ss e l. evict_ready t G _ _ commits good.serves n b place e l lost) limit
  cut_ready Open scratch limit h = plain (open_of t) (λ g x ss e l. open_ready t G _ _ commits good.serves e l lost) limit
  cut_ready Create scratch limit h = plain (create_of t) (λ g x ss e l. create_ready t G _ _ commits good.serves e l lost) limit
  cut_ready Commit scratch limit h = committing (commit_of t) refl limit
  cut_ready Abandon scratch limit h = plain (abandon_of t) (λ g x ss e l. abandon_ready t G _ _ commits good.serves e l lost) limit
  cut_ready (Recover l) scratch limit h = absurd (no_both h refl)
