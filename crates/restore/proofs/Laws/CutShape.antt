-- However a call but Format is cut, word 0 and the table's length are as they were.
use Prim.Native.Nat.{ℕ}
use mathlib.Core.Path.{◌≡◌, refl}
use mathlib.Core.Bool.{true}
use mathlib.Core.List.{List, []}
use Rattle.counting.proofs.Laws.Tests.{no_both}
use Rattle.table.specs.declared.geometry.Geometry.{Geometry}
use Rattle.table.specs.Stores.{Store}
use Rattle.table.proofs.Laws.Stores.{All, after_none}
use Rattle.table.specs.View.{view}
use Rattle.table.specs.Answers.{Plan, refuse, nothing_left, carry, table_of}
use Rattle.entries.proofs.Laws.CheckFacts.{Shape, accepted_facts}
use Rattle.layout.specs.Stretch.{check_of, stretch_of}
use Rattle.homes.proofs.Laws.SoundKept.{Off, shape_after}
use Rattle.checkpoints.proofs.Laws.MarksSound.{marks_off}
use Rattle.homes.proofs.Laws.Serves.{same_geometry}
use Rattle.calls.specs.Read.{read_of}
use Rattle.calls.proofs.Laws.ReadTheorem.{carried as read-carried}
use Rattle.calls.proofs.Laws.ReadSound.{read_off}
use Rattle.calls.specs.Write.{write_of}
use Rattle.calls.proofs.Laws.WriteTheorem.{carried as write-carried}
use Rattle.calls.proofs.Laws.WriteSound.{write_off}
use Rattle.homes.specs.Evict.{evict_of}
use Rattle.homes.proofs.Laws.EvictTheorem.{carried as evict-carried}
use Rattle.homes.proofs.Laws.EvictOff.{evict_off}
use Rattle.checkpoints.specs.Open.{creating_mark, open_of}
use Rattle.checkpoints.proofs.Laws.OpenTheorem.{carried as open_carried}
use Rattle.checkpoints.specs.Create.{create_of}
use Rattle.checkpoints.proofs.Laws.CreateTheorem.{passed as create-passed, stores_are as create-stores}
use Rattle.checkpoints.proofs.Laws.CreateSound.{create_off}
use Rattle.checkpoints.specs.Commit.{commit_of, abandon_of}
use Rattle.checkpoints.proofs.Laws.CommitTheorem.{carried as commit_carried}
use Rattle.checkpoints.proofs.Laws.CommitOff.{commit_off}
use Rattle.checkpoints.proofs.Laws.AbandonTheorem.{carried as abandon-carried}
use Rattle.checkpoints.proofs.Laws.AbandonSound.{abandon_off}
use Rattle.restore.specs.declared.call.Call.{Call}
use Rattle.restore.specs.declared.call.Call.TheVariants.{Format, Check, Stretch, Read, Write, Evict, Open, Create, Commit, Abandon, Recover}
use Rattle.restore.specs.Call.{plan_of}
use Rattle.restore.specs.Memory.{Memory}
use Rattle.restore.specs.Run.{geometry_in}
use Rattle.restore.specs.Strike.{can_be_cut}
use Rattle.restore.proofs.Laws.Good.{Good}
use Rattle.restore.proofs.Laws.GoodCall.{check_nothing, stretch_nothing}

module _ (t : List ℕ) (memory : Memory) (commits : ℕ) (good : Good t memory commits) where
  abbrev G : Geometry
  G = geometry_in t

  pub good_shape : Shape t G
  good_shape = (accepted_facts t G good.serves.passed).shape

  by_plan :
      (p : Plan) → ((g : Geometry) (x : ℕ) (ss : List Store) → p ≡ carry g x ss → (g ≡ G) × All (Off g) ss) → (limit : ℕ) → Shape (table_of p limit t) G
  by_plan (refuse r) f limit = good_shape
  by_plan nothing_left f limit = good_shape
  by_plan (carry g x ss) f limit = let (e, a) = f g x ss refl in rw e (shape_after G limit t (rw e at a) good_shape)

  unchanged : (p : Plan) → ((g : Geometry) (x : ℕ) (ss : List Store) → p ≡ carry g x ss → ss ≡ []) → (limit : ℕ) → Shape (table_of p limit t) G
  unchanged (refuse r) f limit = good_shape
  unchanged nothing_left f limit = good_shape
  unchanged (carry g x ss) f limit = rw (f g x ss refl, after_none g limit t) good_shape

  pub cut_shape : (call : Call) (scratch limit : ℕ) → can_be_cut call ≡ true → Shape (table_of (plan_of t scratch call) limit t) G
  unfolding plan_of
  cut_shape (Format n m f) scratch limit h = absurd (no_both h refl)
  cut_shape Check scratch limit h = unchanged (check_of t) (λ g x ss e. check_nothing t e) limit
  cut_shape (Stretch n) scratch limit h = unchanged (stretch_of t n) (λ g x ss e. stretch_nothing t n e) limit
  cut_shape (Read n b) scratch limit h = by_plan (read_of t n b)
      (λ g x ss e. let c = read-carried t n b e in (same_geometry t good.serves.passed c.passed, rw c.stores_are (read_off g (view g t) n b))) limit
  cut_shape (Write n b y) scratch limit h = by_plan (write_of t n b y)
      (λ g x ss e. let c = write-carried t n b y e in (same_geometry t good.serves.passed c.passed, rw c.stores_are (write_off g (view g t) n b y))) limit
  cut_shape (Evict n b place) scratch limit h = by_plan (evict_of t n b place)
      (λ g x ss e. let c = evict-carried t n b place e in
      (same_geometry t good.serves.passed c.passed, rw c.stores_are (evict_off g (view g t) place n b))) limit
  cut_shape Open scratch limit h = by_plan (open_of t)
      (λ g x ss e. let c = open_carried t e in (same_geometry t good.serves.passed c.passed, rw c.stores_are (marks_off g (view g t) creating_mark))) limit
  cut_shape Create scratch limit h = by_plan (create_of t)
      (λ g x ss e. (same_geometry t good.serves.passed (create-passed t e), rw (create-stores t e) (create_off g (view g t) _ _))) limit
  cut_shape Commit scratch limit h = by_plan (commit_of t)
      (λ g x ss e. let c = commit_carried t e in (same_geometry t good.serves.passed c.passed, rw c.stores_are (commit_off g (view g t)))) limit
  cut_shape Abandon scratch limit h = by_plan (abandon_of t)
      (λ g x ss e. let c = abandon-carried t e in (same_geometry t good.serves.passed c.passed, rw c.stores_are (abandon_off g (view g t)))) limit
  cut_shape (Recover l) scratch limit h = absurd (no_both h refl)
