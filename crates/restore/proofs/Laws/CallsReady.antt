-- However a Read, Write, Evict, Open, Create or Abandon is cut, and whichever node is lost then, the survivors are ready for the point last saved.
use Rattle.std.specs.Prelude.{Option}
use Prim.Native.Nat.{ℕ, ◌^◌, ◌<◌}
use mathlib.Core.Path.{◌≡◌}
use mathlib.Core.Bool.{true}
use mathlib.Core.List.{List}
use native.Mathlib.Omega.{arith}
use Rattle.counting.proofs.Laws.Tests.{by_cases}
use Rattle.table.specs.declared.geometry.Geometry.{Geometry}
use Rattle.table.specs.Words.{mark_form, phase_of, number_of, mark_word}
use Rattle.table.proofs.Laws.Words.{phase_mark, number_mark}
use Rattle.table.proofs.Laws.Forms.{mark_form_lem}
use Rattle.table.specs.Stores.{Store, after}
use Rattle.table.specs.View.{view}
use Rattle.table.specs.Answers.{carry}
use Rattle.homes.specs.declared.places.Place.{Place}
use Rattle.calls.specs.Read.{read_of}
use Rattle.calls.specs.Write.{write_of}
use Rattle.homes.specs.Evict.{dropped, evict_of}
use Rattle.checkpoints.specs.Open.{creating_mark, open_of}
use Rattle.checkpoints.specs.Create.{create_of}
use Rattle.checkpoints.specs.Commit.{running_mark, abandon_of}
use Rattle.homes.specs.Home.{home_of}
use Rattle.homes.proofs.Laws.Serves.{Serves, same_geometry}
use Rattle.calls.proofs.Laws.ReadTheorem.{carried as read-carried, read_keeps}
use Rattle.calls.proofs.Laws.WriteTheorem.{carried as write-carried, write_keeps}
use Rattle.homes.proofs.Laws.EvictTheorem.{carried as evict-carried, admits, from, evict_drops_keeps, evict_home, evict_moves_keeps}
use Rattle.checkpoints.proofs.Laws.OpenTheorem.{carried as open_carried, open_keeps}
use Rattle.checkpoints.proofs.Laws.CreateTheorem.{passed as create-passed, create_keeps}
use Rattle.checkpoints.proofs.Laws.AbandonTheorem.{carried as abandon-carried, abandon_keeps}
use Rattle.survivors.specs.Survivors.{survivors}
use Rattle.recovery.proofs.Laws.Ready.{Ready}
use Rattle.restore.proofs.Laws.KeptReady.{kept_ready, marks_ready}
use Rattle.restore.proofs.Laws.MovingReady.{moving_ready}

-- ---- marks that keep the number, in phase 0 or 1

number_low : (x : ℕ) → number_of x < 2 ^ 32
number_low x = omega arith

-- of a phase p
module _ (p : ℕ) (low : p < 2) (x : ℕ) where
  same_form : mark_form (mark_word p (number_of x)) ≡ true
  same_form = mark_form_lem p (number_of x) (omega arith) (number_low x)

  same_alive : mark_word p (number_of x) ≡ 0 → ⊥
  same_alive z = omega arith

  same_phase : phase_of (mark_word p (number_of x)) < 2
  same_phase = let e = phase_mark p (number_of x) (omega arith) (number_low x) in omega arith

  same_number : number_of (mark_word p (number_of x)) ≡ number_of x
  same_number = number_mark p (number_of x) (omega arith) (number_low x)

-- ---- call by call

module _ (t : List ℕ) (g : Geometry) (values saved : ℕ → ℕ) (number : ℕ) (s : Serves t g values saved number) where
  pub read_ready :
      (n b : ℕ) {g' : Geometry} {x : ℕ} {ss : List Store} → read_of t n b ≡ carry g' x ss → (limit : ℕ) (lost : Option ℕ)
      → Ready g saved number (survivors lost (view g (after g' limit ss t)))
  read_ready n b accepted limit lost =
      let e = same_geometry t s.passed (read-carried t n b accepted).passed in
      rw e (kept_ready t g values saved number s _ (read_keeps t n b (rw e at accepted) limit) lost)

  pub write_ready :
      (n b y : ℕ) {g' : Geometry} {x : ℕ} {ss : List Store} → write_of t n b y ≡ carry g' x ss → (limit : ℕ) (lost : Option ℕ)
      → Ready g saved number (survivors lost (view g (after g' limit ss t)))
  write_ready n b y accepted limit lost =
      let e = same_geometry t s.passed (write-carried t n b y accepted).passed in
      rw e (kept_ready t g values saved number s _ (write_keeps t n b y (rw e at accepted) limit) lost)

  pub create_ready :
      {g' : Geometry} {x : ℕ} {ss : List Store} → create_of t ≡ carry g' x ss → (limit : ℕ) (lost : Option ℕ)
      → Ready g saved number (survivors lost (view g (after g' limit ss t)))
  create_ready accepted limit lost =
      let e = same_geometry t s.passed (create-passed t accepted) in
      rw e (kept_ready t g values saved number s _ (create_keeps t (rw e at accepted) limit) lost)

  pub open_ready :
      {g' : Geometry} {x : ℕ} {ss : List Store} → open_of t ≡ carry g' x ss → (limit : ℕ) (lost : Option ℕ)
      → Ready g saved number (survivors lost (view g (after g' limit ss t)))
  open_ready accepted limit lost =
      let e = same_geometry t s.passed (open_carried t accepted).passed in
      rw e (marks_ready t g values saved number s creating_mark
      (same_form 1 (omega arith)) (same_alive 1 (omega arith)) (same_phase 1 (omega arith)) (same_number 1 (omega arith)) _
      (open_keeps t (rw e at accepted) limit) lost)

  pub abandon_ready :
      {g' : Geometry} {x : ℕ} {ss : List Store} → abandon_of t ≡ carry g' x ss → (limit : ℕ) (lost : Option ℕ)
      → Ready g saved number (survivors lost (view g (after g' limit ss t)))
  abandon_ready accepted limit lost =
      let e = same_geometry t s.passed (abandon-carried t accepted).passed in
      rw e (marks_ready t g values saved number s running_mark
      (same_form 0 (omega arith)) (same_alive 0 (omega arith)) (same_phase 0 (omega arith)) (same_number 0 (omega arith)) _
      (abandon_keeps t (rw e at accepted) limit) lost)

  module _ (n b : ℕ) (place : Place) where
    evict_here :
        {x : ℕ} {ss : List Store} → evict_of t n b place ≡ carry g x ss → (limit : ℕ) (lost : Option ℕ)
        → Ready g saved number (survivors lost (view g (after g limit ss t)))
    evict_here accepted limit lost = by_cases (dropped place ((view g t).entry n b))
        (λ d. kept_ready t g values saved number s _ (evict_drops_keeps t n b place accepted d limit) lost)
        (λ d.
        let home = evict_home t n b place accepted d in
        moving_ready t g values saved number s n (home_of g (view g t) place n b) b (from t n b place accepted)
        home.node (admits t n b place accepted).item _
        (evict_moves_keeps t n b place accepted d limit) lost)

    pub evict_ready :
        {g' : Geometry} {x : ℕ} {ss : List Store} → evict_of t n b place ≡ carry g' x ss → (limit : ℕ) (lost : Option ℕ)
        → Ready g saved number (survivors lost (view g (after g' limit ss t)))
    evict_ready accepted limit lost =
        let e = same_geometry t s.passed (evict-carried t n b place accepted).passed in
        rw e (evict_here (rw e at accepted) limit lost)
