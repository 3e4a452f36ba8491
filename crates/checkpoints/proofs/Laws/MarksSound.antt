-- A call that stores marks keeps the table sound: what must be shown is the phase and the number of the new marks, and the kind of each item.
use Rattle.homes.specs.Admission.{Admission}
use Rattle.std.specs.Prelude.{Err, Ok}
use Prim.Native.Nat.{ℕ, ◌-◌, ◌*◌, ◌/◌, ◌%◌, ◌^◌, ◌<◌, ◌≤◌}
use mathlib.Core.Path.{◌≡◌, refl, sym, ap, ◌∙◌}
use mathlib.Core.Bool.{Bool, true, false, cond}
use mathlib.Core.List.{List, [], ◌∷◌}
use native.Mathlib.Omega.{arith}
use native.Mathlib.Decide.{dec_lt}
use lib.Dec.{eqb}
use borrow.Author.Tests.{eqb-true, eqb-false}
use Rattle.counting.proofs.Laws.Tests.{by_cases, both, no_both}
use Rattle.counting.specs.Counting.{first}
use Rattle.counting.proofs.Laws.First.{first_passes, first_least}
use Rattle.table.specs.declared.geometry.Geometry.{Geometry}
use Rattle.table.specs.declared.answers.Refusal.TheVariants.{CheckpointOpen, LastNumber, NoCheckpoint}
use Rattle.table.specs.Words.{mark_form, mark_word, phase_of, number_of, state_form}
use Rattle.table.proofs.Laws.Words.{phase_mark, number_mark}
use Rattle.table.proofs.Laws.Forms.{mark_form_lem}
use Rattle.table.specs.Stores.{Change, mark_store}
use Rattle.table.proofs.Laws.Stores.{All, none, more, all_runs}
use Rattle.table.specs.View.{Entry, View, live, mark_to, marks_to}
use Rattle.entries.specs.Frames.{sets_of, set_frames, used}
use Rattle.entries.proofs.Laws.Kinds.{Kind}
use Rattle.entries.proofs.Laws.SoundFacts.{SoundTable}
use Rattle.entries.proofs.Laws.CheckFacts.{sound_pair}
use Rattle.checkpoints.specs.Checkpoint.{common_mark, is_open, open_admission, live_changes, entries_before, entries_to}
use Rattle.checkpoints.specs.Open.{start_admission}
use Rattle.checkpoints.specs.Commit.{created_admission, commit_admission}
use Rattle.homes.proofs.Laws.Admission.{passed, asked}
use Rattle.homes.proofs.Laws.Kept.{Live, test_live}
use Rattle.checkpoints.proofs.Laws.CommitKept.{live_by, marked}
use Rattle.homes.proofs.Laws.SoundKept.{Off, pass_off}

-- ---- no mark and no entry is at word 0

one_off : (g : Geometry) (n word : ℕ) → Off g (mark_store n word)
one_off g n word e = omega arith

pub marks_off : (g : Geometry) (v : View) (f : ℕ → ℕ) → All (Off g) (marks_to g v f)
unfolding marks_to mark_to
marks_off g v f = all_runs _ g.nodes (λ n l. go n (live v n))
  where
    go : (n : ℕ) (b : Bool) → All (Off g) (cond b (mark_store n (f (v.mark n)) ∷ []) [])
    go n true = more (one_off g n (f (v.mark n))) none
    go n false = none

pub entries_off : (g : Geometry) (v : View) (change : Entry → List Change) → All (Off g) (entries_to g v change)
unfolding entries_before
entries_off g v change =
    pass_off g (λ k. k / g.items) (λ k. k % g.items) (λ k. live_changes change v (k / g.items) (k % g.items)) (g.nodes * g.items)

-- ---- the common mark of a sound table

module _ (g : Geometry) (v : View) (phase number : ℕ) (good : SoundTable g v phase number) (some : 0 < g.items) where
  abbrev lowest : ℕ
  lowest = first (live v) g.nodes

  -- a node that holds a recovery copy is live
  lowest_there : lowest < g.nodes
  lowest_there =
      let p = sound_pair g v phase number good 0 some in
      elim (dec_lt lowest g.nodes) [
        | yes q ↦ q
        | no q ↦ absurd (no_both (both (live v p.one) p.first.holds).0
            (first_least (live v) g.nodes p.one (omega (arith, p.first.within))))
      ]

  pub common_phase : phase_of (common_mark g v) ≡ phase
  unfolding common_mark
  common_phase = good.phases lowest lowest_there (first_passes (live v) g.nodes lowest_there)

  pub common_number : number_of (common_mark g v) ≡ number
  unfolding common_mark
  common_number = good.numbers lowest lowest_there (first_passes (live v) g.nodes lowest_there)

  pub number_fits : number < 2 ^ 32
  number_fits = let e = common_number in omega arith

  -- "7", "13"
  pub started : start_admission g v ≡ (Ok tt) → (phase ≡ 0) × (number < 2 ^ 32 - 1)
  unfolding start_admission is_open
  started h =
      let (p, h₁) = passed (eqb (phase_of (common_mark g v)) 1) CheckpointOpen _ h in
      let (q, _) = passed (eqb (number_of (common_mark g v)) (2 ^ 32 - 1)) LastNumber _ h₁ in
      let a = eqb-false (phase_of (common_mark g v)) 1 p in
      let c = eqb-false (number_of (common_mark g v)) (2 ^ 32 - 1) q in
      (omega (arith, good.phase_low, low common_phase a), below· common_number c number_fits)
    where
      low : {a : ℕ} → a ≡ phase → (a ≡ 1 → ⊥) → phase ≡ 1 → ⊥
      low e d z = d (e ∙ z)

      below· : {a : ℕ} → a ≡ number → (a ≡ 2 ^ 32 - 1 → ⊥) → number < 2 ^ 32 → number < 2 ^ 32 - 1
      below· e d l = omega arith

  -- "8"
  pub opened : open_admission g v ≡ (Ok tt) → phase ≡ 1
  unfolding open_admission is_open
  opened h = sym common_phase ∙ eqb-true (phase_of (common_mark g v)) 1 (asked (eqb (phase_of (common_mark g v)) 1) NoCheckpoint h)

  pub commit_opened : commit_admission g v ≡ (Ok tt) → phase ≡ 1
  unfolding created_admission
  commit_opened h = opened (go (open_admission g v) h)
    where
      go : (a : Admission) → created_admission g v a ≡ (Ok tt) → a ≡ (Ok tt)
      go (Err x) e = let z : ◌≡◌ {A = ℕ} 0 1 = cc in absurd (omega arith)
      go (Ok _) e = refl

-- ---- the table

-- v at entry, w at the end: each live mark is the one word
pub record NewMarks (g : Geometry) (v w : View) (phase number : ℕ) : Type 0 where
  pub lives : (n : ℕ) → Live g v n → w.mark n ≡ mark_word phase number
  pub deads : (n : ℕ) → live v n ≡ false → w.mark n ≡ v.mark n

module _ (g : Geometry) (v w : View) (phase number : ℕ) (m : NewMarks g v w phase number) where
  pub new_live : (n : ℕ) → n < g.nodes → live w n ≡ live v n
  new_live = live_by g v w (λ n l. marked w n _ (m.lives n l) (λ z. omega arith)) m.deads

  pub was_live : (n : ℕ) → n < g.nodes → live w n ≡ true → Live g v n
  was_live n l t = test_live g v n l (sym (new_live n l) ∙ t)

  pub marks_sound :
      (old oldNumber : ℕ) → SoundTable g v old oldNumber → phase < 2 → number < 2 ^ 32 → (phase ≡ 1 → number < 2 ^ 32 - 1)
      → ((n b : ℕ) → Live g v n → b < g.items → state_form (w.entry n b).state ≡ true)
      → ((n s : ℕ) → Live g v n → s < sets_of g → used g w n s ≤ set_frames g)
      → ((b : ℕ) → b < g.items → Kind phase w g.nodes b) → SoundTable g w phase number
  marks_sound old oldNumber good low fits room forms frames items = record {
    marks = λ n l. by_cases (live v n)
        (λ t. ap mark_form (m.lives n (test_live g v n l t)) ∙ mark_form_lem phase number (omega arith) fits)
        (λ t. ap mark_form (m.deads n t) ∙ good.marks n l);
    phases = λ n l t. ap phase_of (m.lives n (was_live n l t)) ∙ phase_mark phase number (omega arith) fits;
    numbers = λ n l t. ap number_of (m.lives n (was_live n l t)) ∙ number_mark phase number (omega arith) fits;
    phase_low = low;
    number_room = room;
    forms = λ n b l h t. forms n b (was_live n l t) h;
    frames = λ n s l h t. frames n s (was_live n l t) h;
    items = items;
  }
