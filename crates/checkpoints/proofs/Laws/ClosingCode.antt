-- Laws of `specs/code/Checkpoint.antt`: live marks agree, so one word is stored on each of them.
use Rattle.std.specs.Prelude.{Ok}
use Prim.Native.Nat.{ℕ, ◌+◌, ◌*◌, ◌/◌, ◌%◌, ◌^◌, ◌≤◌, ◌<◌}
use mathlib.Core.Path.{◌≡◌, sym, ap, ap₂, ◌∙◌}
use mathlib.Core.Bool.{not, cond}
use mathlib.Core.List.{List, [], ◌∷◌, map}
use native.Mathlib.Omega.{arith}
use native.Mathlib.Nat.{mod-mod}
use lib.Dec.{eqb}
use lib.ListN.{length}
use Rattle.counting.specs.Counting.{first}
use Rattle.counting.proofs.Laws.First.{first_passes, first_below}
use Rattle.table.specs.declared.geometry.Geometry.{Geometry}
use Rattle.table.specs.Geometry.{words_of}
use Rattle.table.specs.Words.{number_of, mark_word}
use Rattle.table.specs.declared.stores.Stores.{Stores}
use Rattle.table.specs.Stores.{Change, mark_store, entry_store, Stored}
use Rattle.table.specs.Made.{Made, shown}
use Rattle.table.proofs.Laws.Stores.{runs_ext, stored_then, stored_as}
use Rattle.table.specs.View.{Entry, View, view, live, mark_to, marks_to}
use Rattle.table.proofs.Laws.Pass.{grid_within, grid_once}
use Rattle.table.proofs.Laws.PassLeaves.{pass_marks}
use Rattle.table.proofs.Laws.MarksPass.{marks_as, marks_leave, marks_live}
use Rattle.entries.specs.Check.{fault_of}
use Rattle.entries.proofs.Laws.CheckFacts.{accepted_facts}
use Rattle.entries.proofs.Laws.SoundFacts.{sound_mark}
use Rattle.checkpoints.specs.Checkpoint.{common_mark, live_changes, entries_before, entries_to, commit_change, abandon_change}
use Rattle.checkpoints.specs.Open.{creating_mark, open_stores}
use Rattle.checkpoints.specs.Commit.{committing_mark, committed_mark, commit_stores, running_mark, abandon_stores}
use Rattle.checkpoints.specs.code.Checkpoint.{Agreed, MarksStored}

-- ---- live marks agree

pub passed_agreed : (t : List ℕ) (g : Geometry) → fault_of t ≡ Ok g → Agreed g t
unfolding common_mark
passed_agreed t g e =
    let a = accepted_facts t g e in
    let v = view g t in
    record {
      long = a.shape.long;
      same = λ n l h.
          let m = first (live v) g.nodes in
          let le : m < g.nodes = first_below (live v) g.nodes n l h in
          sound_mark g v _ _ a.table n l h ∙ sym (sound_mark g v _ _ a.table m le (first_passes (live v) g.nodes le));
    }

-- ---- the marks that are stored: one word

-- the number that follows
pub next_number : (phase number next : ℕ) → next ≡ (number + 1) % 2 ^ 32 → mark_word phase next ≡ mark_word phase (number + 1)
next_number phase number next e = ap (λ x. 2 ^ 63 + phase % 4 * 2 ^ 61 + x * 2 ^ 29) (ap (λ x. x % 2 ^ 32) e ∙ mod-mod (number + 1) (2 ^ 32))

-- the word that the code makes of the common mark
module _ (phase : ℕ) {word number mark m : ℕ} (h : number ≡ number_of mark) (k : mark ≡ m) where
  pub word_same : word ≡ mark_word phase number → word ≡ mark_word phase (number_of m)
  word_same e = e ∙ ap (λ x. mark_word phase x) (h ∙ ap (λ x. number_of x) k)

  pub word_next : {next : ℕ} → word ≡ mark_word phase next → next ≡ (number + 1) % 2 ^ 32 → word ≡ mark_word phase (number_of m + 1)
  word_next {next} e n = e ∙ next_number phase number next n ∙ ap (λ x. mark_word phase (x + 1)) (h ∙ ap (λ x. number_of x) k)

module _ (g : Geometry) (t : List ℕ) (a : Agreed g t) (f : ℕ → ℕ) {word : ℕ} (h : word ≡ f (common_mark g (view g t))) where
  pub marks_one : marks_to g (view g t) f ≡ marks_to g (view g t) (λ w. word)
  marks_one = marks_as g (view g t) f (λ w. word) (λ n l q. ap f (a.same n l q) ∙ sym h)

-- ---- what one stage leaves for the next: the same live nodes, and the same entries

module _ (g : Geometry) (v w : View) (same : (n : ℕ) → live w n ≡ live v n) where
  marks_found : (word : ℕ) → marks_to g w (λ x. word) ≡ marks_to g v (λ x. word)
  unfolding marks_to mark_to
  marks_found word = runs_ext g.nodes (mark_to w (λ x. word)) (mark_to v (λ x. word)) (λ n l. ap (λ b. cond b (mark_store n word ∷ []) []) (same n))

  entries_found : w.entry ≡ v.entry → (change : Entry → List Change) → entries_to g w change ≡ entries_to g v change
  unfolding entries_before live_changes
  entries_found e change = runs_ext (g.nodes * g.items) _ _
      (λ k l. ap₂ (λ b x. map (entry_store (k / g.items) (k % g.items)) (cond b (change x) [])) (same (k / g.items))
      (ap (λ f. f (k / g.items) (k % g.items)) e))

mark_new : (phase number word : ℕ) → word ≡ mark_word phase number → word ≡ 0 → ⊥
mark_new phase number word e z = omega arith

module _ (g : Geometry) {left left₁ : ℕ} {t t₁ : List ℕ} (long : words_of g ≤ length t) where
  -- marks stored
  module _ {word : ℕ} (new : word ≡ 0 → ⊥) (s : Stored g left (marks_to g (view g t) (λ w. word)) t t₁ left₁) where
    live_left : (n : ℕ) → live (view g t₁) n ≡ live (view g t) n
    unfolding marks_to
    live_left = marks_live g (view g t) (λ w. word) (λ _. new) (view g t₁) (marks_leave g (λ w. word) g.nodes (omega arith) long s).mixed

    entries_left : (view g t₁).entry ≡ (view g t).entry
    unfolding marks_to
    entries_left = (marks_leave g (λ w. word) g.nodes (omega arith) long s).entries

  -- entries stored
  live_after : (change : Entry → List Change) → Stored g left (entries_to g (view g t) change) t t₁ left₁ → (n : ℕ) → live (view g t₁) n ≡ live (view g t) n
  unfolding entries_before
  live_after change s n = ap (λ f. not (eqb (f n) 0))
      (pass_marks g (λ k. k / g.items) (λ k. k % g.items) (g.nodes * g.items) (grid_within g) (λ d e _ _. grid_once g.items d e)
      (λ k. live_changes change (view g t) (k / g.items) (k % g.items)) long s)

-- ---- one stage, made of the lent table

pub marks_made :
    {s s' : Stores} {word : ℕ} → MarksStored s word s.g.nodes s' → words_of s.g ≤ length s.table.now
    → Made s (marks_to s.g (shown s) (λ w. word)) s'
unfolding marks_to
marks_made m long =
    record {
      same_reference = m.same_reference;
      same_geometry = m.same_geometry;
      stored = m.stored long;
    }

-- ---- the stages together

module _ (g : Geometry) {left left₁ : ℕ} {t t₁ : List ℕ} (a : Agreed g t) where
  pub open_then :
      {word : ℕ} → word ≡ creating_mark (common_mark g (view g t))
      → Stored g left (marks_to g (view g t) (λ w. word)) t t₁ left₁ → Stored g left (open_stores g (view g t)) t t₁ left₁
  open_then h s = stored_as (marks_one g t a creating_mark h) s

  module _ {left₂ : ℕ} {t₂ : List ℕ} where
    pub abandon_then :
        {word : ℕ} → word ≡ running_mark (common_mark g (view g t)) → Stored g left (entries_to g (view g t) abandon_change) t t₁ left₁
        → Stored g left₁ (marks_to g (view g t₁) (λ w. word)) t₁ t₂ left₂
        → Stored g left (abandon_stores g (view g t)) t t₂ left₂
    unfolding abandon_stores
    abandon_then {word} h first second =
        let m₁ = marks_found g (view g t) (view g t₁) (live_after g a.long abandon_change first) word in
        stored_then first (stored_as (marks_one g t a running_mark h ∙ sym m₁) second)

    pub commit_then :
        {left₃ word closing : ℕ} {t₃ : List ℕ} → word ≡ committing_mark (common_mark g (view g t)) → closing ≡ committed_mark (common_mark g (view g t))
        → Stored g left (marks_to g (view g t) (λ w. word)) t t₁ left₁
        → Stored g left₁ (entries_to g (view g t₁) commit_change) t₁ t₂ left₂
        → Stored g left₂ (marks_to g (view g t₂) (λ w. closing)) t₂ t₃ left₃
        → Stored g left (commit_stores g (view g t)) t t₃ left₃
    unfolding commit_stores
    commit_then {word = word} {closing} h k first second third =
        let new = mark_new 2 _ word h in
        let l₁ = live_left g a.long new first in
        let e₁ = entries_left g a.long new first in
        let long₁ : words_of g ≤ length t₁ = omega (arith, a.long, first.size) in
        let second' = stored_as (sym (entries_found g (view g t) (view g t₁) l₁ e₁ commit_change)) second in
        let l₂ : (n : ℕ) → live (view g t₂) n ≡ live (view g t) n = λ n. live_after g long₁ commit_change second n ∙ l₁ n in
        let m₂ = marks_found g (view g t) (view g t₂) l₂ closing in
        let third' = stored_as (marks_one g t a committed_mark k ∙ sym m₂) third in
        stored_then (stored_then (stored_as (marks_one g t a committing_mark h) first) second') third'
