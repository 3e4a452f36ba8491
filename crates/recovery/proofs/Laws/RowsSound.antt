-- Laws of `specs/code/Rows.antt`: the word forms and the frames of a survivor.
use Rattle.std.specs.Prelude.{Option}
use Prim.Native.Nat.{ℕ, ◌+◌, ◌≤◌, ◌<◌}
use mathlib.Core.Path.{◌≡◌, refl, sym, ap, ap₂, ◌∙◌}
use mathlib.Core.Bool.{Bool, true, ◌&&◌, and-true}
use mathlib.Core.List.{List}
use native.Mathlib.Omega.{arith}
use lib.Dec.{leb}
use lib.ListN.{get_or}
use Rattle.counting.specs.Counting.{every}
use Rattle.counting.proofs.Laws.Counting.{every_none, every_next, sum_none, sum_next, sum_ext}
use Rattle.table.specs.declared.geometry.Geometry.{Geometry}
use Rattle.table.specs.Words.{state_form}
use Rattle.table.specs.View.{View}
use Rattle.entries.specs.Frames.{set_frames, frames_in, used, frames_fit}
use Rattle.entries.proofs.Laws.Frames.{frames_here}
use Rattle.entries.specs.Sound.{states_form, node_sound}
use Rattle.survivors.specs.Survivors.{survivors}
use Rattle.survivors.proofs.Laws.SurvivorsCode.{survivor_live}
use Rattle.recovery.specs.code.Rows.{state_in, Listed, reached, RowTo}
use Rattle.recovery.proofs.Laws.Rows.{reached_start, reached_next, listed_turn, listed_end}

-- ---- the pass

pub row_start : (v : View) (n : ℕ) (l : List ℕ) → RowTo v n (reached l 0) true 0
row_start v n l = rw (reached_start l) (record { formed = every_none _; in_use = sum_none _; few = omega arith })

module _ (v : View) (n : ℕ) {forms : Bool} {frames : ℕ} where
  row_next :
      (j : ℕ) → RowTo v n j forms frames → {state x : ℕ} {form : Bool} → state ≡ state_in v n j → form ≡ state_form state → x ≡ frames_in state → x ≤ 2
      → RowTo v n (j + 1) (forms && form) (frames + x)
  row_next j r e f h s = record {
    formed = every_next _ j r.formed (f ∙ ap state_form e);
    in_use = sum_next _ j r.in_use (h ∙ ap frames_in e);
    few = omega (arith, r.few);
  }

  row_blank : (j : ℕ) → state_in v n j ≡ 0 → RowTo v n j forms frames → RowTo v n (j + 1) forms frames
  unfolding frames_in
  row_blank j e r = record {
    formed = sym (and-true forms) ∙ every_next _ j r.formed (rw e refl);
    in_use = (let z : frames ≡ frames + 0 = omega arith in z) ∙ sum_next _ j r.in_use (rw e refl);
    few = omega (arith, r.few);
  }

  module _ {m : ℕ} {l : List ℕ} {count : ℕ} (o : Listed (state_in v n) m l count) (k : ℕ) (r : RowTo v n (reached l k) forms frames) where
    pub row_turn :
        k < count → {state x : ℕ} {form : Bool} → state ≡ state_in v n (get_or l k 0) → form ≡ state_form state → x ≡ frames_in state → x ≤ 2
        → RowTo v n (reached l (k + 1)) (forms && form) (frames + x)
    row_turn q e f h s =
        rw (reached_next l k) (row_next (get_or l k 0) (listed_turn (λ i. RowTo v n i forms frames) (state_in v n) row_blank o k q r) e f h s)

    pub row_all : k ≤ count → count ≤ k → RowTo v n m forms frames
    row_all p q = listed_end (λ i. RowTo v n i forms frames) (state_in v n) row_blank o k p q r

pub row_used : (g : Geometry) (v : View) (n : ℕ) {forms : Bool} {frames : ℕ} → RowTo v n g.items forms frames → frames ≡ used g v n 0
unfolding used
row_used g v n r = r.in_use ∙ sum_ext g.items _ _ (λ b _. frames_here g v n 0 b refl refl refl)

-- ---- a survivor

pub row_sound :
    (g : Geometry) (lost : Option ℕ) (v : View) (n : ℕ) {mark : ℕ} → mark ≡ (survivors lost v).mark n → (mark ≡ 0 → ⊥)
    → {forms : Bool} {frames f : ℕ} → RowTo v n g.items forms frames → f ≡ set_frames g → (forms && leb frames f) ≡ node_sound g (survivors lost v) n
unfolding states_form frames_fit every
row_sound g lost v n h d r e = survivor_live g lost v n h d (r.formed ∙ forms_in) (ap₂ leb (row_used g v n r) e ∙ one_set)
  where
    forms_in : every (λ b. state_form (state_in v n b)) g.items ≡ states_form g v n
    forms_in = refl

    one_set : leb (used g v n 0) (set_frames g) ≡ frames_fit g v n
    one_set = refl
