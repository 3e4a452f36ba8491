-- The laws of `specs/code/Row.antt`.
use Prim.Native.Nat.{ℕ, ◌+◌, ◌*◌, ◌/◌, ◌<◌}
use mathlib.Core.Path.{◌≡◌, sym, ap, ◌∙◌}
use mathlib.Core.List.{List}
use native.Mathlib.Omega.{arith}
use lib.Dec.{leb, ltb}
use lib.ListN.{get_or}
use borrow.Author.Tests.{ltb-true, ltb-false}
use Rattle.counting.proofs.Laws.Tests.{by_cases}
use Rattle.counting.specs.Counting.{every}
use Rattle.table.specs.declared.geometry.Geometry.{Geometry}
use Rattle.table.specs.Geometry.{entry_words, entry_at, Placed}
use Rattle.table.specs.Words.{current_of}
use Rattle.table.specs.View.{View, view}
use Rattle.table.proofs.Laws.View.{mark_none, entry_read}
use Rattle.entries.specs.Frames.{sets_of, set_frames, used, frames_fit}
use Rattle.entries.specs.code.Row.{top_of, row_state}

pub quarter : (w : ℕ) → current_of w ≡ top_of w / 4
quarter w = omega arith

pub row_read : (t : List ℕ) (start b : ℕ) {at w : ℕ} → at ≡ start + entry_words * b → w ≡ get_or t at 0 → w ≡ row_state t start b
unfolding row_state
row_read t start b a e = e ∙ ap (λ i. get_or t i 0) a

-- a node with a mark is there
pub mark_there : (g : Geometry) (t : List ℕ) (n : ℕ) {mark : ℕ} → mark ≡ (view g t).mark n → (mark ≡ 0 → ⊥) → n < g.nodes
mark_there g t n e d = by_cases (ltb n g.nodes) (λ h. ltb-true _ _ h) (λ h. absurd (d (e ∙ sym (mark_none g t n (ltb-false _ _ h)))))

module _ (g : Geometry) (t : List ℕ) (n : ℕ) (h : n < g.nodes) {start : ℕ} (a : Placed g n 0 start) where
  pub row_state_lem : (b : ℕ) → b < g.items → row_state t start b ≡ ((view g t).entry n b).state
  unfolding row_state
  row_state_lem b k =
      let e : start + entry_words * b ≡ entry_at g n b = omega (arith, a.at) in
      ap (λ i. get_or t i 0) e ∙ sym (ap (λ x. x.state) (entry_read g t n b h k))

-- a node whose frames are one set
module _ (g : Geometry) (v : View) (n : ℕ) where
  pub one_set : sets_of g ≡ 1 → frames_fit g v n ≡ leb (used g v n 0) (set_frames g)
  unfolding frames_fit every
  one_set h = ap (λ k. every (λ s. leb (used g v n s) (set_frames g)) k) h
