-- Laws of `specs/code/PartnersCode.antt`: the frames in use of each survivor.
use Prim.Native.Nat.{ℕ, ◌+◌, ◌-◌, ◌≤◌, ◌<◌}
use mathlib.Core.Path.{◌≡◌, refl, sym, ap, ◌∙◌}
use mathlib.Core.Bool.{true, cond}
use mathlib.Core.List.{List, [], ◌∷◌, map}
use native.Mathlib.Omega.{arith}
use native.Mathlib.Decide.{ℕ_discrete}
use lib.Dec.{eqb}
use lib.ListN.{length, get_or, set}
use lib.Seq.{get_or-set_same, get_or-set_other}
use borrow.Author.Tests.{ne_eqb}
use Rattle.counting.proofs.Laws.Tests.{by_cases}
use Rattle.counting.proofs.Laws.Counting.{sum_ext, below, sum_change}
use Rattle.table.specs.declared.geometry.Geometry.{Geometry}
use Rattle.table.specs.Words.{kept_of, state_word, invalid, shared_ck}
use Rattle.table.specs.Changes.{checkpoint_of}
use Rattle.table.specs.Stores.{entry_store, value_to, state_to}
use Rattle.table.specs.View.{Entry, View, live, current, put₂, changed, updates}
use Rattle.table.proofs.Laws.Puts.{put₂_same, put₂_other}
use Rattle.entries.specs.Frames.{frame_of, frames_in, frames_at, used}
use Rattle.entries.proofs.Laws.Frames.{frames_state}
use Rattle.recovery.specs.Numbering.{partner_changes}
use Rattle.recovery.specs.code.PartnersCode.{AgreesTo, used_with}

-- ---- the count fills up

module _ (g : Geometry) (w : View) (s : List ℕ) where
  pub agrees_turn :
      (k x : ℕ) → k < length s → (live w k ≡ true → x ≡ used g w k 0) → AgreesTo g w s k → AgreesTo g w (set s k x) (k + 1)
  agrees_turn k x h e a = record {
    at = λ n l. below (λ n. live w n ≡ true → get_or (set s k x) n 0 ≡ used g w n 0) (omega arith)
        (λ l v. get_or-set_other s k n x 0 (λ q. omega arith) ∙ a.at n l v)
        (λ v. get_or-set_same s k x 0 h ∙ e v);
  }

-- ---- a copy of value x and code c comes to node p's entry of item b, which is Invalid

module _ (g : Geometry) (w : View) (p b x c : ℕ) where
  abbrev arrived : View
  arrived = updates (entry_store p b (value_to x) ∷ entry_store p b (state_to c invalid) ∷ []) w

  abbrev valued : Entry
  valued = changed (value_to x) (w.entry p b)

  abbrev stated : Entry
  stated = changed (state_to c invalid) (put₂ w.entry p b valued p b)

  state_here : (arrived.entry p b).state ≡ state_word c invalid
  state_here = ap (λ e. e.state) (put₂_same (put₂ w.entry p b valued) p b stated)

  entry_other : (n d : ℕ) → (n ≡ p → d ≡ b → ⊥) → arrived.entry n d ≡ w.entry n d
  entry_other n d e = put₂_other (put₂ w.entry p b valued) p b stated n d e ∙ put₂_other w.entry p b valued n d e

  frames_other : (n d : ℕ) → (n ≡ p → d ≡ b → ⊥) → frames_at g arrived n 0 d ≡ frames_at g w n 0 d
  unfolding frames_at
  frames_other n d e = ap (λ u. frames_in u.state) (entry_other n d e)

  used_other : (n : ℕ) → (n ≡ p → ⊥) → used g arrived n 0 ≡ used g w n 0
  unfolding used
  used_other n e = sum_ext g.items (frames_at g arrived n 0) (frames_at g w n 0) (λ d _. frames_other n d (λ q _. e q))

  module _ (item : b < g.items) (low : c < 16) (some : c ≡ 0 → ⊥) (free : current (w.entry p b) ≡ invalid) where
    one_more : used g arrived p 0 + frame_of (kept_of (w.entry p b).state) ≡ used g w p 0 + 1
    unfolding used frames_at frames_in
    one_more =
        let r = sum_change g.items (frames_at g w p 0) (frames_at g arrived p 0) b item (λ d e. frames_other p d (λ _ q. e q)) in
        let new : frames_at g arrived p 0 b ≡ 1 = ap frames_in state_here ∙ frames_state c 0 low (omega arith) ∙ ap (λ z. cond z 0 1 + 0) (ne_eqb c 0 some) in
        let old : frames_at g w p 0 b ≡ frame_of (kept_of (w.entry p b).state) =
        ap (λ z. frame_of z + frame_of (kept_of (w.entry p b).state)) free ∙ omega arith in
        omega (arith, r, new, old)

    used_here : used g arrived p 0 ≡ used_with (used g w p 0) (w.entry p b).state
    unfolding used_with
    used_here =
        let m = one_more in
        by_cases (eqb (kept_of (w.entry p b).state) invalid)
        (λ q. let z : frame_of (kept_of (w.entry p b).state) ≡ 0 = rw q refl in rw q (omega arith))
        (λ q. let z : frame_of (kept_of (w.entry p b).state) ≡ 1 = rw q refl in rw q (omega arith))

    arrived_agrees :
        (s : List ℕ) → p < g.nodes → g.nodes ≤ length s → live w p ≡ true → AgreesTo g w s g.nodes
        → AgreesTo g arrived (set s p (used_with (get_or s p 0) (w.entry p b).state)) g.nodes
    arrived_agrees s hp room alive a = record {
      at = λ n l v. elim (ℕ_discrete n p) [
        | yes e ↦ rw e (get_or-set_same s p _ 0 (omega arith) ∙ ap (λ k. used_with k (w.entry p b).state) (a.at p hp alive) ∙ sym used_here)
        | no e ↦ get_or-set_other s p n _ 0 e ∙ a.at n l v ∙ sym (used_other n e)
      ];
    }

-- a partner comes
pub partner_agrees :
    (g : Geometry) (w : View) (p b : ℕ) (e : Entry) (s : List ℕ) → b < g.items → current (w.entry p b) ≡ invalid → p < g.nodes
    → g.nodes ≤ length s → live w p ≡ true → AgreesTo g w s g.nodes
    → AgreesTo g (updates (map (entry_store p b) (partner_changes e)) w) (set s p (used_with (get_or s p 0) (w.entry p b).state)) g.nodes
unfolding partner_changes
partner_agrees g w p b e s item free =
    arrived_agrees g w p b e.value (shared_ck (3 - checkpoint_of (current e))) item (omega arith) (λ z. omega arith) free s
