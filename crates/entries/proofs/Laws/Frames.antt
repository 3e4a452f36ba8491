-- The laws of `specs/Frames.antt`.
use Prim.Native.Nat.{ℕ, ◌+◌, ◌*◌, ◌<◌, ◌≤◌}
use mathlib.Core.Path.{◌≡◌, sym, ap, ap₂, ◌∙◌}
use mathlib.Core.Bool.{Bool, true, false, cond, ◌&&◌, ◌||◌}
use native.Mathlib.Omega.{arith}
use lib.Dec.{eqb, ltb}
use borrow.Author.Tests.{eq-eqb, ne_eqb, ltb-true, lt-ltb, leb-true}
use Rattle.counting.proofs.Laws.Tests.{both, by_cases, other_holds}
use Rattle.counting.proofs.Laws.Crowded.{sum_most, sum_fewer}
use Rattle.table.specs.declared.geometry.Geometry.{Geometry}
use Rattle.table.specs.Words.{current_of, kept_of, state_word}
use Rattle.table.proofs.Laws.Words.{current_state, kept_state}
use Rattle.table.specs.View.{View}
use Rattle.entries.specs.Frames.{sets_of, set_of, set_frames, frame_of, frames_in, frames_at, used, frame_free}
use Rattle.entries.specs.code.Row.{ample_for}

-- ---- what tells of a free frame without counting

-- a place of an entry is Invalid, by its state word
unfoldable pub half_free : ℕ → Bool
half_free w = eqb (current_of w) 0 || eqb (kept_of w) 0

-- ---- laws

pub set_there : (g : Geometry) (b : ℕ) → set_of g b < sets_of g
set_there g b = omega arith

-- a place uses one frame, or none
pub frame_le : (c : ℕ) → frame_of c ≤ 1
frame_le c = go (eqb c 0)
  where
    go : (q : Bool) → cond q 0 1 ≤ 1
    go true = omega arith
    go false = omega arith

pub frames_state : (c k : ℕ) → c < 16 → k < 4 → frames_in (state_word c k) ≡ frame_of c + frame_of k
unfolding frames_in
frames_state c k hc hk = ap₂ (λ x y. frame_of x + frame_of y) (current_state c k hc hk) (kept_state c k hc hk)

pub frames_two : (w : ℕ) → frames_in w ≤ 2
unfolding frames_in
frames_two w = omega (arith, frame_le (current_of w), frame_le (kept_of w))

-- an entry of the set asked for, and of another
module _ (g : Geometry) (v : View) (n s b : ℕ) {set : ℕ} (h : set ≡ set_of g b) where
  pub frames_here : {f : ℕ} → set ≡ s → f ≡ frames_in (v.entry n b).state → f ≡ frames_at g v n s b
  unfolding frames_at
  frames_here e k = rw (← h, eq-eqb set s e) k

  pub frames_elsewhere : (set ≡ s → ⊥) → 0 ≡ frames_at g v n s b
  unfolding frames_at
  frames_elsewhere e = rw (← h, ne_eqb set s e)

module _ (g : Geometry) (v : View) (n : ℕ) where
  pub frames_within : (s b : ℕ) → frames_at g v n s b ≤ frames_in (v.entry n b).state
  unfolding frames_at
  frames_within s b = by_cases (eqb (set_of g b) s) (λ e. rw e (omega arith)) (λ e. rw e (omega arith))

  frames_at_two : (s b : ℕ) → frames_at g v n s b ≤ 2
  frames_at_two s b = omega (arith, frames_within s b, frames_two (v.entry n b).state)

  -- a node has two places for each item, and uses no more frames
  pub used_most : (s : ℕ) → used g v n s ≤ 2 * g.items
  unfolding used
  used_most s = omega (arith, sum_most g.items 2 (frames_at g v n s) (λ b l. frames_at_two s b))

  half_one : (w : ℕ) → half_free w ≡ true → frames_in w ≤ 1
  unfolding half_free frames_in
  half_one w h = by_cases (eqb (current_of w) 0)
      (λ e. rw e (omega (arith, frame_le (kept_of w))))
      (λ e. rw (other_holds (eqb (current_of w) 0) h e) (omega (arith, frame_le (current_of w))))

  -- frames are ample and a place of item b's entry is Invalid: not all are in use
  pub ample_free : (b : ℕ) → ample_for g b ≡ true → half_free (v.entry n b).state ≡ true → frame_free g v n b ≡ true
  unfolding ample_for used
  ample_free b a h =
      let here = both (ltb b g.items) a in
      let s = set_of g b in
      let fewer = sum_fewer g.items 2 (frames_at g v n s) b (ltb-true b g.items here.0) (λ i l. frames_at_two s i)
      (omega (arith, frames_within s b, half_one (v.entry n b).state h)) in
      lt-ltb _ (set_frames g) (omega (arith, fewer, leb-true (2 * g.items) (set_frames g) here.1))

-- the ways of the code
module _ (g : Geometry) (v : View) (n b : ℕ) where
  pub free_told :
      {a : Bool} {w c k : ℕ} → a ≡ ample_for g b → w ≡ (v.entry n b).state → c ≡ current_of w → k ≡ kept_of w
      → (a && (eqb c 0 || eqb k 0)) ≡ true → true ≡ frame_free g v n b
  unfolding half_free
  free_told {a} p z q r e =
      let t = both a e in
      sym (ample_free g v n b (sym p ∙ t.0) (rw (← z, ← q, ← r) t.1))

  pub free_counted : {set u f : ℕ} → set ≡ set_of g b → u ≡ used g v n set → f ≡ set_frames g → ltb u f ≡ frame_free g v n b
  free_counted x y z = ap₂ ltb (y ∙ ap (used g v n) x) z
