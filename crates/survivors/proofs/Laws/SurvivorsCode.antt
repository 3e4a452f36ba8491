-- The ways of the code that looks at the survivors: a law for each, over what the code has read.
use Rattle.std.specs.Prelude.{None, Option, Some}
use Prim.Native.Nat.{ℕ, ◌+◌, ◌-◌, ◌*◌, ◌≤◌, ◌<◌}
use mathlib.Core.Path.{◌≡◌, refl, ap, ◌∙◌}
use mathlib.Core.Bool.{Bool, true, cond, ◌&&◌}
use native.Mathlib.Omega.{arith}
use lib.Dec.{eqb, ltb}
use borrow.Author.Tests.{lt-ltb, le-ltb, ltb-true}
use Rattle.counting.proofs.Laws.Tests.{bool_iff}
use Rattle.table.specs.declared.geometry.Geometry.{Geometry}
use Rattle.table.specs.View.{View}
use Rattle.entries.specs.Frames.{frames_fit, frames_at, used}
use Rattle.entries.specs.Sound.{states_form, node_sound}
use Rattle.entries.proofs.Laws.Sound.{node_live}
use Rattle.survivors.specs.Survivors.{survivors, too_few_with}

-- the entries are those of the table
pub survivor_entry : (lost : Option ℕ) (v : View) → (survivors lost v).entry ≡ v.entry
survivor_entry None v = refl
survivor_entry (Some m) v = refl

-- ---- 14

pub few_two : (g : Geometry) (k : ℕ) → k < 2 → true ≡ too_few_with g k
unfolding too_few_with
few_two g k h = rw (lt-ltb k 2 h) refl

-- without a subtraction: the items may be none
room_test : (x m : ℕ) → ltb (x + 1) (2 * m) ≡ ltb x (2 * m - 1)
room_test x m =
    bool_iff (ltb (x + 1) (2 * m)) (ltb x (2 * m - 1))
    (λ p. lt-ltb x (2 * m - 1) (let l = ltb-true (x + 1) (2 * m) p in omega arith))
    (λ p. lt-ltb (x + 1) (2 * m) (let l = ltb-true x (2 * m - 1) p in omega arith))

pub few_room : (g : Geometry) (k : ℕ) {room : ℕ} → 2 ≤ k → room ≡ (k - 1) * g.frames → ltb (room + 1) (2 * g.items) ≡ too_few_with g k
unfolding too_few_with
few_room g k {room} h e = rw (le-ltb k 2 h, ← e) (room_test room g.items)

-- ---- word forms and frames

states_same : (g : Geometry) (lost : Option ℕ) (v : View) (n : ℕ) → states_form g v n ≡ states_form g (survivors lost v) n
unfolding states_form
states_same g None v n = refl
states_same g (Some m) v n = refl

frames_same : (g : Geometry) (lost : Option ℕ) (v : View) (n : ℕ) → frames_fit g v n ≡ frames_fit g (survivors lost v) n
unfolding frames_fit used frames_at
frames_same g None v n = refl
frames_same g (Some m) v n = refl

pub survivor_live :
    (g : Geometry) (lost : Option ℕ) (v : View) (n : ℕ) {mark : ℕ} {forms frames : Bool} → mark ≡ (survivors lost v).mark n → (mark ≡ 0 → ⊥)
    → forms ≡ states_form g v n → frames ≡ frames_fit g v n → (forms && frames) ≡ node_sound g (survivors lost v) n
survivor_live g lost v n e d f u =
    node_live g (survivors lost v) n _ e d (f ∙ states_same g lost v n) (u ∙ frames_same g lost v n)

-- a mark that stays
pub survivor_marks : (lost : Option ℕ) (v w : View) (n : ℕ) → w.mark n ≡ v.mark n → (survivors lost w).mark n ≡ (survivors lost v).mark n
survivor_marks None v w n h = h
survivor_marks (Some m) v w n h = ap (cond (eqb n m) 0) h
