-- What a call keeps however it is cut: every live entry's recovery copy for a roll back, word forms, frames, marks.
use Prim.Native.Nat.{ℕ, ◌≤◌, ◌<◌}
use mathlib.Core.Path.{◌≡◌, ap}
use mathlib.Core.Bool.{true, not}
use lib.Dec.{eqb}
use borrow.Author.Tests.{eqb-false, ne_eqb, not-true}
use Rattle.table.specs.declared.geometry.Geometry.{Geometry}
use Rattle.table.specs.Words.{state_form}
use Rattle.table.specs.View.{View, live}
use Rattle.table.specs.Copies.{back_copy}
use Rattle.entries.specs.Frames.{sets_of, set_frames, used}

-- a node that is there and live: "a node is dead if its mark is all zero, else live"
pub record Live (g : Geometry) (v : View) (n : ℕ) : Type 0 where
  pub there : n < g.nodes
  pub marked : v.mark n ≡ 0 → ⊥

-- v at entry, w at the cut
pub record Kept (g : Geometry) (v w : View) : Type 0 where
  pub back : (n b : ℕ) → Live g v n → b < g.items → back_copy (w.entry n b) ≡ back_copy (v.entry n b)
  pub forms : (n b : ℕ) → Live g v n → b < g.items → state_form (w.entry n b).state ≡ true
  pub frames : (n s : ℕ) → Live g v n → s < sets_of g → used g w n s ≤ set_frames g
  pub marks : w.mark ≡ v.mark

-- the same but for the recovery copies
pub record Held (g : Geometry) (v w : View) : Type 0 where
  pub marks : w.mark ≡ v.mark
  pub forms : (n b : ℕ) → Live g v n → b < g.items → state_form (w.entry n b).state ≡ true
  pub frames : (n s : ℕ) → Live g v n → s < sets_of g → used g w n s ≤ set_frames g

pub kept_held : (g : Geometry) (v w : View) → Kept g v w → Held g v w
kept_held g v w k = record { marks = k.marks; forms = k.forms; frames = k.frames }

-- ---- by the test of soundness, and back

module _ (g : Geometry) (v : View) (n : ℕ) where
  pub live_test : Live g v n → live v n ≡ true
  live_test l = ap not (ne_eqb (v.mark n) 0 l.marked)

  pub test_live : n < g.nodes → live v n ≡ true → Live g v n
  test_live h e = record { there = h; marked = eqb-false (v.mark n) 0 (not-true (eqb (v.mark n) 0) e) }
