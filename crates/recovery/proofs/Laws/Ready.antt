-- What the survivors of a strike have, so that a recovery brings back one whole save; and what they have from its rolling on.
use Prim.Native.Nat.{ℕ, ◌≤◌, ◌<◌}
use mathlib.Core.Path.{◌≡◌}
use mathlib.Core.Logic.{◌≢◌}
use mathlib.Core.Bool.{Bool, true}
use Rattle.counting.proofs.Laws.Counting.{Only}
use Rattle.table.specs.declared.geometry.Geometry.{Geometry}
use Rattle.table.specs.Words.{state_form, mark_form, shared_ck1, shared_ck2}
use Rattle.table.specs.Changes.{checkpoint_of}
use Rattle.table.specs.View.{Entry, View, live, current, kept}
use Rattle.table.specs.Copies.{copy_number, copy_value}
use Rattle.entries.specs.Frames.{sets_of, set_frames, used}
use Rattle.entries.specs.Tally.{has, copy}
use Rattle.homes.proofs.Laws.Kept.{Live}
use Rattle.recovery.specs.Sides.{copy_on}
use Rattle.survivors.specs.Direction.{forward_in}
use Rattle.survivors.specs.Survivors.{largest_number}

-- a survivor has a recovery copy of item b on a side
pub record Holds (g : Geometry) (forward : Bool) (w : View) (b n : ℕ) : Type 0 where
  pub alive : Live g w n
  pub copied : copy_number (copy_on forward (w.entry n b)) ≢ 0

-- the recovery copies on one side: each item has one, and all have the value saved
pub record Sided (g : Geometry) (saved : ℕ → ℕ) (forward : Bool) (w : View) : Type 0 where
  pub there : (b : ℕ) → b < g.items → (n : ℕ) × Holds g forward w b n
  pub values :
      (n b : ℕ) → Live g w n → b < g.items → copy_number (copy_on forward (w.entry n b)) ≢ 0
      → copy_value (copy_on forward (w.entry n b)) ≡ saved b

-- word forms and frames of the survivors; the copies on the side that they choose; the number of the point
pub record Ready (g : Geometry) (saved : ℕ → ℕ) (number : ℕ) (w : View) : Type 0 where
  pub marks : (n : ℕ) → Live g w n → mark_form (w.mark n) ≡ true
  pub forms : (n b : ℕ) → Live g w n → b < g.items → state_form (w.entry n b).state ≡ true
  pub frames : (n s : ℕ) → Live g w n → s < sets_of g → used g w n s ≤ set_frames g
  pub side : Sided g saved (forward_in g w) w
  pub point : largest_number g w ≡ number

-- however a recovery that began on w is cut: u is as ready, with the same survivors
pub record Going (g : Geometry) (saved : ℕ → ℕ) (number : ℕ) (w u : View) : Type 0 where
  pub ready : Ready g saved number u
  pub same : (n : ℕ) → live u n ≡ live w n

-- ---- from the rolling on

-- Invalid, or a Shared-CK with this value; nothing kept
pub record PlainEntry (x : ℕ) (e : Entry) : Type 0 where
  pub form : state_form e.state ≡ true
  pub code : current e ≢ 0 → checkpoint_of (current e) ≢ 0
  pub nothing : kept e ≡ 0
  pub value : current e ≢ 0 → e.value ≡ x

pub record HasOne (g : Geometry) (u : View) (b n : ℕ) : Type 0 where
  pub alive : Live g u n
  pub copied : current (u.entry n b) ≢ 0

-- w at the start, u with its marks, all entries of survivors plain
pub record Plain (g : Geometry) (saved : ℕ → ℕ) (w u : View) : Type 0 where
  pub marks : u.mark ≡ w.mark
  pub entries : (n b : ℕ) → Live g u n → b < g.items → PlainEntry (saved b) (u.entry n b)
  pub frames : (n s : ℕ) → Live g u n → s < sets_of g → used g u n s ≤ set_frames g
  pub there : (b : ℕ) → b < g.items → (n : ℕ) × HasOne g u b n

-- one Shared-CK1 and one Shared-CK2
pub record Paired (g : Geometry) (u : View) (b : ℕ) : Type 0 where
  pub one : ℕ
  pub two : ℕ
  pub first : Only g.nodes (has u b shared_ck1) one
  pub second : Only g.nodes (has u b shared_ck2) two

-- what numbering leaves of item b: a pair, or a single copy
pub data Numbered (g : Geometry) (u : View) (b : ℕ) : Type 0 where
  pair : Paired g u b → Numbered g u b
  alone : (n : ℕ) → Only g.nodes (copy u b) n → Numbered g u b
