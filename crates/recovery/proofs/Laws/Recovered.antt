-- What a whole recovery leaves: each item as Shared-CK1 on one survivor and Shared-CK2 on another, at the value saved, and nothing else.
use Prim.Native.Nat.{ℕ, ◌≤◌, ◌<◌}
use mathlib.Core.Path.{◌≡◌}
use mathlib.Core.Bool.{false}
use Rattle.table.specs.declared.geometry.Geometry.{Geometry}
use Rattle.table.specs.Words.{mark_word}
use Rattle.table.specs.View.{View, live}
use Rattle.entries.specs.Frames.{sets_of, set_frames, used}
use Rattle.homes.proofs.Laws.Kept.{Live}
use Rattle.recovery.proofs.Laws.Ready.{PlainEntry, Paired}

-- w the survivors at the start, u at the end
pub record Recovered (g : Geometry) (saved : ℕ → ℕ) (number : ℕ) (w u : View) : Type 0 where
  pub marks : (n : ℕ) → Live g w n → u.mark n ≡ mark_word 0 number
  pub dead : (n : ℕ) → live w n ≡ false → u.mark n ≡ w.mark n
  pub entries : (n b : ℕ) → Live g w n → b < g.items → PlainEntry (saved b) (u.entry n b)
  pub frames : (n s : ℕ) → Live g w n → s < sets_of g → used g u n s ≤ set_frames g
  pub pairs : (b : ℕ) → b < g.items → Paired g u b
