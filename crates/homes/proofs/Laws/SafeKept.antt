-- A call that may take d frames more at one entry, node n, item b: what holds of each entry against the table at entry keeps what Kept says.
use Prim.Native.Nat.{ℕ, ◌+◌, ◌≤◌, ◌<◌}
use mathlib.Core.Path.{refl}
use native.Mathlib.Omega.{arith}
use Rattle.table.specs.declared.geometry.Geometry.{Geometry}
use Rattle.table.specs.View.{Entry, View}
use Rattle.table.proofs.Laws.Pass.{Each}
use Rattle.entries.specs.Frames.{set_of, set_frames, used}
use Rattle.entries.proofs.Laws.SoundFacts.{SoundTable}
use Rattle.homes.proofs.Laws.Kept.{Live, Kept}
use Rattle.homes.proofs.Laws.Safe.{Safe}
use Rattle.homes.proofs.Laws.SoundTells.{formed_at}
use Rattle.homes.proofs.Laws.KeptOn.{more_at, kept_begins, kept_on}

module _ (g : Geometry) (v : View) (n b d : ℕ) where
  abbrev pub safe_at : ℕ → ℕ → Entry → Type 0
  safe_at k c e = Live g v k → c < g.items → Safe (v.entry k c) (more_at n b d k c) e

  module _ (phase number : ℕ) (good : SoundTable g v phase number) where
    pub safe_begins : (k c : ℕ) → safe_at k c (v.entry k c)
    safe_begins k c l h = record { back = refl; form = formed_at g v phase number good k c l h; frames = omega arith }

    module _ (own : Live g v n) (item : b < g.items) (room : used g v n (set_of g b) + d ≤ set_frames g) where
      pub safe_keeps : (w : View) → Each safe_at v w → Kept g v w
      safe_keeps w s = kept_on g v v (kept_begins g v phase number good) n b d own item room w s
