-- Frames in use when entries change: where no entry uses more the node uses no more; where one does, its set uses as many more.
use Prim.Native.Nat.{ℕ, ◌+◌, ◌≤◌, ◌<◌}
use mathlib.Core.Path.{◌≡◌, refl}
use mathlib.Core.Bool.{Bool, true, false, cond}
use native.Mathlib.Omega.{arith}
use native.Mathlib.Decide.{ℕ_discrete}
use lib.Dec.{eqb}
use Rattle.counting.proofs.Laws.Counting.{sum_le, sum_one_more}
use Rattle.table.specs.declared.geometry.Geometry.{Geometry}
use Rattle.table.specs.View.{View}
use Rattle.entries.specs.Frames.{set_of, frames_in, frames_at, used}
use Rattle.entries.proofs.Laws.Frames.{frames_elsewhere}

module _ (g : Geometry) (v w : View) (n : ℕ) where
  -- the entry of item c uses at most d frames more
  abbrev pub uses : ℕ → ℕ → Type 0
  uses c d = frames_in (w.entry n c).state ≤ frames_in (v.entry n c).state + d

  set_uses : (s c d : ℕ) → uses c d → frames_at g w n s c ≤ frames_at g v n s c + d
  unfolding frames_at
  set_uses s c d h = go (eqb (set_of g c) s)
    where
      go : (q : Bool) → cond q (frames_in (w.entry n c).state) 0 ≤ cond q (frames_in (v.entry n c).state) 0 + d
      go true = h
      go false = omega arith

  pub used_no_more : (s : ℕ) → ((c : ℕ) → c < g.items → uses c 0) → used g w n s ≤ used g v n s
  unfolding used
  used_no_more s h =
      sum_le g.items (frames_at g w n s) (frames_at g v n s) (λ c l. let u = set_uses s c 0 (h c l) in omega arith)

  module _ (b d : ℕ) (others : (c : ℕ) → c < g.items → (c ≡ b → ⊥) → uses c 0) where
    -- the set of the entry that uses more
    pub used_more : (s : ℕ) → uses b d → used g w n s ≤ used g v n s + d
    unfolding used
    used_more s h =
        sum_one_more g.items (frames_at g w n s) (frames_at g v n s) b d
        (λ c l e. let u = set_uses s c 0 (others c l e) in omega arith) (set_uses s b d h)

    -- any other set
    pub used_elsewhere : (s : ℕ) → (set_of g b ≡ s → ⊥) → used g w n s ≤ used g v n s
    unfolding used
    used_elsewhere s e =
        sum_le g.items (frames_at g w n s) (frames_at g v n s)
        (λ c l. elim (ℕ_discrete c b) [ yes q ↦ rw q elsewhere | no q ↦ (let u = set_uses s c 0 (others c l q) in omega arith) ])
      where
        elsewhere : frames_at g w n s b ≤ frames_at g v n s b
        elsewhere =
            let p : 0 ≡ frames_at g w n s b = frames_elsewhere g w n s b {set = set_of g b} refl e in
            omega arith
