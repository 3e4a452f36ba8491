-- The laws of `specs/Admission.antt`.
use Rattle.std.specs.Prelude.{Err, Ok}
use Prim.Native.Nat.{ℕ, ◌<◌}
use mathlib.Core.Path.{◌≡◌, refl}
use mathlib.Core.Bool.{Bool, true, false, cond, ◌&&◌, not}
use native.Mathlib.Omega.{arith}
use lib.Dec.{leb, eqb}
use borrow.Author.Tests.{leb-false, eqb-false, ltb-true}
use Rattle.table.specs.declared.geometry.Geometry.{Geometry}
use Rattle.table.specs.declared.answers.Refusal.{Refusal}
use Rattle.table.specs.declared.answers.Refusal.TheVariants.{NoNode, NoItem, DeadNode, CheckpointOpen, NoFrame}
use Rattle.table.specs.Words.{phase_of}
use Rattle.table.specs.View.{View}
use Rattle.entries.specs.Frames.{set_of, set_frames, used, frame_free}
use Rattle.homes.specs.Admission.{Admission, admission_of, frame_full, frame_admission}

-- ---- what admission tells

pub record Admits (g : Geometry) (v : View) (n b : ℕ) : Type 0 where
  pub node : n < g.nodes
  pub item : b < g.items
  pub live : v.mark n ≡ 0 → ⊥
  pub closed : phase_of (v.mark n) ≡ 1 → ⊥

-- a refusal that is the next one: it does not hold, and what comes after it is admitted
pub passed : (t : Bool) (x : Refusal) (a : Admission) → cond t (Err x) a ≡ Ok tt → (t ≡ false) × (a ≡ Ok tt)
passed true x a e = let z : ◌≡◌ {A = ℕ} 0 1 = cc in absurd (omega arith)
passed false x a e = (refl, e)

-- a refusal unless a test holds
pub asked : (t : Bool) (x : Refusal) → ◌≡◌ {A = Admission} (cond t (Ok tt) (Err x)) (Ok tt) → t ≡ true
asked true x e = refl
asked false x e = let z : ◌≡◌ {A = ℕ} 0 1 = cc in absurd (omega arith)

pub admission_tells : (g : Geometry) (v : View) (n b : ℕ) → admission_of g v n b ≡ Ok tt → Admits g v n b
unfolding admission_of
admission_tells g v n b e =
    let (p, e₁) = passed (leb g.nodes n) NoNode _ e in
    let (q, e₂) = passed (leb g.items b) NoItem _ e₁ in
    let (r, e₃) = passed (eqb (v.mark n) 0) DeadNode _ e₂ in
    let (s, e₄) = passed (eqb (phase_of (v.mark n)) 1) CheckpointOpen _ e₃ in
    record { node = leb-false g.nodes n p; item = leb-false g.items b q; live = eqb-false _ 0 r; closed = eqb-false _ 1 s }

-- a node, an item, and a frame if one is needed
pub record FrameAdmits (g : Geometry) (v : View) (n b : ℕ) (needed : Bool) : Type 0 where
  pub place : Admits g v n b
  pub room : needed ≡ true → used g v n (set_of g b) < set_frames g

pub frame_admits :
    (g : Geometry) (v : View) (n b : ℕ) (needed : Bool) → frame_admission g v n b needed (admission_of g v n b) ≡ Ok tt → FrameAdmits g v n b needed
unfolding frame_admission frame_full
frame_admits g v n b needed e = go (admission_of g v n b) refl e
  where
    room : (p q : Bool) → frame_free g v n b ≡ q → ◌≡◌ {A = Admission} (cond (p && not q) (Err NoFrame) (Ok tt)) (Ok tt) → p ≡ true
        → used g v n (set_of g b) < set_frames g
    room true true h e f = ltb-true (used g v n (set_of g b)) (set_frames g) h
    room true false h e f = let z : ◌≡◌ {A = ℕ} 0 1 = cc in absurd (omega arith)
    room false q h e f = let z : ◌≡◌ {A = ℕ} 0 1 = cc in absurd (omega arith)

    go : (a : Admission) → admission_of g v n b ≡ a → frame_admission g v n b needed a ≡ Ok tt → FrameAdmits g v n b needed
    go (Err r) h e = let z : ◌≡◌ {A = ℕ} 0 1 = cc in absurd (omega arith)
    go (Ok _) h e = record { place = admission_tells g v n b h; room = room needed (frame_free g v n b) refl e }

-- ---- the ways of the code

module _ (g : Geometry) (v : View) (n b : ℕ) (needed : Bool) where
  pub frame_turned : {x : Refusal} → Err x ≡ admission_of g v n b → Err x ≡ frame_admission g v n b needed (admission_of g v n b)
  unfolding frame_admission
  frame_turned e = rw (← e) refl

  module _ (e : Ok tt ≡ admission_of g v n b) {full : Bool} (f : full ≡ frame_full g v n b needed) where
    pub frame_none : full ≡ true → Err NoFrame ≡ frame_admission g v n b needed (admission_of g v n b)
    unfolding frame_admission
    frame_none q = rw (← e, ← f, q) refl

    pub frame_free_lem : full ≡ false → Ok tt ≡ frame_admission g v n b needed (admission_of g v n b)
    unfolding frame_admission
    frame_free_lem q = rw (← e, ← f, q) refl

module _ (g : Geometry) (v : View) (n b : ℕ) {needed : Bool} where
  pub frame_spared : needed ≡ false → false ≡ frame_full g v n b needed
  unfolding frame_full
  frame_spared h = rw h refl

  pub frame_asked : needed ≡ true → {free : Bool} → free ≡ frame_free g v n b → not free ≡ frame_full g v n b needed
  unfolding frame_full
  frame_asked h p = rw (h, p) refl
