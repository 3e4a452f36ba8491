-- One entry under Evict: a Shared copy that is dropped, a copy that arrives, a copy that leaves.
use Prim.Native.Nat.{ℕ, ◌+◌, ◌≤◌, ◌<◌}
use mathlib.Core.Path.{◌≡◌, refl, ap₂, ◌∙◌}
use mathlib.Core.Logic.{◌⊎◌, inl, inr, ◌≢◌}
use mathlib.Core.Bool.{true, false}
use mathlib.Core.List.{[], ◌∷◌}
use native.Mathlib.Omega.{arith}
use native.Mathlib.Decide.{ℕ_discrete}
use lib.Dec.{eqb}
use Rattle.table.specs.Words.{state_word, state_form, invalid, shared}
use Rattle.table.proofs.Laws.Words.{current_state, kept_state}
use Rattle.table.proofs.Laws.Forms.{form_facts, low_form_lem, alone_form}
use Rattle.table.specs.Changes.{checkpoint_of}
use Rattle.table.specs.Stores.{state_to, value_to, kept_to}
use Rattle.table.specs.View.{Entry, current, kept, changed}
use Rattle.table.proofs.Laws.Pass.{Steps, last, next}
use Rattle.table.specs.Copies.{Copy, no_copy, copy_of, back_copy, back_by}
use Rattle.table.proofs.Laws.Copies.{value_free}
use Rattle.entries.specs.Frames.{frame_of, frames_in}
use Rattle.entries.proofs.Laws.Frames.{frames_state, frame_le}

-- what every single store keeps of an entry e₀ that has become e: its recovery copy is the one it had, or c
pub record Arrives (e₀ : Entry) (d : ℕ) (c : Copy) (e : Entry) : Type 0 where
  pub form : state_form e.state ≡ true
  pub frames : frames_in e.state ≤ frames_in e₀.state + d
  pub back : (back_copy e ≡ back_copy e₀) ⊎ (back_copy e ≡ c)

-- ---- places

-- Shared-CK stands beside no kept copy
beside_form : (c k : ℕ) → c < 8 → k < 3 → (k ≢ 0 → c < 4) → state_form (state_word c k) ≡ true
beside_form c k hc hk h = elim (ℕ_discrete k 0) [ yes z ↦ rw z (alone_form c hc) | no z ↦ low_form_lem c k (h z) hk ]

pub high_number : (c : ℕ) → 4 ≤ c → c < 6 → eqb (checkpoint_of c) 0 ≡ false
high_number c h l = elim (ℕ_discrete c 4) [ yes e ↦ rw e refl | no e ↦ (let q : c ≡ 5 = omega arith in rw q refl) ]

-- ---- recovery copies

pub numbered : (number k x y : ℕ) → eqb number 0 ≡ false → back_by number k x y ≡ copy_of number x
unfolding back_by
numbered number k x y h = rw h refl

pub none_kept : (x y : ℕ) → back_by 0 0 x y ≡ no_copy
unfolding back_by
none_kept x y = refl

kept_unused : (number x y y' : ℕ) → back_by number 0 x y' ≡ back_by number 0 x y
unfolding back_by
kept_unused number x y y' = refl

abbrev entry_as : ℕ → ℕ → ℕ → ℕ → Entry
entry_as c k x y = record { state = state_word c k; value = x; kept_value = y }

back_as : (c k x y : ℕ) → c < 8 → k < 3 → back_copy (entry_as c k x y) ≡ back_by (checkpoint_of c) k x y
back_as c k x y hc hk =
    ap₂ (λ i j. back_by (checkpoint_of i) j x y) (current_state c k (omega arith) (omega arith)) (kept_state c k (omega arith) (omega arith))

module _ (e : Entry) (form : state_form e.state ≡ true) where
  start : (d : ℕ) (p : Copy) → Arrives e d p e
  start d p = record { form = form; frames = omega arith; back = inl refl }

  stated : (d : ℕ) (p : Copy) (c k x y : ℕ) → c < 8 → k < 3 → (k ≢ 0 → c < 4) → frame_of c + frame_of k ≤ frames_in e.state + d
      → back_by (checkpoint_of c) k x y ≡ p → Arrives e d p (entry_as c k x y)
  stated d p c k x y hc hk alone l h = record {
    form = beside_form c k hc hk alone;
    frames = rw (frames_state c k (omega arith) (omega arith)) l;
    back = inr (back_as c k x y hc hk ∙ h);
  }

  abbrev Ends : Copy → Entry → Type 0
  Ends p e' = back_copy e' ≡ p

  -- a current copy that comes to an Invalid place
  pub current_arrives :
      current e ≡ invalid → (code x : ℕ) (p : Copy) → code < 8 → (kept e ≢ 0 → code < 4) → back_by (checkpoint_of code) (kept e) x e.kept_value ≡ p
      → Steps (Arrives e 1 p) (Ends p) e (value_to x ∷ state_to code (kept e) ∷ [])
  unfolding frames_in
  current_arrives z code x p hc alone h =
      let f = form_facts e.state form in
      let l = frame_le code in
      let s : Arrives e 1 p (changed (value_to x) e) =
      record { form = form; frames = omega arith; back = inl (value_free (checkpoint_of (current e)) (kept e) e.value x e.kept_value (rw z refl)) } in
      next (start 1 p)
      (next s
      (last (stated 1 p code (kept e) x e.kept_value hc f.kept_code alone (omega arith) h) (back_as code (kept e) x e.kept_value hc f.kept_code ∙ h)))

  -- one that takes over a Shared copy
  pub taken_over_lem :
      current e ≡ shared → (code : ℕ) (p : Copy) → code < 8 → (kept e ≢ 0 → code < 4) → back_by (checkpoint_of code) (kept e) e.value e.kept_value ≡ p
      → Steps (Arrives e 0 p) (Ends p) e (state_to code (kept e) ∷ [])
  unfolding frames_in
  taken_over_lem z code p hc alone h =
      let f = form_facts e.state form in
      let l = frame_le code in
      let o : frame_of (current e) ≡ 1 = rw z refl in
      next (start 0 p)
      (last (stated 0 p code (kept e) e.value e.kept_value hc f.kept_code alone (omega arith) h)
      (back_as code (kept e) e.value e.kept_value hc f.kept_code ∙ h))

  -- a kept copy that comes to an Invalid place
  pub kept_arrives :
      kept e ≡ invalid → (code y : ℕ) (p : Copy) → code < 3 → current e < 4 → back_by (checkpoint_of (current e)) code e.value y ≡ p
      → Steps (Arrives e 1 p) (Ends p) e (kept_to y ∷ state_to (current e) code ∷ [])
  unfolding frames_in
  kept_arrives z code y p hk hc h =
      let l = frame_le code in
      let s : Arrives e 1 p (changed (kept_to y) e) =
      record { form = form; frames = omega arith; back = inl (rw z (kept_unused (checkpoint_of (current e)) e.value e.kept_value y)) } in
      next (start 1 p)
      (next s
      (last (stated 1 p (current e) code e.value y (omega arith) hk (λ _. hc) (omega arith) h)
      (back_as (current e) code e.value y (omega arith) hk ∙ h)))

  -- a current copy that leaves, and a kept one
  pub current_leaves :
      (p : Copy) → back_by 0 (kept e) e.value e.kept_value ≡ p → Steps (Arrives e 0 p) (Ends p) e (state_to invalid (kept e) ∷ [])
  unfolding frames_in
  current_leaves p h =
      let f = form_facts e.state form in
      next (start 0 p)
      (last (stated 0 p invalid (kept e) e.value e.kept_value (omega arith) f.kept_code (λ _. omega arith) (omega arith) h)
      (back_as invalid (kept e) e.value e.kept_value (omega arith) f.kept_code ∙ h))

  pub kept_leaves :
      (p : Copy) → back_by (checkpoint_of (current e)) 0 e.value e.kept_value ≡ p → Steps (Arrives e 0 p) (Ends p) e (state_to (current e) invalid ∷ [])
  unfolding frames_in
  kept_leaves p h =
      let f = form_facts e.state form in
      next (start 0 p)
      (last (stated 0 p (current e) invalid e.value e.kept_value f.code (omega arith) (λ d. absurd (d refl)) (omega arith) h)
      (back_as (current e) invalid e.value e.kept_value f.code (omega arith) ∙ h))

  -- a Shared copy that is dropped: its recovery copy stays, its frame is free
  pub record Dropped (e' : Entry) : Type 0 where
    pub current_place : current e' ≡ invalid
    pub kept_place : kept e' ≡ kept e
    pub free : frames_in e'.state + 1 ≤ frames_in e.state
    pub back : back_copy e' ≡ back_copy e

  pub shared_drops : current e ≡ shared → Steps (Arrives e 0 (back_copy e)) Dropped e (state_to invalid (kept e) ∷ [])
  unfolding frames_in
  shared_drops z =
      let f = form_facts e.state form in
      let h : back_by 0 (kept e) e.value e.kept_value ≡ back_copy e = rw z refl in
      let o : frame_of (current e) ≡ 1 = rw z refl in
      let s = frames_state invalid (kept e) (omega arith) (omega (arith, f.kept_code)) in
      next (start 0 (back_copy e))
      (last (stated 0 (back_copy e) invalid (kept e) e.value e.kept_value (omega arith) f.kept_code (λ _. omega arith) (omega arith) h)
      (record {
        current_place = current_state invalid (kept e) (omega arith) (omega (arith, f.kept_code));
        kept_place = kept_state invalid (kept e) (omega arith) (omega (arith, f.kept_code));
        free = omega arith;
        back = back_as invalid (kept e) e.value e.kept_value (omega arith) f.kept_code ∙ h;
      }))
