-- One entry under Create: at every store its recovery copy is the same, its state word keeps its form, and its frames stay within bounds.
use Prim.Native.Nat.{ℕ, ◌+◌, ◌%◌, ◌^◌, ◌≤◌, ◌<◌}
use mathlib.Core.Path.{◌≡◌, refl, sym, ap, ap₂, ◌∙◌}
use mathlib.Core.Bool.{true}
use mathlib.Core.List.{[], ◌∷◌}
use native.Mathlib.Omega.{arith}
use lib.Dec.{eqb, ltb}
use borrow.Author.Tests.{eqb-true, eq-eqb, lt-ltb}
use Rattle.counting.proofs.Laws.Tests.{either, and_both, or_right}
use Rattle.table.specs.Words.{state_word, current_of, kept_of, state_form, invalid, shared, owner, modified, precommit1, precommit2}
use Rattle.table.proofs.Laws.Words.{current_state, kept_state}
use Rattle.table.proofs.Laws.Forms.{form_facts, low_form_lem}
use Rattle.table.specs.Changes.{checkpoint_of}
use Rattle.table.specs.Stores.{state_to, value_to}
use Rattle.table.specs.View.{Entry, current, kept, changed}
use Rattle.table.proofs.Laws.Pass.{Steps, last, next}
use Rattle.table.specs.Copies.{back_by}
use Rattle.table.proofs.Laws.Copies.{value_free}
use Rattle.entries.specs.Frames.{frame_of, frames_in}
use Rattle.entries.proofs.Laws.Frames.{frames_state}
use Rattle.entries.specs.Dirty.{owns}
use Rattle.homes.proofs.Laws.Placed.{placed}
use Rattle.homes.proofs.Laws.Safe.{Safe}

-- Precommit stands beside any kept place
high_form : (c k : ℕ) → 5 < c → c < 8 → k < 3 → state_form (state_word c k) ≡ true
high_form c k hc lc hk =
    let w = state_word c k in
    and_both (eq-eqb (w % 2 ^ 58) 0 (omega arith))
    (and_both (lt-ltb (current_of w) 8 (omega arith))
    (and_both (lt-ltb (kept_of w) 3 (omega arith))
    (or_right (eqb (kept_of w) 0) (or_right (ltb (current_of w) 4) (lt-ltb 5 (current_of w) (omega arith))))))

module _ (e : Entry) (form : state_form e.state ≡ true) where
  start : (d : ℕ) → Safe e d e
  start d = record { back = refl; form = form; frames = omega arith }

  -- the current place and its value are free, where there is no Shared-CK before and none after
  value_safe : checkpoint_of (current e) ≡ 0 → (x d : ℕ) → Safe e d (changed (value_to x) e)
  value_safe h x d = record {
    back = value_free (checkpoint_of (current e)) (kept e) e.value x e.kept_value (rw h refl);
    form = form;
    frames = omega arith;
  }

  placed_safe :
      checkpoint_of (current e) ≡ 0 → (c x d : ℕ) → c < 8 → checkpoint_of c ≡ 0 → state_form (state_word c (kept e)) ≡ true
      → frame_of c ≤ frame_of (current e) + d → Safe e d (placed e c x)
  unfolding frames_in
  placed_safe h c x d hc z good l =
      let f = form_facts e.state form in
      let lk : kept e < 3 = f.kept_code in
      let cs : current_of (state_word c (kept e)) ≡ c = current_state c (kept e) (omega arith) (omega arith) in
      let ks : kept_of (state_word c (kept e)) ≡ kept e = kept_state c (kept e) (omega arith) (omega arith) in
      record {
        back = ap₂ (λ i j. back_by i j x e.kept_value) (ap checkpoint_of cs ∙ z ∙ sym h) ks
            ∙ value_free (checkpoint_of (current e)) (kept e) e.value x e.kept_value (rw h refl);
        form = good;
        frames = rw (frames_state c (kept e) (omega arith) (omega arith)) (omega arith);
      }

  kept_low : kept e < 3
  kept_low = (form_facts e.state form).kept_code

  -- ---- "Its owner turns Precommit1."
  pub owner_steps : owns (current e) ≡ true → Steps (Safe e 0) (λ e'. e' ≡ placed e precommit1 e.value) e (state_to precommit1 (kept e) ∷ [])
  owner_steps h =
      either (eqb (current e) owner) h
      (λ q. turned (rw (eqb-true (current e) owner q) refl) (rw (eqb-true (current e) owner q) (omega arith)))
      (λ q. turned (rw (eqb-true (current e) modified q) refl) (rw (eqb-true (current e) modified q) (omega arith)))
    where
      turned : checkpoint_of (current e) ≡ 0 → 1 ≤ frame_of (current e)
          → Steps (Safe e 0) (λ e'. e' ≡ placed e precommit1 e.value) e (state_to precommit1 (kept e) ∷ [])
      turned z l =
          next (start 0)
          (last (placed_safe z precommit1 e.value 0 (omega arith) refl (high_form precommit1 (kept e) (omega arith) (omega arith) kept_low) (omega arith)) refl)

  -- ---- a Shared copy turns Precommit2, or is dropped
  module _ (h : current e ≡ shared) where
    pub sharer_steps : Steps (Safe e 0) (λ e'. e' ≡ placed e precommit2 e.value) e (state_to precommit2 (kept e) ∷ [])
    sharer_steps =
        next (start 0)
        (last (placed_safe (rw h refl) precommit2 e.value 0 (omega arith) refl (high_form precommit2 (kept e) (omega arith) (omega arith) kept_low)
        (rw h (omega arith))) refl)

    pub drop_steps : Steps (Safe e 0) (λ e'. e' ≡ placed e invalid e.value) e (state_to invalid (kept e) ∷ [])
    drop_steps =
        next (start 0)
        (last (placed_safe (rw h refl) invalid e.value 0 (omega arith) refl (low_form_lem invalid (kept e) (omega arith) kept_low) (omega arith)) refl)

    pub drop_frames : frames_in (placed e invalid e.value).state + 1 ≤ frames_in e.state
    unfolding frames_in
    drop_frames =
        let lk = kept_low in
        let one : frame_of (current e) ≡ 1 = rw h refl in
        rw (frames_state invalid (kept e) (omega arith) (omega arith)) (omega arith)

  -- ---- a copy comes to an Invalid place: "then value, state"
  pub arrival_steps :
      current e ≡ invalid → (x : ℕ) → Steps (Safe e 1) (λ e'. e' ≡ placed e precommit2 x) e (value_to x ∷ state_to precommit2 (kept e) ∷ [])
  arrival_steps h x =
      let z : checkpoint_of (current e) ≡ 0 = rw h refl in
      next (start 1) (next (value_safe z x 1)
      (last (placed_safe z precommit2 x 1 (omega arith) refl (high_form precommit2 (kept e) (omega arith) (omega arith) kept_low) (omega arith)) refl))
