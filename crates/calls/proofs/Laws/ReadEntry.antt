-- One entry under Read: at every store its recovery copy is the same, its state word keeps its form, and its frames stay within bounds.
use Prim.Native.Nat.{ℕ, ◌+◌, ◌≤◌, ◌<◌}
use mathlib.Core.Path.{◌≡◌, refl, sym, ap, ap₂, ◌∙◌}
use mathlib.Core.Bool.{true}
use native.Mathlib.Omega.{arith}
use lib.Dec.{eqb}
use borrow.Author.Tests.{eqb-true}
use Rattle.counting.proofs.Laws.Tests.{either}
use Rattle.table.specs.Words.{state_word, current_of, kept_of, state_form, invalid, shared, owner, modified, shared_ck1}
use Rattle.table.proofs.Laws.Words.{current_state, kept_state}
use Rattle.table.proofs.Laws.Forms.{form_facts, low_form_lem}
use Rattle.table.specs.Changes.{change_of, checkpoint_of}
use Rattle.table.specs.Stores.{value_to}
use Rattle.table.specs.View.{Entry, current, kept, changed}
use Rattle.table.proofs.Laws.Pass.{Steps, last, next}
use Rattle.table.specs.Copies.{back_by}
use Rattle.table.proofs.Laws.Copies.{value_free}
use Rattle.entries.specs.Frames.{frame_of, frames_in}
use Rattle.entries.proofs.Laws.Frames.{frames_state}
use Rattle.calls.specs.Transitions.{change_to}
use Rattle.calls.specs.Read.{serves, server_changes, reader_changes}
use Rattle.homes.proofs.Laws.Placed.{placed}
use Rattle.calls.proofs.Laws.ReadDone.{served_after}
use Rattle.homes.proofs.Laws.Safe.{Safe}

module _ (e : Entry) (form : state_form e.state ≡ true) where
  start : (d : ℕ) → Safe e d e
  start d = record { back = refl; form = form; frames = omega arith }

  -- the current value beside no Shared-CK is free
  value_safe : checkpoint_of (current e) ≡ 0 → (x d : ℕ) → Safe e d (changed (value_to x) e)
  value_safe h x d = record {
    back = value_free (checkpoint_of (current e)) (kept e) e.value x e.kept_value (rw h refl);
    form = form;
    frames = omega arith;
  }

  -- and so is the current place, for another that is no Shared-CK
  placed_safe :
      checkpoint_of (current e) ≡ 0 → (c x d : ℕ) → c < 4 → checkpoint_of c ≡ 0 → frame_of c ≤ frame_of (current e) + d → Safe e d (placed e c x)
  unfolding frames_in
  placed_safe h c x d hc z l =
      let f = form_facts e.state form in
      let cs : current_of (state_word c (kept e)) ≡ c = current_state c (kept e) (omega arith) (omega arith) in
      let ks : kept_of (state_word c (kept e)) ≡ kept e = kept_state c (kept e) (omega arith) (omega arith) in
      record {
        back = ap₂ (λ i j. back_by i j x e.kept_value) (ap checkpoint_of cs ∙ z ∙ sym h) ks
            ∙ value_free (checkpoint_of (current e)) (kept e) e.value x e.kept_value (rw h refl);
        form = low_form_lem c (kept e) hc f.kept_code;
        frames = rw (frames_state c (kept e) (omega arith) (omega arith)) (omega arith);
      }

  -- ---- the server's entry: Modified turns Owner, Owner and Shared-CK1 stay
  pub server_steps : serves (current e) ≡ true → Steps (Safe e 0) (λ e'. e' ≡ served_after e) e (server_changes e)
  unfolding change_to change_of
  server_steps h =
      either (eqb (current e) shared_ck1) h (λ q. let c = eqb-true (current e) shared_ck1 q in rw c (last (start 0) refl))
      (λ h. either (eqb (current e) owner) h (λ q. let c = eqb-true (current e) owner q in rw c (last (start 0) refl))
      (λ q. let c = eqb-true (current e) modified q in
      rw c (next (start 0) (last (placed_safe (rw c refl) owner e.value 0 (omega arith) refl (rw c (omega arith))) refl))))

  -- ---- the reader's entry
  pub reader_steps : current e ≡ invalid → (x : ℕ) → Steps (Safe e 1) (λ e'. e' ≡ placed e shared x) e (reader_changes e x)
  reader_steps h x =
      let z : checkpoint_of (current e) ≡ 0 = rw h refl in
      next (start 1) (next (value_safe z x 1) (last (placed_safe z shared x 1 (omega arith) refl (omega arith)) refl))
