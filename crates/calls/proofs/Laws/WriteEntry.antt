-- One entry under Write: at every store its recovery copy is the same, its state word keeps its form, and its frames stay within bounds.
use Prim.Native.Nat.{ℕ, ◌+◌, ◌≤◌, ◌<◌}
use mathlib.Core.Path.{◌≡◌, refl, sym, ap, ap₂, ◌∙◌}
use mathlib.Core.Bool.{Bool, true, false, cond}
use native.Mathlib.Omega.{arith}
use native.Mathlib.Decide.{ℕ_discrete}
use lib.Dec.{eqb}
use borrow.Author.Tests.{eqb-true, ne_eqb}
use Rattle.table.specs.declared.changes.Event.TheVariants.{OtherWrites}
use Rattle.counting.specs.Counting.{every}
use Rattle.counting.proofs.Laws.Counting.{every_at}
use Rattle.table.specs.Words.{state_word, current_of, kept_of, state_form, invalid, modified, precommit1}
use Rattle.table.proofs.Laws.Words.{current_state, kept_state, state_parts}
use Rattle.table.proofs.Laws.Forms.{form_facts, low_form_lem}
use Rattle.table.specs.Changes.{change_of, checkpoint_of, keep}
use Rattle.table.proofs.Laws.Changes.{checkpoint_none, checkpoint_low}
use Rattle.table.specs.Stores.{value_to, kept_to}
use Rattle.table.specs.View.{Entry, current, kept, changed}
use Rattle.table.proofs.Laws.Pass.{Steps, last, next}
use Rattle.entries.specs.Frames.{frame_of, frames_in}
use Rattle.entries.proofs.Laws.Frames.{frames_state}
use Rattle.table.specs.Copies.{back_by}
use Rattle.table.proofs.Laws.Copies.{kept_free, value_free, back_moved}
use Rattle.homes.proofs.Laws.Safe.{Safe}
use Rattle.calls.specs.Transitions.{change_to}
use Rattle.calls.specs.Write.{needs_frame, other_change, own_keep, kept_after, own_changes}
use Rattle.calls.proofs.Laws.Written.{number, away}

-- `away`, by whether the entry has no Shared-CK
abbrev away_by : Bool → Entry → ℕ → ℕ → Entry
away_by none e c x =
    record { state = state_word c (cond none (kept e) (number e)); value = x; kept_value = cond none e.kept_value e.value }

-- the frame that a write at this entry may need
abbrev pub extra : Entry → ℕ
extra e = cond (needs_frame (current e)) 1 0

-- ---- numbers

-- the column "other writes", of every state but Precommit
other_rule : ℕ → Bool
other_rule c = eqb (change_of c OtherWrites) (cond (eqb (checkpoint_of c) 0) invalid keep)

other_writes : (c : ℕ) → c < precommit1 → change_of c OtherWrites ≡ cond (eqb (checkpoint_of c) 0) invalid keep
unfolding other_rule change_of every
other_writes c h = eqb-true _ _ (every_at 6 other_rule refl c h)

-- a kept copy takes the frame that the current one leaves; Modified takes the extra one
module _ (c k : ℕ) where
  abbrev kept_place : ℕ
  kept_place = cond (eqb (checkpoint_of c) 0) k (checkpoint_of c)

  frame_kept : frame_of kept_place ≤ frame_of c + frame_of k
  frame_kept =
      elim (ℕ_discrete c 4) [
        | yes p ↦ rw p (omega arith)
        | no p ↦ elim (ℕ_discrete c 5) [
          | yes q ↦ rw q (omega arith)
          | no q ↦ rw (ne_eqb c 4 p, ne_eqb c 5 q) (omega arith)
        ]
      ]

  frame_own : 1 + frame_of kept_place ≤ frame_of c + frame_of k + cond (needs_frame c) 1 0
  frame_own =
      elim (ℕ_discrete c 4) [
        | yes p ↦ rw p (omega arith)
        | no p ↦ elim (ℕ_discrete c 5) [
          | yes q ↦ rw q (omega arith)
          | no q ↦ elim (ℕ_discrete c 0) [
            | yes r ↦ rw r (omega arith)
            | no r ↦ rw (ne_eqb c 4 p, ne_eqb c 5 q, ne_eqb c 0 r) (omega arith)
          ]
        ]
      ]

-- ---- entries

module _ (e : Entry) (form : state_form e.state ≡ true) where
  start : (d : ℕ) → Safe e d e
  start d = record { back = refl; form = form; frames = omega arith }

  kept_low : (none : Bool) → cond none (kept e) (number e) < 3
  kept_low true = (form_facts e.state form).kept_code
  kept_low false = checkpoint_low (current e)

  -- the kept value of a Shared-CK is free
  kept_safe : eqb (number e) 0 ≡ false → (d : ℕ) → Safe e d (changed (kept_to e.value) e)
  kept_safe h d = record { back = kept_free (number e) (kept e) e.value e.kept_value e.value h; form = form; frames = omega arith }

  -- the current value beside no Shared-CK is free
  value_safe : eqb (number e) 0 ≡ true → (x d : ℕ) → Safe e d (changed (value_to x) e)
  value_safe h x d = record { back = value_free (number e) (kept e) e.value x e.kept_value h; form = form; frames = omega arith }

  -- once the copy was kept it is the same copy, whatever then stands in the current place
  away_safe :
      (none : Bool) → eqb (number e) 0 ≡ none → (c x d : ℕ) → c < 4
      → frame_of c + frame_of (cond none (kept e) (number e)) ≤ frames_in e.state + d → Safe e d (away_by none e c x)
  away_safe none h c x d hc l =
      let k : ℕ = cond none (kept e) (number e) in
      let lk : k < 3 = kept_low none in
      let cs : current_of (state_word c k) ≡ c = current_state c k (omega arith) (omega arith) in
      let ks : kept_of (state_word c k) ≡ k = kept_state c k (omega arith) (omega arith) in
      record {
        back = ap₂ (λ i j. back_by i j x (cond none e.kept_value e.value)) (ap checkpoint_of cs ∙ checkpoint_none c hc) ks
            ∙ rw h at (back_moved (number e) (kept e) e.value x e.kept_value);
        form = low_form_lem c k hc lk;
        frames = rw (frames_state c k (omega arith) (omega arith)) l;
      }

  -- an Invalid entry is what "other writes" would make of it
  invalid_stays : eqb (number e) 0 ≡ true → current e ≡ 0 → e ≡ away_by true e invalid e.value
  invalid_stays h z =
      let f = form_facts e.state form in
      let s = state_parts e.state f.rest (omega arith) ∙ ap (λ c. state_word c (kept e)) z in
      λ i. record { state = s i; value = e.value; kept_value = e.kept_value }

  -- the frames of an entry whose copy was kept, and of one that is then Modified
  frames_kept :
      (none : Bool) → eqb (number e) 0 ≡ none → (d : ℕ) → frame_of invalid + frame_of (cond none (kept e) (number e)) ≤ frames_in e.state + d
  unfolding frames_in
  frames_kept none h d = let l = rw h at (frame_kept (current e) (kept e)) in omega arith

  frames_own :
      (none : Bool) → eqb (number e) 0 ≡ none → frame_of modified + frame_of (cond none (kept e) (number e)) ≤ frames_in e.state + extra e
  unfolding frames_in
  frames_own none h = rw h at (frame_own (current e) (kept e))

  -- ---- another node's entry
  pub other_steps : current e < precommit1 → Steps (Safe e 0) (λ e'. e' ≡ away e invalid e.value) e (other_change e)
  unfolding change_to kept_after
  other_steps l = rw (other_writes (current e) l) (go (eqb (number e) 0) refl (eqb invalid (current e)) refl)
    where
      go : (none : Bool) → eqb (number e) 0 ≡ none → (q : Bool) → eqb invalid (current e) ≡ q
          → Steps (Safe e 0) (λ e'. e' ≡ away_by none e invalid e.value) e (change_to (cond none invalid keep) e)
      go true h true q = rw q (last (start 0) (invalid_stays h (sym (eqb-true invalid (current e) q))))
      go true h false q = rw q (next (start 0) (last (away_safe true h invalid e.value 0 (omega arith) (frames_kept true h 0)) refl))
      go false h q r =
          next (start 0) (next (kept_safe h 0) (last (away_safe false h invalid e.value 0 (omega arith) (frames_kept false h 0)) refl))

  -- ---- the writer's own entry
  pub own_steps : (x : ℕ) → Steps (Safe e (extra e)) (λ e'. e' ≡ away e modified x) e (own_changes e x)
  unfolding own_keep kept_after own_changes
  own_steps x = go (eqb (number e) 0) refl
    where
      go : (none : Bool) → eqb (number e) 0 ≡ none → Steps (Safe e (extra e)) (λ e'. e' ≡ away e modified x) e (own_changes e x)
      go true h = rw h (next (start _) (next (value_safe h x _) (last (away_safe true h modified x _ (omega arith) (frames_own true h)) refl)))
      go false h =
          rw h
          (next (start _) (next (kept_safe h _)
          (next (away_safe false h invalid e.value _ (omega arith) (frames_kept false h _))
          (next (away_safe false h invalid x _ (omega arith) (frames_kept false h _))
          (last (away_safe false h modified x _ (omega arith) (frames_own false h)) refl)))))
