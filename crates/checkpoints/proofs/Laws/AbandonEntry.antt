-- One entry under Abandon: its recovery copy is the same, its state word keeps its form, and it uses no more frames.
use Prim.Native.Nat.{ℕ, ◌<◌}
use mathlib.Core.Path.{◌≡◌, refl, ap, ap₂, ◌∙◌}
use mathlib.Core.Bool.{Bool, true, false, cond, not, ◌&&◌, ◌||◌}
use native.Mathlib.Omega.{arith}
use lib.Dec.{eqb, ltb}
use borrow.Author.Tests.{eqb-true, ltb-true}
use Rattle.counting.proofs.Laws.Tests.{both, given}
use Rattle.counting.specs.Counting.{every}
use Rattle.counting.proofs.Laws.Counting.{every_at}
use Rattle.table.specs.declared.changes.Event.TheVariants.{Abandon}
use Rattle.table.specs.Words.{state_word, current_of, kept_of, state_form}
use Rattle.table.proofs.Laws.Words.{current_state, kept_state}
use Rattle.table.proofs.Laws.Forms.{form_facts, low_form_lem}
use Rattle.table.specs.Changes.{change_of, checkpoint_of}
use Rattle.table.specs.View.{Entry, current, kept}
use Rattle.table.proofs.Laws.Pass.{Steps, last, next}
use Rattle.table.specs.Copies.{back_by}
use Rattle.entries.specs.Frames.{frame_of, frames_in}
use Rattle.entries.proofs.Laws.Frames.{frames_state}
use Rattle.checkpoints.specs.Checkpoint.{is_precommit, abandon_change}
use Rattle.homes.proofs.Laws.Safe.{Safe}

-- what Abandon leaves of an entry
abbrev pub abandoned_by : Bool → Entry → Entry
abandoned_by q e = record { state = cond q (state_word (change_of (current e) Abandon) (kept e)) e.state; value = e.value; kept_value = e.kept_value }

abbrev pub abandoned : Entry → Entry
abandoned e = abandoned_by (is_precommit (current e)) e

-- a Precommit becomes Owner or Shared: no Shared-CK before, none after, and its frame stays
abandon_rule : ℕ → Bool
abandon_rule c =
    not (is_precommit c)
    || (ltb (change_of c Abandon) 4
    && (eqb (checkpoint_of (change_of c Abandon)) (checkpoint_of c) && eqb (frame_of (change_of c Abandon)) (frame_of c)))

record Abandons (c : ℕ) : Type 0 where
  low : change_of c Abandon < 4
  number : checkpoint_of (change_of c Abandon) ≡ checkpoint_of c
  frame : frame_of (change_of c Abandon) ≡ frame_of c

abandons : (c : ℕ) → c < 8 → is_precommit c ≡ true → Abandons c
unfolding abandon_rule change_of every
abandons c h q =
    let r = given (is_precommit c) (every_at 8 abandon_rule refl c h) q in
    let r₁ = both (ltb (change_of c Abandon) 4) r in
    let r₂ = both (eqb (checkpoint_of (change_of c Abandon)) (checkpoint_of c)) r₁.1 in
    record { low = ltb-true _ 4 r₁.0; number = eqb-true _ _ r₂.0; frame = eqb-true _ _ r₂.1 }

module _ (e : Entry) (form : state_form e.state ≡ true) where
  abandon_safe : is_precommit (current e) ≡ true → Safe e 0 (abandoned_by true e)
  unfolding frames_in
  abandon_safe q =
      let f = form_facts e.state form in
      let r = abandons (current e) f.code q in
      let c : ℕ = change_of (current e) Abandon in
      let lc : c < 4 = r.low in
      let lk : kept e < 3 = f.kept_code in
      let cs : current_of (state_word c (kept e)) ≡ c = current_state c (kept e) (omega arith) (omega arith) in
      let ks : kept_of (state_word c (kept e)) ≡ kept e = kept_state c (kept e) (omega arith) (omega arith) in
      let fr = frames_state c (kept e) (omega arith) (omega arith) in
      let fc : frame_of c ≡ frame_of (current e) = r.frame in
      record {
        back = ap₂ (λ i j. back_by i j e.value e.kept_value) (ap checkpoint_of cs ∙ r.number) ks;
        form = low_form_lem c (kept e) lc lk;
        frames = rw (fr, fc) (omega arith);
      }

  pub abandon_steps : Steps (Safe e 0) (λ e'. e' ≡ abandoned e) e (abandon_change e)
  unfolding abandon_change
  abandon_steps = go (is_precommit (current e)) refl
    where
      begin : Safe e 0 e
      begin = record { back = refl; form = form; frames = omega arith }

      go : (q : Bool) → is_precommit (current e) ≡ q → Steps (Safe e 0) (λ e'. e' ≡ abandoned e) e (abandon_change e)
      go true h = rw h (next begin (last (abandon_safe h) refl))
      go false h = rw h (last begin refl)
