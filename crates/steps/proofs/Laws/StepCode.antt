-- A law for each way of the code that decodes a record's two words.
use Rattle.std.specs.Prelude.{None, Option}
use Rattle.std.proofs.Common.{◌≡◌, ℕ, Bool, true, false, ◌&&◌, ◌||◌, eqb, ◌≢◌, refl, ◌∙◌, ne_eqb}
use Rattle.table.specs.Words.{size_form, nodes_of, items_of, frames_of}
use Rattle.restore.specs.Operations.{call_by}
use Rattle.steps.specs.Steps.{operation_of, node_of, item_of, place_of, rest_of, unused_zero, format_step, call_step, step_of}
use Rattle.restore.specs.declared.call.Call.{Call}

-- the fields that an operation does not use
module _ (o n b p x : ℕ) where
  pub unused_read : o ≡ 1 → (eqb p 0 && eqb x 0) ≡ unused_zero o n b p x
  unfolding unused_zero
  unused_read h = rw h refl

  pub unused_write : o ≡ 2 → eqb p 0 ≡ unused_zero o n b p x
  unfolding unused_zero
  unused_write h = rw h refl

  pub unused_evict : o ≡ 3 → eqb x 0 ≡ unused_zero o n b p x
  unfolding unused_zero
  unused_evict h = rw h refl

  pub unused_recover : o ≡ 8 → (eqb b 0 && (eqb x 0 && (eqb p 0 || eqb n 0))) ≡ unused_zero o n b p x
  unfolding unused_zero
  unused_recover h = rw h refl

  pub unused_all : o ≢ 1 → o ≢ 2 → o ≢ 3 → o ≢ 8
      → (eqb n 0 && (eqb b 0 && (eqb p 0 && eqb x 0))) ≡ unused_zero o n b p x
  unfolding unused_zero
  unused_all e₁ e₂ e₃ e₈ = rw (ne_eqb o 1 e₁, ne_eqb o 2 e₂, ne_eqb o 3 e₃, ne_eqb o 8 e₈) refl

-- a record that keeps the rule, and one that breaks it
module _ (f s : ℕ) where
  pub format_kept :
      {t : Bool} {n m k : ℕ} {r : Option Call} → t ≡ size_form f → (t && eqb s 0) ≡ true
      → n ≡ nodes_of f → m ≡ items_of f → k ≡ frames_of f
      → r ≡ call_by 0 n m k 0 → r ≡ format_step f s
  unfolding format_step
  format_kept ht h hn hm hk e = e ∙ rw (hn, hm, hk, ← ht, h) refl

  pub format_broken : {t : Bool} → t ≡ size_form f → (t && eqb s 0) ≡ false → None ≡ format_step f s
  unfolding format_step
  format_broken ht h = rw (← ht, h) refl

  module _
      {o n b p e : ℕ} {u : Bool} (ho : o ≡ operation_of f) (hn : n ≡ node_of f) (hb : b ≡ item_of f) (hp : p ≡ place_of f) (he : e ≡ rest_of f)
      (hu : u ≡ unused_zero o n b p s) where
    pub call_kept : {r : Option Call} → (eqb e 0 && u) ≡ true → r ≡ call_by o n b s p → r ≡ call_step f s
    unfolding call_step
    call_kept h k = k ∙ rw (← ho, ← hn, ← hb, ← hp, ← he, ← hu, h) refl

    pub call_broken : (eqb e 0 && u) ≡ false → None ≡ call_step f s
    unfolding call_step
    call_broken h = rw (← ho, ← hn, ← hb, ← hp, ← he, ← hu, h) refl

  pub step_format : {o : ℕ} {r : Option Call} → o ≡ operation_of f → o ≡ 0 → r ≡ format_step f s → r ≡ step_of f s
  unfolding step_of
  step_format h z e = rw (← h, z) e

  pub step_call : {o : ℕ} {r : Option Call} → o ≡ operation_of f → o ≢ 0 → r ≡ call_step f s → r ≡ step_of f s
  unfolding step_of
  step_call h z e = rw (← h, ne_eqb _ 0 z) e
