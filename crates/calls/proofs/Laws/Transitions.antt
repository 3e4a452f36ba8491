-- The laws of `specs/Transitions.antt`.
use Prim.Native.Nat.{ℕ}
use mathlib.Core.Path.{◌≡◌}
use mathlib.Core.List.{[], ◌∷◌}
use borrow.Author.Tests.{eq-eqb, ne_eqb}
use Rattle.table.specs.declared.changes.Event.{Event}
use Rattle.table.specs.Words.{current_of, kept_of}
use Rattle.table.specs.Changes.{change_of, checkpoint_of, keep}
use Rattle.table.specs.Stores.{state_to}
use Rattle.table.specs.View.{Entry}
use Rattle.calls.specs.Transitions.{keep_copy, change_to, change_by}

-- ---- the ways of the code: kept, as it was, or changed

module _ (e : Entry) (event : Event) {state now next : ℕ} (s : state ≡ e.state) (c : now ≡ current_of state) (h : next ≡ change_of now event) where
  pub by_keep :
      {value number : ℕ} → next ≡ keep → value ≡ e.value → number ≡ checkpoint_of now → change_by event e ≡ keep_copy number value
  unfolding change_to
  by_keep k p q = rw (← s, ← c, ← h, eq-eqb next keep k, p, q)

  pub by_none : (next ≡ keep → ⊥) → next ≡ now → change_by event e ≡ []
  unfolding change_to
  by_none k p = rw (← s, ← c, ← h, ne_eqb next keep k, eq-eqb next now p)

  pub by_state : {k : ℕ} → (next ≡ keep → ⊥) → (next ≡ now → ⊥) → k ≡ kept_of state → change_by event e ≡ state_to next k ∷ []
  unfolding change_to
  by_state k p q = rw (← s, ← c, ← h, ne_eqb next keep k, ne_eqb next now p, q)
