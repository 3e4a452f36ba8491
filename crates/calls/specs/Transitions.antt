-- What an event stores in an entry, by the state table.
use Rattle.std.specs.Prelude.{ℕ, cond, List, [], ◌∷◌, eqb}
use Rattle.table.specs.declared.changes.Event.{Event}
use Rattle.table.specs.Words.{invalid}
use Rattle.table.specs.Changes.{change_of, checkpoint_of, keep}
use Rattle.table.specs.Stores.{Change, state_to, kept_to}
use Rattle.table.specs.View.{Entry, current, kept}

-- a Shared-CK copy of this number and value moves to the kept place as the Inv-CK of its number
abbrev pub keep_copy : ℕ → ℕ → List Change
keep_copy number value = kept_to value ∷ state_to invalid number ∷ []

-- an entry whose current place becomes `next`
unfoldable pub change_to : ℕ → Entry → List Change
change_to next e = cond (eqb next keep) (keep_copy (checkpoint_of (current e)) e.value) (cond (eqb next (current e)) [] (state_to next (kept e) ∷ []))

-- "Current place of a copy, by event"
abbrev pub change_by : Event → Entry → List Change
change_by event e = change_to (change_of (current e) event) e
