-- What Open, Create, Commit and Abandon have in common: the phase, the entries by node, then item.
use Rattle.homes.specs.Admission.{Admission}
use Rattle.std.specs.Prelude.{ℕ, ◌*◌, ◌/◌, ◌%◌, Bool, cond, ◌||◌, not, List, [], ◌∷◌, eqb, Err, Ok}
use Rattle.counting.specs.Counting.{first}
use Rattle.table.specs.declared.geometry.Geometry.{Geometry}
use Rattle.table.specs.declared.answers.Refusal.TheVariants.{NoCheckpoint}
use Rattle.table.specs.Words.{precommit1, precommit2, current_of, kept_of, phase_of, invalid}
use Rattle.table.specs.Stores.{Store, Change, state_to}
use Rattle.table.specs.View.{Entry, View, live, current, kept, pass}
use Rattle.table.specs.declared.changes.Event.TheVariants.{Commit, Abandon}
use Rattle.table.specs.Changes.{change_of}

-- ---- the phase

-- the mark of the lowest live node: "live marks agree in phase and number", so it is every live node's
unfoldable pub common_mark : Geometry → View → ℕ
common_mark g v = v.mark (first (live v) g.nodes)

-- "checkpoint open (phase 1)"
unfoldable pub is_open : Geometry → View → Bool
is_open g v = eqb (phase_of (common_mark g v)) 1

-- "8 no checkpoint open"
unfoldable pub open_admission : Geometry → View → Admission
open_admission g v = cond (is_open g v) (Ok tt) (Err NoCheckpoint)

-- ---- passes

abbrev pub is_precommit : ℕ → Bool
is_precommit c = eqb c precommit1 || eqb c precommit2

-- a live node's entry
unfoldable pub live_changes : (Entry → List Change) → View → ℕ → ℕ → List Change
live_changes change v n b = cond (live v n) (change (v.entry n b)) []

-- "entries by node, then item": place k of the pass is node k / M, item k % M; those of the nodes before n
unfoldable pub entries_before : Geometry → View → (Entry → List Change) → ℕ → List Store
entries_before g v change n =
    pass (λ k. k / g.items) (λ k. k % g.items) (λ k. live_changes change v (k / g.items) (k % g.items)) (n * g.items)

abbrev pub entries_to : Geometry → View → (Entry → List Change) → List Store
entries_to g v change = entries_before g v change g.nodes

-- ---- how an open checkpoint ends in an entry. Commit: "one state store where Precommit or Inv-CK stands". Abandon: "Precommit state words likewise".

-- "where Precommit or Inv-CK stands", by the state word
abbrev pub to_commit : ℕ → Bool
to_commit w = is_precommit (current_of w) || not (eqb (kept_of w) invalid)

-- "Commit and roll forward empty the kept place."
unfoldable pub commit_change : Entry → List Change
commit_change e = cond (to_commit e.state) (state_to (change_of (current e) Commit) invalid ∷ []) []

-- the kept place stays
unfoldable pub abandon_change : Entry → List Change
abandon_change e = cond (is_precommit (current e)) (state_to (change_of (current e) Abandon) (kept e) ∷ []) []
