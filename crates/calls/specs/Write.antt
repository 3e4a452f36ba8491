-- Write: "other live nodes ascending, changed as 'other writes' (state; a keep stores kept value, then state). Then the writer; a
-- Shared-CK first stores kept value, then state with current Invalid. Last, current value, state Modified."
use Rattle.std.specs.Prelude.{ℕ, Bool, cond, ◌||◌, List, [], ◌∷◌, ◌++◌, map, eqb}
use Rattle.table.specs.declared.geometry.Geometry.{Geometry}
use Rattle.table.specs.declared.changes.Event.TheVariants.{OtherWrites}
use Rattle.table.specs.Words.{current_of, kept_of, modified}
use Rattle.table.specs.Changes.{checkpoint_of}
use Rattle.table.specs.Stores.{Store, Change, entry_store, state_to, value_to}
use Rattle.table.specs.View.{Entry, View, current, pass}
use Rattle.table.specs.Answers.{Plan, carry}
use Rattle.homes.specs.Admission.{Admission, admission_of, frame_admission, plan_by}
use Rattle.calls.specs.Transitions.{keep_copy, change_by}

-- ---- the stores

abbrev pub other_change : Entry → List Change
other_change e = change_by OtherWrites e

-- node k while another writes item b: the writer and dead nodes are passed over
unfoldable pub other_changes : View → ℕ → ℕ → ℕ → List Change
other_changes v writer b k = cond (eqb k writer || eqb (v.mark k) 0) [] (other_change (v.entry k b))

-- "other live nodes ascending": place k of the pass is node k, item b
unfoldable pub other_stores : Geometry → View → ℕ → ℕ → List Store
other_stores g v writer b = pass (λ k. k) (λ k. b) (other_changes v writer b) g.nodes

-- the writer's own entry, by its state word and value: "a Shared-CK first stores kept value, then state with current Invalid"
unfoldable pub own_keep : ℕ → ℕ → List Change
own_keep w value = cond (eqb (checkpoint_of (current_of w)) 0) [] (keep_copy (checkpoint_of (current_of w)) value)

-- its kept place from then on
unfoldable pub kept_after : ℕ → ℕ
kept_after w = cond (eqb (checkpoint_of (current_of w)) 0) (kept_of w) (checkpoint_of (current_of w))

-- "Last, current value, state Modified."
unfoldable pub own_changes : Entry → ℕ → List Change
own_changes e x = (own_keep e.state e.value ++ (value_to x ∷ [])) ++ (state_to modified (kept_after e.state) ∷ [])

unfoldable pub write_stores : Geometry → View → ℕ → ℕ → ℕ → List Store
write_stores g v n b x = other_stores g v n b ++ map (entry_store n b) (own_changes (v.entry n b) x)

-- ---- the refusals

-- "It needs a frame if its current place was Invalid or Shared-CK."
abbrev pub needs_frame : ℕ → Bool
needs_frame c = eqb c 0 || (eqb c 4 || eqb c 5)

-- "9 frame needed and none free"
abbrev pub write_needs : View → ℕ → ℕ → Bool
write_needs v n b = needs_frame (current (v.entry n b))

abbrev pub write_admission : Geometry → View → ℕ → ℕ → Admission
write_admission g v n b = frame_admission g v n b (write_needs v n b) (admission_of g v n b)

-- ---- the plan

abbrev pub write_of : List ℕ → ℕ → ℕ → ℕ → Plan
write_of t n b x = plan_by (λ g v. write_admission g v n b) (λ g v. carry g 0 (write_stores g v n b x)) t
