-- Read: "nothing if the node's current place is not Invalid. Else a Modified owner turns Owner (state); then the reader's value, state
-- Shared. Server: Shared-CK1, Owner or Modified."
use Rattle.std.specs.Prelude.{ℕ, Bool, cond, ◌&&◌, ◌||◌, List, [], ◌∷◌, ◌++◌, map, eqb}
use Rattle.counting.specs.Counting.{first}
use Rattle.table.specs.declared.geometry.Geometry.{Geometry}
use Rattle.table.specs.declared.changes.Event.TheVariants.{OtherReads}
use Rattle.table.specs.Words.{invalid, shared, owner, modified, shared_ck1}
use Rattle.table.specs.Stores.{Store, Change, entry_store, state_to, value_to}
use Rattle.table.specs.View.{Entry, View, current, kept, live}
use Rattle.table.specs.Answers.{Plan, carry}
use Rattle.homes.specs.Admission.{Admission, admission_of, frame_admission, plan_by}
use Rattle.calls.specs.Transitions.{change_by}

-- "nothing if the node's current place is not Invalid": such a place is read where it is
abbrev pub fetches : Entry → Bool
fetches e = eqb (current e) invalid

-- ---- the server

-- "Server: Shared-CK1, Owner or Modified."
abbrev pub serves : ℕ → Bool
serves c = eqb c shared_ck1 || (eqb c owner || eqb c modified)

-- whether node k serves item b
unfoldable pub serves_at : View → ℕ → ℕ → Bool
serves_at v b k = live v k && serves (current (v.entry k b))

-- the live node that serves item b: a sound table has just one
unfoldable pub server_of : Geometry → View → ℕ → ℕ
server_of g v b = first (serves_at v b) g.nodes

abbrev pub served : Geometry → View → ℕ → Entry
served g v b = v.entry (server_of g v b) b

-- ---- the stores

-- "a Modified owner turns Owner (state)"
abbrev pub server_changes : Entry → List Change
server_changes e = change_by OtherReads e

-- "then the reader's value, state Shared"
abbrev pub reader_changes : Entry → ℕ → List Change
reader_changes e value = value_to value ∷ state_to shared (kept e) ∷ []

-- node n gets this value of item b from a server
unfoldable pub fetch_from : View → ℕ → ℕ → ℕ → ℕ → List Store
fetch_from v server n b value =
    map (entry_store server b) (server_changes (v.entry server b)) ++ map (entry_store n b) (reader_changes (v.entry n b) value)

abbrev pub fetch_stores : Geometry → View → ℕ → ℕ → List Store
fetch_stores g v n b = fetch_from v (server_of g v b) n b (served g v b).value

unfoldable pub read_stores : Geometry → View → ℕ → ℕ → List Store
read_stores g v n b = cond (fetches (v.entry n b)) (fetch_stores g v n b) []

-- "Its value is 0 except in Read."
unfoldable pub read_value : Geometry → View → ℕ → ℕ → ℕ
read_value g v n b = cond (fetches (v.entry n b)) (served g v b).value (v.entry n b).value

-- ---- the refusals

-- "9 frame needed and none free": needed if its current place is Invalid; nothing is dropped for it
abbrev pub read_admission : Geometry → View → ℕ → ℕ → Admission
read_admission g v n b = frame_admission g v n b (fetches (v.entry n b)) (admission_of g v n b)

-- ---- the plan

abbrev pub read_of : List ℕ → ℕ → ℕ → Plan
read_of t n b = plan_by (λ g v. read_admission g v n b) (λ g v. carry g (read_value g v n b) (read_stores g v n b)) t
