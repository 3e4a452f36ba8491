-- What the functions of Create promise: the plan of one item, and its stores.
use Rattle.std.specs.Prelude.{ℕ, cond, List, [], ◌∷◌, Result, Ok, Err}
use Rattle.table.specs.declared.geometry.Geometry.{Geometry}
use Rattle.table.specs.declared.answers.Refusal.{Refusal}
use Rattle.table.specs.declared.answers.Refusal.TheVariants.{NoHome}
use Rattle.entries.specs.declared.check.Surveyed.{Surveyed}
use Rattle.entries.specs.Check.{surveyed_of}
use Rattle.homes.specs.Admission.{Admission}
use Rattle.table.specs.Words.{precommit1, precommit2}
use Rattle.table.specs.Stores.{Store}
use Rattle.table.specs.View.{View, view}
use Rattle.table.specs.Answers.{Plan, refuse, carry}
use Rattle.homes.specs.declared.places.Place.TheVariants.{Current}
use Rattle.entries.specs.Dirty.{owner_of}
use Rattle.homes.specs.Home.{home_stores}
use Rattle.checkpoints.specs.Checkpoint.{open_admission}
use Rattle.checkpoints.specs.Create.{turn, create_item, no_partner}

-- ---- the table checks, then the refusals of Create but that of a home

abbrev pub opened_by : Surveyed → Admission → Result Surveyed Refusal
opened_by s (Err x) = Err x
opened_by s (Ok _) = Ok s

abbrev pub opened_checked : List ℕ → Result Surveyed Refusal → Result Surveyed Refusal
opened_checked t (Err x) = Err x
opened_checked t (Ok s) = opened_by s (open_admission s.g (view s.g t))

unfoldable pub create_ready : List ℕ → Result Surveyed Refusal
create_ready t = opened_checked t (surveyed_of t)

-- ---- the item to be created

-- the plan of a dirty item
unfoldable pub item_plan : Geometry → View → ℕ → Plan
item_plan g v b = cond (no_partner g v b) (refuse NoHome) (carry g 0 (create_item g v b (owner_of g v b)))

-- ---- its stores: the owner o, and a sharer s or a home h

unfoldable pub sharer_stores : View → ℕ → ℕ → ℕ → List Store
sharer_stores v b o s = turn v o b precommit1 ∷ turn v s b precommit2 ∷ []

unfoldable pub taken_stores : Geometry → View → ℕ → ℕ → ℕ → List Store
taken_stores g v b o h = turn v o b precommit1 ∷ home_stores g v Current h b precommit2 (v.entry o b).value
