-- Create: "the lowest dirty item not yet created. Its owner turns Precommit1. The lowest-numbered node with a Shared copy turns
-- Precommit2, else a home takes it. Answer 17, no stores, if none is left."
use Rattle.std.specs.Prelude.{ℕ, Bool, cond, not, ◌&&◌, List, [], ◌∷◌, eqb, ltb}
use Rattle.table.specs.declared.geometry.Geometry.{Geometry}
use Rattle.table.specs.declared.answers.Refusal.TheVariants.{NoHome}
use Rattle.table.specs.Words.{shared, precommit1, precommit2}
use Rattle.table.specs.Stores.{Store, entry_store, state_to}
use Rattle.table.specs.View.{View, current, kept, live}
use Rattle.table.specs.Answers.{Plan, refuse, nothing_left, carry}
use Rattle.counting.specs.Counting.{first}
use Rattle.homes.specs.declared.places.Place.TheVariants.{Current}
use Rattle.entries.specs.Dirty.{owner_of, dirty_item, none_dirty}
use Rattle.checkpoints.specs.Checkpoint.{open_admission}
use Rattle.homes.specs.Home.{home_of, no_home, home_stores}
use Rattle.homes.specs.Admission.{plan_by}

-- ---- the partner

-- a live node with a Shared copy of item b
unfoldable pub shares_at : View → ℕ → ℕ → Bool
shares_at v b k = live v k && eqb (current (v.entry k b)) shared

-- "the lowest-numbered node with a Shared copy" of item b; N if there is none
unfoldable pub sharer_of : Geometry → View → ℕ → ℕ
sharer_of g v b = first (shares_at v b) g.nodes

abbrev pub has_sharer : Geometry → View → ℕ → Bool
has_sharer g v b = ltb (sharer_of g v b) g.nodes

-- ---- the stores

-- node n's copy of item b turns `code`, its kept place stays
abbrev pub turn : View → ℕ → ℕ → ℕ → Store
turn v n b code = entry_store n b (state_to code (kept (v.entry n b)))

-- "turns Precommit2, else a home takes it"
unfoldable pub precommit2_stores : Geometry → View → ℕ → ℕ → List Store
precommit2_stores g v b o =
    cond (has_sharer g v b) (turn v (sharer_of g v b) b precommit2 ∷ [])
    (home_stores g v Current (home_of g v Current o b) b precommit2 (v.entry o b).value)

-- "Its owner turns Precommit1."
unfoldable pub create_item : Geometry → View → ℕ → ℕ → List Store
create_item g v b o = turn v o b precommit1 ∷ precommit2_stores g v b o

abbrev pub create_stores : Geometry → View → List Store
create_stores g v = create_item g v (dirty_item g v) (owner_of g v (dirty_item g v))

-- ---- the refusals

-- "11" no home, where the item needs one
unfoldable pub no_partner : Geometry → View → ℕ → Bool
no_partner g v b = not (has_sharer g v b) && no_home g v Current (owner_of g v b) b

-- ---- the plan

-- "Answer 17, no stores, if none is left."
unfoldable pub create_plan : Geometry → View → Plan
create_plan g v =
    cond (none_dirty g v) nothing_left
    (cond (no_partner g v (dirty_item g v)) (refuse NoHome)
    (carry g 0 (create_stores g v)))

abbrev pub create_of : List ℕ → Plan
create_of t = plan_by open_admission create_plan t
