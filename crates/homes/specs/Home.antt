-- "Home of a copy leaving node n: the first live node after n, cyclically, n excluded, that fits."
use Rattle.std.specs.Prelude.{ℕ, Bool, cond, ◌&&◌, ◌||◌, List, [], ◌∷◌, ◌++◌, map, eqb, ltb, Option, Some, None}
use Rattle.table.specs.declared.geometry.Geometry.{Geometry}
use Rattle.table.specs.Words.{kept_of, invalid, shared}
use Rattle.table.specs.Stores.{Store, Change, entry_store, state_to, value_to, kept_to}
use Rattle.table.specs.View.{Entry, View, current, kept, live}
use Rattle.counting.specs.Counting.{first}
use Rattle.counting.specs.Cyclic.{first_after}
use Rattle.entries.specs.Frames.{frame_free}
use Rattle.homes.specs.declared.places.Place.{Place}
use Rattle.homes.specs.declared.places.Place.TheVariants.{Current, Kept}
use Rattle.homes.specs.declared.home.Dropped.{Dropped}
use Rattle.homes.specs.declared.home.Arrival.{Arrival}
use Rattle.homes.specs.Places.{shared_in}

-- ---- which node fits

unfoldable pub shared_at : View → ℕ → ℕ → Bool
shared_at v h b = eqb (current (v.entry h b)) shared

-- the lowest-numbered item of which node h has a Shared copy; M if there is none
unfoldable pub shared_item : Geometry → View → ℕ → ℕ
shared_item g v h = first (shared_at v h) g.items

-- "it has used < F or drops its Shared copy of the lowest-numbered item": a frame in the set of the item b whose copy is to come
unfoldable pub has_room : Geometry → View → ℕ → ℕ → Bool
has_room g v h b = frame_free g v h b || ltb (shared_item g v h) g.items

-- "For a current copy its current place of that item is Shared (taken over, state word only) or Invalid; for a kept copy its kept place
-- is Invalid. Save for the takeover, it has used < F or drops .."
unfoldable pub place_fits : Geometry → View → Place → ℕ → ℕ → Bool
place_fits g v Current b h = eqb (current (v.entry h b)) shared || (eqb (current (v.entry h b)) invalid && has_room g v h b)
place_fits g v Kept b h = eqb (kept (v.entry h b)) invalid && has_room g v h b

unfoldable pub fits : Geometry → View → Place → ℕ → ℕ → Bool
fits g v place b h = live v h && place_fits g v place b h

-- ---- the first that fits

-- "the first live node after n, cyclically, n excluded, that fits"; n itself if there is none, or if n is no node
unfoldable pub home_of : Geometry → View → Place → ℕ → ℕ → ℕ
home_of g v place n b = first_after (fits g v place b) g.nodes n

-- "11 no home"
abbrev pub no_home : Geometry → View → Place → ℕ → ℕ → Bool
no_home g v place n b = eqb (home_of g v place n b) n

-- ---- what a home makes of a copy that comes

-- the item whose Shared copy home h drops for a copy of item b; M if it has a frame
unfoldable pub dropped_item : Geometry → View → ℕ → ℕ → ℕ
dropped_item g v h b = cond (frame_free g v h b) g.items (shared_item g v h)

-- the home's current place of item b from then on: the copy dropped for a kept copy may be the same item's
unfoldable pub current_left : ℕ → ℕ → ℕ → ℕ
current_left place dropped b = cond (eqb dropped b) invalid place

-- only a current copy is ever taken over
abbrev pub taken_over : Place → Entry → Bool
taken_over place e = shared_in place e.state

-- the copy of item d, which home h drops; none at M
abbrev pub drop_at : Geometry → View → ℕ → ℕ → Option Dropped
drop_at g v h d = cond (ltb d g.items) (Some (record { item = d; state = (v.entry h d).state })) None

unfoldable pub arrival_of : Geometry → View → Place → ℕ → ℕ → Arrival
arrival_of g v place h b = record {
  takeover = taken_over place (v.entry h b);
  drop = drop_at g v h (dropped_item g v h b);
  current = current_left (current (v.entry h b)) (dropped_item g v h b) b;
  kept = kept (v.entry h b);
}

-- ---- the home's stores

-- "drops its Shared copy of the lowest-numbered item (one store, first)"
abbrev pub drop_by : ℕ → Option Dropped → List Store
drop_by h (Some d) = entry_store h d.item (state_to invalid (kept_of d.state)) ∷ []
drop_by h None = []

unfoldable pub drop_stores : ℕ → Arrival → List Store
drop_stores h a = drop_by h a.drop

-- "then value, state"
unfoldable pub arrival_changes : Place → ℕ → ℕ → Arrival → List Change
arrival_changes Current code value a = value_to value ∷ state_to code a.kept ∷ []
arrival_changes Kept code value a = kept_to value ∷ state_to a.current code ∷ []

-- "taken over, state word only"
abbrev pub takeover_stores : ℕ → ℕ → ℕ → Arrival → List Store
takeover_stores h b code a = entry_store h b (state_to code a.kept) ∷ []

unfoldable pub home_stores_by : Place → ℕ → ℕ → ℕ → ℕ → Arrival → List Store
home_stores_by place h b code value a =
    cond a.takeover (takeover_stores h b code a) (drop_stores h a ++ map (entry_store h b) (arrival_changes place code value a))

-- a copy of item b with this state code and value comes to this place of home h
unfoldable pub home_stores : Geometry → View → Place → ℕ → ℕ → ℕ → ℕ → List Store
home_stores g v place h b code value = home_stores_by place h b code value (arrival_of g v place h b)
