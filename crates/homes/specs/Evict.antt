-- Evict, current or kept place: "a Shared copy is dropped (state). Any other goes home, then the source's state."
use Rattle.std.specs.Prelude.{ℕ, Bool, cond, List, [], ◌∷◌, ◌++◌, eqb, Err, Ok}
use Rattle.table.specs.declared.geometry.Geometry.{Geometry}
use Rattle.table.specs.declared.answers.Refusal.TheVariants.{PlaceInvalid, NoHome}
use Rattle.table.specs.Words.{current_of, kept_of, invalid}
use Rattle.table.specs.Stores.{Store, Change, entry_store, state_to}
use Rattle.table.specs.View.{Entry, View}
use Rattle.table.specs.Answers.{Plan, carry}
use Rattle.homes.specs.declared.places.Place.{Place}
use Rattle.homes.specs.declared.places.Place.TheVariants.{Current, Kept}
use Rattle.homes.specs.Admission.{Admission, admission_of, plan_by}
use Rattle.homes.specs.Places.{code_in, shared_in, value_in}
use Rattle.homes.specs.Home.{home_of, no_home, home_stores}

-- ---- the stores

-- "a Shared copy is dropped"
abbrev pub dropped : Place → Entry → Bool
dropped place e = shared_in place e.state

-- "the source's state": the place left is Invalid, the other stays
abbrev pub state_left : Place → ℕ → Change
state_left Current w = state_to invalid (kept_of w)
state_left Kept w = state_to (current_of w) invalid

unfoldable pub source_stores : Place → ℕ → ℕ → ℕ → List Store
source_stores place n b w = entry_store n b (state_left place w) ∷ []

-- "Any other goes home": from node n to node h
unfoldable pub moved_to : Geometry → View → Place → ℕ → ℕ → ℕ → List Store
moved_to g v place n b h = home_stores g v place h b (code_in place (v.entry n b)) (value_in place (v.entry n b))

abbrev pub moved_stores : Geometry → View → Place → ℕ → ℕ → List Store
moved_stores g v place n b = moved_to g v place n b (home_of g v place n b)

unfoldable pub evict_stores : Geometry → View → Place → ℕ → ℕ → List Store
evict_stores g v place n b =
    cond (dropped place (v.entry n b)) [] (moved_stores g v place n b) ++ source_stores place n b (v.entry n b).state

-- ---- the refusals

-- "10 place Invalid; 11 no home": a Shared copy needs none
unfoldable pub place_admission : Geometry → View → Place → ℕ → ℕ → Admission → Admission
place_admission g v place n b (Err x) = Err x
place_admission g v place n b (Ok _) =
    cond (eqb (code_in place (v.entry n b)) invalid) (Err PlaceInvalid)
    (cond (dropped place (v.entry n b)) (Ok tt)
    (cond (no_home g v place n b) (Err NoHome)
    (Ok tt)))

abbrev pub evict_admission : Geometry → View → Place → ℕ → ℕ → Admission
evict_admission g v place n b = place_admission g v place n b (admission_of g v n b)

-- ---- the plan

abbrev pub evict_of : List ℕ → ℕ → ℕ → Place → Plan
evict_of t n b place = plan_by (λ g v. evict_admission g v place n b) (λ g v. carry g 0 (evict_stores g v place n b)) t
