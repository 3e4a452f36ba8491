-- What the functions of Evict promise: which way a copy leaves.
use Rattle.std.specs.Prelude.{ℕ, Bool, cond, List, Result, Ok, Err}
use Rattle.table.specs.declared.geometry.Geometry.{Geometry}
use Rattle.table.specs.declared.answers.Refusal.{Refusal}
use Rattle.table.specs.View.{View, view}
use Rattle.entries.specs.Check.{fault_of}
use Rattle.homes.specs.declared.places.Place.{Place}
use Rattle.homes.specs.declared.evict.Way.{Way}
use Rattle.homes.specs.declared.evict.Way.TheVariants.{Drops, Goes}
use Rattle.homes.specs.Admission.{Admission, admission_of}
use Rattle.homes.specs.Home.{home_of}
use Rattle.homes.specs.Evict.{dropped, place_admission}

-- ---- which way the copy leaves

-- admission, and then whether the copy is dropped or where it goes
unfoldable pub way_by : Bool → ℕ → Admission → Result Way Refusal
way_by drops home (Err x) = Err x
way_by drops home (Ok _) = Ok (cond drops Drops (Goes home))

abbrev pub way_from : Geometry → View → Place → ℕ → ℕ → Admission → Result Way Refusal
way_from g v place n b a = way_by (dropped place (v.entry n b)) (home_of g v place n b) (place_admission g v place n b a)

unfoldable pub way_of : Geometry → View → Place → ℕ → ℕ → Result Way Refusal
way_of g v place n b = way_from g v place n b (admission_of g v n b)

-- of a node and an item that are admitted
unfoldable pub way_admitted : Geometry → View → Place → ℕ → ℕ → Result Way Refusal
way_admitted g v place n b = way_from g v place n b (Ok tt)

-- ---- the table checks, then the refusals of Evict: the geometry, and which way the copy leaves

unfoldable pub evict_way : Geometry → Result Way Refusal → Result (Geometry × Way) Refusal
evict_way g (Err x) = Err x
evict_way g (Ok way) = Ok (g, way)

unfoldable pub evict_checked : List ℕ → ℕ → ℕ → Place → Result Geometry Refusal → Result (Geometry × Way) Refusal
evict_checked t n b place (Err x) = Err x
evict_checked t n b place (Ok g) = evict_way g (way_of g (view g t) place n b)

unfoldable pub evict_ready : List ℕ → Place → ℕ → ℕ → Result (Geometry × Way) Refusal
evict_ready t place n b = evict_checked t n b place (fault_of t)
