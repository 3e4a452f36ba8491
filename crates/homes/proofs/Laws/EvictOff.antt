-- Evict stores nothing at word 0.
use Rattle.std.specs.Prelude.{Option, Some, None}
use Prim.Native.Nat.{ℕ}
use mathlib.Core.Bool.{Bool, true, false, cond}
use mathlib.Core.List.{[], ◌∷◌, ◌++◌, map}
use Rattle.table.specs.declared.geometry.Geometry.{Geometry}
use Rattle.table.specs.Words.{kept_of, invalid}
use Rattle.table.specs.Stores.{entry_store, state_to}
use Rattle.table.proofs.Laws.Stores.{All, none, all_then}
use Rattle.table.specs.View.{View}
use Rattle.homes.specs.declared.places.Place.{Place}
use Rattle.homes.specs.declared.home.Dropped.{Dropped}
use Rattle.homes.specs.declared.home.Arrival.{Arrival}
use Rattle.homes.specs.Home.{drop_by, drop_stores, arrival_changes, home_stores_by, home_stores}
use Rattle.homes.specs.Evict.{dropped, source_stores, state_left, moved_to, moved_stores, evict_stores}
use Rattle.homes.proofs.Laws.SoundKept.{Off, entry_off}

pub home_off : (g : Geometry) (place : Place) (h b code value : ℕ) (a : Arrival) → All (Off g) (home_stores_by place h b code value a)
unfolding home_stores_by drop_stores
home_off g place h b code value a = go a.takeover a.drop
  where
    go : (q : Bool) (r : Option Dropped) → All (Off g) (cond q (entry_store h b (state_to code a.kept) ∷ [])
        (drop_by h r ++ map (entry_store h b) (arrival_changes place code value a)))
    go true r = entry_off g h b (state_to code a.kept ∷ [])
    go false (Some d) =
        all_then (entry_off g h d.item (state_to invalid (kept_of d.state) ∷ [])) (entry_off g h b (arrival_changes place code value a))
    go false None = entry_off g h b (arrival_changes place code value a)

pub evict_off : (g : Geometry) (v : View) (place : Place) (n b : ℕ) → All (Off g) (evict_stores g v place n b)
unfolding evict_stores moved_to home_stores source_stores
evict_off g v place n b = all_then (go (dropped place (v.entry n b))) (entry_off g n b (state_left place (v.entry n b).state ∷ []))
  where
    go : (q : Bool) → All (Off g) (cond q [] (moved_stores g v place n b))
    go true = none
    go false = home_off g place _ b _ _ _
