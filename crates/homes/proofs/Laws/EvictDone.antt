-- What a whole eviction leaves in every entry.
use Prim.Native.Nat.{ℕ, ◌<◌}
use mathlib.Core.Path.{◌≡◌}
use mathlib.Core.Logic.{◌≢◌}
use mathlib.Core.Bool.{true, false, cond}
use Rattle.table.specs.declared.geometry.Geometry.{Geometry}
use Rattle.table.specs.Words.{state_word, invalid, shared}
use Rattle.table.specs.View.{Entry, View, current, kept}
use Rattle.homes.specs.declared.places.Place.{Place}
use Rattle.homes.specs.declared.places.Place.TheVariants.{Current, Kept}
use Rattle.homes.specs.Home.{home_of, taken_over, dropped_item, current_left}
use Rattle.homes.specs.Evict.{dropped}
use Rattle.homes.proofs.Laws.Placed.{placed}

-- "the source's state": the place left is Invalid
abbrev pub left_in : Place → Entry → Entry
left_in Current e = placed e invalid e.value
left_in Kept e = record { state = state_word (current e) invalid; value = e.value; kept_value = e.kept_value }

-- the home's entry e of item b once source s's copy has come and the home has dropped its Shared copy of item d
abbrev pub arrived_in : Place → ℕ → ℕ → Entry → Entry → Entry
arrived_in Current d b s e = placed e (current s) s.value
arrived_in Kept d b s e = record { state = state_word (current_left (current e) d b) (kept s); value = e.value; kept_value = s.kept_value }

-- the item whose Shared copy home h drops; M if none, as at a takeover
unfoldable pub home_drops : Geometry → View → Place → ℕ → ℕ → ℕ
home_drops g v place h b = cond (taken_over place (v.entry h b)) g.items (dropped_item g v h b)

-- a Shared copy is dropped: v at entry, w at the end
pub record SharedDropped (n b : ℕ) (v w : View) : Type 0 where
  pub place : current (v.entry n b) ≡ shared
  pub source : w.entry n b ≡ placed (v.entry n b) invalid (v.entry n b).value
  pub rest : (k c : ℕ) → (k ≡ n → c ≡ b → ⊥) → w.entry k c ≡ v.entry k c
  pub marks : w.mark ≡ v.mark

-- a copy goes from node n to home h, which drops its Shared copy of item d
pub record WentHome (g : Geometry) (place : Place) (n h b d : ℕ) (v w : View) : Type 0 where
  pub source : w.entry n b ≡ left_in place (v.entry n b)
  pub home : w.entry h b ≡ arrived_in place d b (v.entry n b) (v.entry h b)
  pub shares : d < g.items → current (v.entry h d) ≡ shared
  pub drops : d < g.items → d ≢ b → w.entry h d ≡ placed (v.entry h d) invalid (v.entry h d).value
  pub rest :
      (k c : ℕ) → (k ≡ n → c ≡ b → ⊥) → (k ≡ h → c ≡ b → ⊥) → (d < g.items → k ≡ h → c ≡ d → ⊥) → w.entry k c ≡ v.entry k c
  pub marks : w.mark ≡ v.mark

pub record Evicted (g : Geometry) (place : Place) (n b : ℕ) (v w : View) : Type 0 where
  pub drops : dropped place (v.entry n b) ≡ true → SharedDropped n b v w
  pub goes :
      dropped place (v.entry n b) ≡ false
      → WentHome g place n (home_of g v place n b) b (home_drops g v place (home_of g v place n b) b) v w
