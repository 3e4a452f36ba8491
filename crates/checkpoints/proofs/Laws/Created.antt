-- What a create finds, and what a whole create leaves in every entry.
use Prim.Native.Nat.{ℕ, ◌<◌}
use mathlib.Core.Path.{◌≡◌}
use mathlib.Core.Logic.{◌≢◌}
use mathlib.Core.Bool.{true, cond}
use Rattle.table.specs.declared.geometry.Geometry.{Geometry}
use Rattle.table.specs.Words.{invalid, shared, precommit1, precommit2}
use Rattle.table.specs.View.{View, current}
use Rattle.homes.specs.declared.places.Place.TheVariants.{Current}
use Rattle.entries.specs.Dirty.{owns, owner_of, dirty_item}
use Rattle.homes.specs.Home.{home_of, dropped_item}
use Rattle.checkpoints.specs.Create.{sharer_of, has_sharer}
use Rattle.homes.proofs.Laws.Kept.{Live}
use Rattle.homes.proofs.Laws.Placed.{placed}

-- the partner of owner o: "The lowest-numbered node with a Shared copy .. else a home"
unfoldable pub partner_of : Geometry → View → ℕ → ℕ → ℕ
partner_of g v b o = cond (has_sharer g v b) (sharer_of g v b) (home_of g v Current o b)

-- the item whose Shared copy the partner drops; M if none
unfoldable pub partner_drops : Geometry → View → ℕ → ℕ → ℕ
partner_drops g v b o = cond (has_sharer g v b) g.items (dropped_item g v (home_of g v Current o b) b)

-- ---- item b, its owner o, its partner p, the item d that p drops

module _ (g : Geometry) (b o p d : ℕ) (v : View) where
  -- the table at entry
  pub record Pairing : Type 0 where
    pub item : b < g.items
    pub owner : Live g v o
    pub owned : owns (current (v.entry o b)) ≡ true
    pub partner : Live g v p
    pub other : p ≢ o
    pub place : current (v.entry p b) ≢ shared → current (v.entry p b) ≡ invalid
    pub agreed : current (v.entry p b) ≡ shared → (v.entry p b).value ≡ (v.entry o b).value
    pub drops : d < g.items → current (v.entry p d) ≡ shared
    pub apart : d ≢ b

  -- and w at the end
  pub record Paired (w : View) : Type 0 where
    pub owner : w.entry o b ≡ placed (v.entry o b) precommit1 (v.entry o b).value
    pub partner : w.entry p b ≡ placed (v.entry p b) precommit2 (v.entry o b).value
    pub dropped : d < g.items → w.entry p d ≡ placed (v.entry p d) invalid (v.entry p d).value
    pub rest :
        (k c : ℕ) → (k ≡ o → c ≡ b → ⊥) → (k ≡ p → c ≡ b → ⊥) → (d < g.items → k ≡ p → c ≡ d → ⊥) → w.entry k c ≡ v.entry k c
    pub marks : w.mark ≡ v.mark

-- ---- "the lowest dirty item not yet created"

abbrev pub CreateFinds : Geometry → View → Type 0
CreateFinds g v =
    Pairing g (dirty_item g v) (owner_of g v (dirty_item g v)) (partner_of g v (dirty_item g v) (owner_of g v (dirty_item g v)))
    (partner_drops g v (dirty_item g v) (owner_of g v (dirty_item g v))) v

abbrev pub CreateLeaves : Geometry → View → View → Type 0
CreateLeaves g v =
    Paired g (dirty_item g v) (owner_of g v (dirty_item g v)) (partner_of g v (dirty_item g v) (owner_of g v (dirty_item g v)))
    (partner_drops g v (dirty_item g v) (owner_of g v (dirty_item g v))) v
