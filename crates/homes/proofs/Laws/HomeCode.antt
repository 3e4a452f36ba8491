-- The ways of the code that looks for a home and stores there: a law for each, over what the code has read.
use Rattle.std.specs.Prelude.{Option, Some, None}
use Prim.Native.Nat.{ℕ, ◌≤◌, ◌<◌}
use mathlib.Core.Path.{◌≡◌, refl, ap}
use mathlib.Core.Bool.{Bool, true, false, cond, ◌&&◌, ◌||◌}
use mathlib.Core.List.{List, [], ◌∷◌, ◌++◌, map}
use lib.Dec.{eqb, ltb}
use borrow.Author.Tests.{eq-eqb, ne_eqb, lt-ltb, le-ltb}
use Rattle.table.specs.declared.geometry.Geometry.{Geometry}
use Rattle.table.specs.Words.{current_of, kept_of, invalid}
use Rattle.table.specs.Stores.{Stored, entry_store, state_to, value_to, kept_to}
use Rattle.table.specs.code.Stores.{StoredIn}
use Rattle.table.proofs.Laws.Stores.{stored_then, stored_two, stored_as}
use Rattle.table.specs.View.{View}
use Rattle.entries.specs.Frames.{frame_free}
use Rattle.homes.specs.declared.places.Place.{Place}
use Rattle.homes.specs.declared.places.Place.TheVariants.{Current, Kept}
use Rattle.homes.specs.declared.home.Dropped.{Dropped}
use Rattle.homes.specs.declared.home.Arrival.{Arrival}
use Rattle.homes.specs.Places.{code_of, shared_in}
use Rattle.homes.specs.Home.{shared_item, has_room, place_fits, fits, dropped_item, drop_at, current_left, arrival_of}
use Rattle.homes.specs.Home.{drop_by, drop_stores, arrival_changes, takeover_stores, home_stores_by}

-- ---- room

module _ (g : Geometry) (v : View) (h b : ℕ) {framed : Bool} (p : framed ≡ frame_free g v h b) where
  pub room_framed : framed ≡ true → true ≡ has_room g v h b
  unfolding has_room
  room_framed e = rw (← p, e) refl

  pub room_drops : framed ≡ false → {s : ℕ} → s ≡ shared_item g v h → ltb s g.items ≡ has_room g v h b
  unfolding has_room
  room_drops e q = rw (← p, e, q) refl

  pub drops_none : framed ≡ true → g.items ≡ dropped_item g v h b
  unfolding dropped_item
  drops_none e = rw (← p, e) refl

  pub drops_shared : framed ≡ false → {s : ℕ} → s ≡ shared_item g v h → s ≡ dropped_item g v h b
  unfolding dropped_item
  drops_shared e q = rw (← p, e) q

-- ---- which node fits

-- the two places in one
place_fits_lem :
    (g : Geometry) (v : View) (place : Place) (b h : ℕ)
    → place_fits g v place b h ≡ (shared_in place (v.entry h b).state || (eqb (code_of place (v.entry h b).state) invalid && has_room g v h b))
unfolding place_fits
place_fits_lem g v Current b h = refl
place_fits_lem g v Kept b h = refl

module _ (g : Geometry) (v : View) (place : Place) (b h : ℕ) {w : ℕ} (p : w ≡ (v.entry h b).state) {over : Bool} (q : over ≡ shared_in place w) where
  pub place_over : over ≡ true → true ≡ place_fits g v place b h
  place_over e = rw (place_fits_lem g v place b h, ← p, ← q, e) refl

  module _ (e : over ≡ false) {code : ℕ} (r : code ≡ code_of place w) where
    pub place_free : code ≡ invalid → {room : Bool} → room ≡ has_room g v h b → room ≡ place_fits g v place b h
    place_free k s = rw (place_fits_lem g v place b h, ← p, ← q, e, ← r, eq-eqb code invalid k) s

    pub place_taken : (code ≡ invalid → ⊥) → false ≡ place_fits g v place b h
    place_taken k = rw (place_fits_lem g v place b h, ← p, ← q, e, ← r, ne_eqb code invalid k) refl

module _ (g : Geometry) (v : View) (place : Place) (b h : ℕ) {mark : ℕ} (p : mark ≡ v.mark h) where
  pub fits_dead : mark ≡ 0 → false ≡ fits g v place b h
  unfolding fits
  fits_dead e = rw (← p, eq-eqb mark 0 e) refl

  pub fits_live : (mark ≡ 0 → ⊥) → {r : Bool} → r ≡ place_fits g v place b h → r ≡ fits g v place b h
  unfolding fits
  fits_live e q = rw (← p, ne_eqb mark 0 e) q

-- ---- what a home makes of a copy that comes

module _ (c dropped b : ℕ) where
  pub left_dropped : dropped ≡ b → invalid ≡ current_left c dropped b
  unfolding current_left
  left_dropped e = rw (eq-eqb dropped b e) refl

  pub left_stays : (dropped ≡ b → ⊥) → c ≡ current_left c dropped b
  unfolding current_left
  left_stays e = rw (ne_eqb dropped b e) refl

module _ (g : Geometry) (v : View) (h d : ℕ) where
  pub drop_some : d < g.items → {w : ℕ} → w ≡ (v.entry h d).state → Some (record { item = d; state = w }) ≡ drop_at g v h d
  drop_some l p = rw (lt-ltb d g.items l, p) refl

  pub drop_none : g.items ≤ d → None ≡ drop_at g v h d
  drop_none l = rw (le-ltb d g.items l) refl

pub arrival_read :
    (g : Geometry) (v : View) (place : Place) (h b : ℕ) {w d c c' k : ℕ} {x : Option Dropped} {over : Bool}
    → w ≡ (v.entry h b).state → over ≡ shared_in place w → d ≡ dropped_item g v h b → x ≡ drop_at g v h d
    → c ≡ current_of w → c' ≡ current_left c d b → k ≡ kept_of w
    → record { takeover = over; drop = x; current = c'; kept = k } ≡ arrival_of g v place h b
unfolding arrival_of
arrival_read g v place h b p q r x c l k = rw (q, x, l, c, k, p, r) refl

-- ---- the home's stores

-- a copy is dropped if there is one
pub drops_if :
    (h : ℕ) (t : Bool) (d : Dropped)
    → drop_by h (cond t (Some d) None) ≡ cond t (entry_store h d.item (state_to invalid (kept_of d.state)) ∷ []) []
drops_if h true d = refl
drops_if h false d = refl

module _ (h : ℕ) (a : Arrival) where
  pub drop_made :
      {d : Dropped} → a.drop ≡ Some d → {k : ℕ} → k ≡ kept_of d.state → drop_stores h a ≡ entry_store h d.item (state_to invalid k) ∷ []
  unfolding drop_stores
  drop_made e q = rw (e, q) refl

  pub drop_nothing : a.drop ≡ None → drop_stores h a ≡ []
  unfolding drop_stores
  drop_nothing e = rw e refl

module _ {place : Place} (h b code value : ℕ) (a : Arrival) {g : Geometry} {left left₁ left₂ : ℕ} {t t₁ t₂ : List ℕ} where
  pub arrives_current :
      place ≡ Current → Stored g left (entry_store h b (value_to value) ∷ []) t t₁ left₁
      → Stored g left₁ (entry_store h b (state_to code a.kept) ∷ []) t₁ t₂ left₂ → StoredIn g left h b (arrival_changes place code value a) t t₂ left₂
  unfolding arrival_changes
  arrives_current e s r = rw e (stored_two s r)

  pub arrives_kept :
      place ≡ Kept → Stored g left (entry_store h b (kept_to value) ∷ []) t t₁ left₁
      → Stored g left₁ (entry_store h b (state_to a.current code) ∷ []) t₁ t₂ left₂ → StoredIn g left h b (arrival_changes place code value a) t t₂ left₂
  unfolding arrival_changes
  arrives_kept e s r = rw e (stored_two s r)

module _ (place : Place) (h b code value : ℕ) (a : Arrival) where
  pub home_takes_over : a.takeover ≡ true → home_stores_by place h b code value a ≡ takeover_stores h b code a
  unfolding home_stores_by
  home_takes_over e = rw e refl

  pub home_arrives :
      a.takeover ≡ false → {g : Geometry} {left left₁ left₂ : ℕ} {t t₁ t₂ : List ℕ} → Stored g left (drop_stores h a) t t₁ left₁
      → StoredIn g left₁ h b (arrival_changes place code value a) t₁ t₂ left₂
      → Stored g left (home_stores_by place h b code value a) t t₂ left₂
  unfolding home_stores_by
  home_arrives e s r = stored_as (ap (λ over. cond over (takeover_stores h b code a) (drop_stores h a ++ map (entry_store h b) (arrival_changes place code value a))) e) (stored_then s r)
