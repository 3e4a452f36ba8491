-- The laws of `specs/code/EvictCode.antt`.
use Rattle.std.specs.Prelude.{Err, Ok, Result}
use Prim.Native.Nat.{ℕ}
use mathlib.Core.Path.{◌≡◌, refl, sym, ap, ◌∙◌}
use mathlib.Core.Bool.{Bool, true, false}
use mathlib.Core.List.{List, [], ◌∷◌, ◌++◌}
use native.Mathlib.Omega.{arith}
use borrow.Author.Tests.{eq-eqb, ne_eqb}
use Rattle.table.specs.declared.geometry.Geometry.{Geometry}
use Rattle.table.specs.declared.answers.Refusal.{Refusal}
use Rattle.table.specs.declared.answers.Refusal.TheVariants.{PlaceInvalid, NoHome}
use Rattle.table.specs.Words.{current_of, kept_of, invalid}
use Rattle.table.specs.Stores.{Stored, entry_store, state_to}
use Rattle.table.proofs.Laws.Stores.{stored_then, stored_as}
use Rattle.table.specs.View.{View, view}
use Rattle.homes.specs.declared.places.Place.{Place}
use Rattle.homes.specs.declared.places.Place.TheVariants.{Current, Kept}
use Rattle.homes.specs.declared.home.Arrival.{Arrival}
use Rattle.homes.specs.declared.evict.Way.{Way}
use Rattle.homes.specs.declared.evict.Way.TheVariants.{Drops, Goes}
use Rattle.homes.specs.Admission.{Admission, admission_of}
use Rattle.homes.proofs.Laws.Admission.{Admits, admission_tells}
use Rattle.homes.specs.Places.{code_of, shared_in, value_in}
use Rattle.homes.specs.Home.{home_of, arrival_of, home_stores, home_stores_by}
use Rattle.homes.specs.Evict.{dropped, place_admission, evict_admission, source_stores, moved_to, evict_stores}
use Rattle.homes.specs.code.EvictCode.{way_by, way_of, way_admitted}

-- ---- the ways of the code that chooses it

module _ (g : Geometry) (v : View) (place : Place) (n b : ℕ) {w code : ℕ} (p : w ≡ (v.entry n b).state) (q : code ≡ code_of place w) where
  pub way_invalid : code ≡ invalid → Err PlaceInvalid ≡ way_admitted g v place n b
  unfolding way_admitted way_by place_admission
  way_invalid e = rw (← p, ← q, eq-eqb code invalid e) refl

  module _ (e : code ≡ invalid → ⊥) {drops : Bool} (r : drops ≡ shared_in place w) where
    pub way_drops : drops ≡ true → Ok Drops ≡ way_admitted g v place n b
    unfolding way_admitted way_by place_admission
    way_drops k = rw (← p, ← q, ne_eqb code invalid e, ← r, k) refl

    module _ (k : drops ≡ false) {home : ℕ} (s : home ≡ home_of g v place n b) where
      pub way_none : home ≡ n → Err NoHome ≡ way_admitted g v place n b
      unfolding way_admitted way_by place_admission
      way_none l = rw (← p, ← q, ne_eqb code invalid e, ← r, k, ← s, eq-eqb home n l) refl

      pub way_goes : (home ≡ n → ⊥) → Ok (Goes home) ≡ way_admitted g v place n b
      unfolding way_admitted way_by place_admission
      way_goes l = rw (← p, ← q, ne_eqb code invalid e, ← r, k, ← s, ne_eqb home n l) refl

module _ (g : Geometry) (v : View) (place : Place) (n b : ℕ) where
  pub way_turned : {x : Refusal} → Err x ≡ admission_of g v n b → Err x ≡ way_of g v place n b
  unfolding way_of way_by place_admission
  way_turned e = rw (← e) refl

  pub way_admitted_lem : Ok tt ≡ admission_of g v n b → {r : Result Way Refusal} → r ≡ way_admitted g v place n b → r ≡ way_of g v place n b
  unfolding way_of way_admitted
  way_admitted_lem e k = rw (← e) k

-- ---- what the way tells

-- admitted, and dropped or not
pub record Leaves (g : Geometry) (v : View) (place : Place) (n b : ℕ) (drops : Bool) : Type 0 where
  pub admitted : evict_admission g v place n b ≡ Ok tt
  pub dropping : dropped place (v.entry n b) ≡ drops

pub evict_admits : (g : Geometry) (v : View) (place : Place) (n b : ℕ) → evict_admission g v place n b ≡ Ok tt → Admits g v n b
unfolding place_admission
evict_admits g v place n b e = go (admission_of g v n b) refl e
  where
    go : (a : Admission) → admission_of g v n b ≡ a → place_admission g v place n b a ≡ Ok tt → Admits g v n b
    go (Err r) h e = let z : ◌≡◌ {A = ℕ} 0 1 = cc in absurd (omega arith)
    go (Ok _) h e = admission_tells g v n b h

module _ (g : Geometry) (v : View) (place : Place) (n b : ℕ) where
  pub stays_turned : {x : Refusal} → Err x ≡ way_of g v place n b → evict_admission g v place n b ≡ Err x
  unfolding way_of way_by
  stays_turned {x} e = go (evict_admission g v place n b) (dropped place (v.entry n b)) (sym e)
    where
      go : (a : Admission) (d : Bool) → way_by d (home_of g v place n b) a ≡ Err x → a ≡ Err x
      go (Err r) d e = let q : r ≡ x = cc in ap Err q
      go (Ok _) d e = let z : ◌≡◌ {A = ℕ} 0 1 = cc in absurd (omega arith)

  pub way_admits : {way : Way} → Ok way ≡ way_of g v place n b → Admits g v n b
  unfolding way_of way_by
  way_admits {way} e = go (evict_admission g v place n b) refl (dropped place (v.entry n b)) (sym e)
    where
      go : (a : Admission) → evict_admission g v place n b ≡ a → (d : Bool) → way_by d (home_of g v place n b) a ≡ Ok way → Admits g v n b
      go (Err r) h d e = let z : ◌≡◌ {A = ℕ} 0 1 = cc in absurd (omega arith)
      go (Ok _) h d e = evict_admits g v place n b h

  pub drops_leaves : Ok Drops ≡ way_of g v place n b → Leaves g v place n b true
  unfolding way_of way_by
  drops_leaves e = go (evict_admission g v place n b) (dropped place (v.entry n b)) refl refl (sym e)
    where
      go : (a : Admission) (d : Bool) → evict_admission g v place n b ≡ a → dropped place (v.entry n b) ≡ d
          → way_by d (home_of g v place n b) a ≡ Ok Drops → Leaves g v place n b true
      go (Err r) d p q e = let z : ◌≡◌ {A = ℕ} 0 1 = cc in absurd (omega arith)
      go (Ok _) true p q e = record { admitted = p; dropping = q }
      go (Ok _) false p q e = let z : ◌≡◌ {A = ℕ} 0 1 = cc in absurd (omega arith)

  pub goes_leaves : {home : ℕ} → Ok (Goes home) ≡ way_of g v place n b → Leaves g v place n b false
  unfolding way_of way_by
  goes_leaves {home} e = go (evict_admission g v place n b) (dropped place (v.entry n b)) refl refl (sym e)
    where
      go : (a : Admission) (d : Bool) → evict_admission g v place n b ≡ a → dropped place (v.entry n b) ≡ d
          → way_by d (home_of g v place n b) a ≡ Ok (Goes home) → Leaves g v place n b false
      go (Err r) d p q e = let z : ◌≡◌ {A = ℕ} 0 1 = cc in absurd (omega arith)
      go (Ok _) true p q e = let z : ◌≡◌ {A = ℕ} 0 1 = cc in absurd (omega arith)
      go (Ok _) false p q e = record { admitted = p; dropping = q }

  pub goes_home_lem : {home : ℕ} → Ok (Goes home) ≡ way_of g v place n b → home ≡ home_of g v place n b
  unfolding way_of way_by
  goes_home_lem {home} e = go (evict_admission g v place n b) (dropped place (v.entry n b)) (sym e)
    where
      go : (a : Admission) (d : Bool) → way_by d (home_of g v place n b) a ≡ Ok (Goes home) → home ≡ home_of g v place n b
      go (Err r) d e = let z : ◌≡◌ {A = ℕ} 0 1 = cc in absurd (omega arith)
      go (Ok _) true e = let z : ◌≡◌ {A = ℕ} 0 1 = cc in absurd (omega arith)
      go (Ok _) false e = cc

-- ---- the stores

-- the source's state
module _ {place : Place} (n b w : ℕ) where
  pub source_current : place ≡ Current → {k : ℕ} → k ≡ kept_of w → source_stores place n b w ≡ entry_store n b (state_to invalid k) ∷ []
  unfolding source_stores
  source_current e h = rw (e, h) refl

  pub source_kept : place ≡ Kept → {c : ℕ} → c ≡ current_of w → source_stores place n b w ≡ entry_store n b (state_to c invalid) ∷ []
  unfolding source_stores
  source_kept e h = rw (e, h) refl

-- the home's stores, then the source's state: all of it chosen before
pub move_then :
    (g : Geometry) (place : Place) (n b h : ℕ) {w code value left left₁ left₂ : ℕ} {a : Arrival} {t t₁ t₂ : List ℕ}
    → w ≡ ((view g t).entry n b).state → code ≡ code_of place w → value ≡ value_in place ((view g t).entry n b) → a ≡ arrival_of g (view g t) place h b
    → Stored g left (home_stores_by place h b code value a) t t₁ left₁ → Stored g left₁ (source_stores place n b w) t₁ t₂ left₂
    → Stored g left (moved_to g (view g t) place n b h ++ source_stores place n b ((view g t).entry n b).state) t t₂ left₂
unfolding moved_to home_stores
move_then g place n b h {w} {code} {value} {a = a} {t} p q r s first then =
    let to : moved_to g (view g t) place n b h ≡ home_stores_by place h b code value a = rw (s, r, q, p) refl in
    stored_as (ap (λ l. l ++ source_stores place n b ((view g t).entry n b).state) to ∙ ap (λ x. home_stores_by place h b code value a ++ source_stores place n b x) (sym p))
    (stored_then first then)

module _ (g : Geometry) (v : View) (place : Place) (n b : ℕ) where
  pub evict_drops : Leaves g v place n b true → evict_stores g v place n b ≡ source_stores place n b (v.entry n b).state
  unfolding evict_stores
  evict_drops l = rw l.dropping refl

  pub evict_moves :
      {h : ℕ} → Leaves g v place n b false → h ≡ home_of g v place n b
      → evict_stores g v place n b ≡ moved_to g v place n b h ++ source_stores place n b (v.entry n b).state
  unfolding evict_stores
  evict_moves l e = rw (l.dropping, e) refl
