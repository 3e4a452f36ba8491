-- What an admitted Evict is told: its place is not Invalid, a copy that is not dropped has a home. And what soundness tells of an item's kept copies.
use Rattle.std.specs.Prelude.{Err, Ok}
use Prim.Native.Nat.{ℕ, ◌≤◌, ◌<◌}
use mathlib.Core.Path.{◌≡◌, refl, ap, ◌∙◌}
use mathlib.Core.Logic.{◌≢◌}
use mathlib.Core.Bool.{Bool, true, false, cond}
use native.Mathlib.Omega.{arith}
use native.Mathlib.Decide.{ℕ_discrete}
use lib.Dec.{eqb}
use borrow.Author.Tests.{eqb-true, eqb-false}
use Rattle.counting.proofs.Laws.Tests.{either, no_both}
use Rattle.table.specs.declared.geometry.Geometry.{Geometry}
use Rattle.table.specs.declared.answers.Refusal.TheVariants.{PlaceInvalid, NoHome}
use Rattle.table.specs.Words.{invalid, shared, owner, modified}
use Rattle.table.specs.View.{View, current, kept}
use Rattle.entries.proofs.Laws.Kinds.{owner_code, Owned, modified_at, owner_at, Kind, clean, dirty, created, has_code, copy_at, no_keep}
use Rattle.entries.proofs.Laws.SoundFacts.{SoundTable}
use Rattle.homes.specs.declared.places.Place.{Place}
use Rattle.homes.specs.Admission.{Admission, admission_of}
use Rattle.homes.specs.Places.{code_in}
use Rattle.homes.specs.Home.{no_home}
use Rattle.homes.specs.Evict.{dropped, place_admission, evict_admission}
use Rattle.homes.proofs.Laws.Kept.{Live, live_test}

pub record Leaving (g : Geometry) (v : View) (place : Place) (n b : ℕ) : Type 0 where
  pub coded : code_in place (v.entry n b) ≢ invalid
  pub homed : dropped place (v.entry n b) ≡ false → no_home g v place n b ≡ false

pub evict_leaving : (g : Geometry) (v : View) (place : Place) (n b : ℕ) → evict_admission g v place n b ≡ Ok tt → Leaving g v place n b
unfolding place_admission
evict_leaving g v place n b e = of (admission_of g v n b) e
  where
    go : (p q r : Bool) → ◌≡◌ {A = Admission} (cond p (Err PlaceInvalid) (cond q (Ok tt) (cond r (Err NoHome) (Ok tt)))) (Ok tt)
        → (p ≡ false) × (q ≡ false → r ≡ false)
    go true q r e = let z : ◌≡◌ {A = ℕ} 0 1 = cc in absurd (omega arith)
    go false true r e = (refl, λ z. absurd (no_both refl z))
    go false false true e = let z : ◌≡◌ {A = ℕ} 0 1 = cc in absurd (omega arith)
    go false false false e = (refl, λ _. refl)

    of : (a : Admission) → place_admission g v place n b a ≡ Ok tt → Leaving g v place n b
    of (Err r) e = let z : ◌≡◌ {A = ℕ} 0 1 = cc in absurd (omega arith)
    of (Ok _) e =
        let t = go (eqb (code_in place (v.entry n b)) invalid) (dropped place (v.entry n b)) (no_home g v place n b) e in
        record { coded = eqb-false (code_in place (v.entry n b)) invalid t.0; homed = t.1 }

-- ---- no Shared-CK and Inv-CK of one item

owner_codes : (c : ℕ) → owner_code c ≡ true → c < 4
owner_codes c h = either (eqb c owner) h (λ e. omega (arith, eqb-true c owner e)) (λ e. omega (arith, eqb-true c shared e))

module _ (g : Geometry) (v : View) (phase number b : ℕ) (good : SoundTable g v phase number) (closed : phase ≢ 1) (item : b < g.items) where
  pub kept_low : (n m : ℕ) → Live g v n → Live g v m → kept (v.entry n b) ≢ 0 → current (v.entry m b) < 4
  kept_low n m ln lm d = elim (ℕ_discrete (current (v.entry m b)) 0) [ yes z ↦ omega arith | no z ↦ of_kind z (good.items b item) ]
    where
      of_owned : current (v.entry m b) ≢ 0 → (o : ℕ) → Owned v g.nodes b o → current (v.entry m b) < 4
      of_owned z o (modified_at h alone) =
          let e : current (v.entry m b) ≡ modified =
          ap (λ k. current (v.entry k b)) (alone m lm.there (copy_at v b m (live_test g v m lm) z)) ∙ has_code v b o modified h.holds in
          omega arith
      of_owned z o (owner_at h codes) = owner_codes _ (codes m lm.there (copy_at v b m (live_test g v m lm) z))

      of_kind : current (v.entry m b) ≢ 0 → Kind phase v g.nodes b → current (v.entry m b) < 4
      of_kind z (clean k) = absurd (d (no_keep v b n (live_test g v n ln) (k.nothing n ln.there)))
      of_kind z (dirty k) = of_owned z k.node k.owned
      of_kind z (created e k) = absurd (closed e)

  pub high_alone : (n m : ℕ) → Live g v n → Live g v m → 4 ≤ current (v.entry n b) → kept (v.entry m b) ≡ 0
  high_alone n m ln lm h =
      elim (ℕ_discrete (kept (v.entry m b)) 0) [ yes z ↦ z | no z ↦ (let l = kept_low m n lm ln z in absurd (omega arith)) ]
