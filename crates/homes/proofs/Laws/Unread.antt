-- "A dead node's words, mark apart, are never read", by Evict: its home, its refusals and its stores do not rest on
-- them; and the plan of a call does not if what it admits and what it does do not.
use Rattle.std.specs.Prelude.{Err, Ok, Result}
use Prim.Native.Nat.{ℕ}
use mathlib.Core.Path.{◌≡◌, refl, ap, ap₂, ◌∙◌}
use mathlib.Core.Bool.{Bool, true, cond, not, ◌&&◌, ◌||◌}
use mathlib.Core.List.{List}
use lib.Dec.{eqb, ltb}
use borrow.Author.Tests.{eqb-true, ne_eqb}
use Rattle.counting.proofs.Laws.Tests.{and_same, by_cases}
use Rattle.counting.proofs.Laws.First.{first_ext}
use Rattle.counting.proofs.Laws.Cyclic.{first_after_ext}
use Rattle.table.specs.declared.geometry.Geometry.{Geometry}
use Rattle.table.specs.declared.answers.Refusal.{Refusal}
use Rattle.table.specs.declared.answers.Refusal.TheVariants.{NoFrame}
use Rattle.table.specs.Words.{shared}
use Rattle.table.specs.View.{Entry, View, view, live, current}
use Rattle.table.specs.Answers.{Plan, carry}
use Rattle.entries.specs.Check.{fault_of}
use Rattle.entries.proofs.Laws.CheckFacts.{facts_sizes, accepted_facts}
use Rattle.entries.proofs.Laws.Unread.{over, Agrees, Alike, alike_view, alike_fault, same_free}
use Rattle.homes.specs.declared.places.Place.{Place}
use Rattle.homes.specs.declared.places.Place.TheVariants.{Current, Kept}
use Rattle.homes.specs.Admission.{Admission, admission_of, frame_full, frame_admission, plan_admitted, plan_checked, plan_by}
use Rattle.homes.proofs.Laws.Admission.{Admits, admission_tells}
use Rattle.homes.specs.Home.{shared_at, shared_item, has_room, place_fits, fits, home_of, no_home, dropped_item}
use Rattle.homes.specs.Home.{arrival_of, home_stores_by, home_stores}
use Rattle.homes.proofs.Laws.HomeLaws.{home_fits}
use Rattle.homes.proofs.Laws.Kept.{live_test}
use Rattle.homes.specs.Places.{code_in, value_in}
use Rattle.homes.proofs.Laws.EvictCode.{evict_admits}
use Rattle.homes.specs.Evict.{moved_to, evict_stores, place_admission, evict_admission, evict_of}

-- an admitted node is live
pub admits_live : (g : Geometry) (v : View) (n b : ℕ) → Admits g v n b → live v n ≡ true
admits_live g v n b a = ap not (ne_eqb (v.mark n) 0 a.live)

admitted_live : (g : Geometry) (v : View) (n b : ℕ) → admission_of g v n b ≡ Ok tt → live v n ≡ true
admitted_live g v n b h = admits_live g v n b (admission_tells g v n b h)

module _ (g : Geometry) (v : View) (e : ℕ → ℕ → Entry) (s : Agrees g v e) where
  -- ---- admission, and a frame: of a dead node nothing is asked after 6

  pub same_admission : (n b : ℕ) → admission_of g (over v e) n b ≡ admission_of g v n b
  unfolding admission_of
  same_admission n b = refl

  pub same_frame :
      (n b : ℕ) (f : Entry → Bool)
      → frame_admission g (over v e) n b (f (e n b)) (admission_of g (over v e) n b)
      ≡ frame_admission g v n b (f (v.entry n b)) (admission_of g v n b)
  unfolding frame_admission frame_full admission_of
  same_frame n b f = go (admission_of g v n b) refl
    where
      go : (a : Admission) → admission_of g v n b ≡ a
          → frame_admission g (over v e) n b (f (e n b)) a ≡ frame_admission g v n b (f (v.entry n b)) a
      go (Err x) h = refl
      go (Ok _) h =
          let t = admitted_live g v n b h in
          ap₂ (λ (x : Entry) (free : Bool). cond (f x && not free) (Err NoFrame) (Ok tt)) (s.alive n b t)
          (same_free g v e s n b t)

  -- ---- the home

  module _ (h : ℕ) (t : live v h ≡ true) where
    same_shared : shared_item g (over v e) h ≡ shared_item g v h
    unfolding shared_item shared_at
    same_shared = first_ext g.items _ _ (λ b l. ap (λ x. eqb (current x) shared) (s.alive h b t))

    same_room : (b : ℕ) → has_room g (over v e) h b ≡ has_room g v h b
    unfolding has_room
    same_room b = ap₂ (λ (x y : Bool). x || y) (same_free g v e s h b t) (ap (λ n. ltb n g.items) same_shared)

    same_place : (place : Place) (b : ℕ) → place_fits g (over v e) place b h ≡ place_fits g v place b h
    unfolding place_fits
    same_place Current b = rw (s.alive h b t, same_room b) refl
    same_place Kept b = rw (s.alive h b t, same_room b) refl

    same_dropped : (b : ℕ) → dropped_item g (over v e) h b ≡ dropped_item g v h b
    unfolding dropped_item
    same_dropped b = rw (same_free g v e s h b t, same_shared) refl

    same_arrival : (place : Place) (b : ℕ) → arrival_of g (over v e) place h b ≡ arrival_of g v place h b
    unfolding arrival_of
    same_arrival place b = rw (same_dropped b, s.alive h b t, s.alive h (dropped_item g v h b) t) refl

    pub same_home_stores :
        (place : Place) (b code value : ℕ)
        → home_stores g (over v e) place h b code value ≡ home_stores g v place h b code value
    unfolding home_stores
    same_home_stores place b code value = ap (home_stores_by place h b code value) (same_arrival place b)

  same_fits : (place : Place) (b h : ℕ) → fits g (over v e) place b h ≡ fits g v place b h
  unfolding fits
  same_fits place b h =
      and_same (live v h) (place_fits g (over v e) place b h) (place_fits g v place b h) (λ t. same_place h t place b)

  pub same_home : (place : Place) (n b : ℕ) → home_of g (over v e) place n b ≡ home_of g v place n b
  unfolding home_of
  same_home place n b = first_after_ext _ _ g.nodes n (λ m l. same_fits place b m)

-- the home of a live node's copy is live, or it is the node itself
pub home_live :
    (g : Geometry) (v : View) (place : Place) (n b : ℕ) → live v n ≡ true → live v (home_of g v place n b) ≡ true
home_live g v place n b t =
    by_cases (no_home g v place n b)
    (λ q. ap (live v) (eqb-true (home_of g v place n b) n q) ∙ t)
    (λ q. live_test g v (home_of g v place n b) (home_fits g v place n b q).node)

-- ---- Evict

module _ (g : Geometry) (v : View) (e : ℕ → ℕ → Entry) (s : Agrees g v e) (place : Place) (n b : ℕ) where
  evict_admission_lem : evict_admission g (over v e) place n b ≡ evict_admission g v place n b
  unfolding place_admission admission_of
  evict_admission_lem = go (admission_of g v n b) refl
    where
      go : (a : Admission) → admission_of g v n b ≡ a
          → place_admission g (over v e) place n b a ≡ place_admission g v place n b a
      go (Err x) h = refl
      go (Ok _) h = rw (s.alive n b (admitted_live g v n b h), same_home g v e s place n b) refl

  evict_stores_lem : Admits g v n b → evict_stores g (over v e) place n b ≡ evict_stores g v place n b
  unfolding evict_stores moved_to
  evict_stores_lem a =
      let t = admits_live g v n b a in
      let h = home_of g v place n b in
      let k = home_live g v place n b t in
      let x = v.entry n b in
      let stores = same_home_stores g v e s h k place b (code_in place x) (value_in place x) in
      rw (s.alive n b t, same_home g v e s place n b, stores) refl

-- ---- the plan of a call

module _ (admits : Geometry → View → Admission) (acts : Geometry → View → Plan) where
  pub plan_alike :
      ((g : Geometry) (v : View) (e : ℕ → ℕ → Entry) → Agrees g v e → admits g (over v e) ≡ admits g v)
      → ((g : Geometry) (v : View) (e : ℕ → ℕ → Entry) → Agrees g v e → admits g v ≡ Ok tt
      → acts g (over v e) ≡ acts g v)
      → {t t' : List ℕ} → Alike t t' → plan_by admits acts t' ≡ plan_by admits acts t
  unfolding plan_by plan_checked plan_admitted
  plan_alike p q {t} {t'} a = ap (plan_checked admits acts t') (alike_fault a) ∙ checked (fault_of t) refl
    where
      admitted : (c : Admission) (x y : Plan) → (c ≡ Ok tt → x ≡ y) → plan_admitted c x ≡ plan_admitted c y
      admitted (Err r) x y h = refl
      admitted (Ok _) x y h = h refl

      checked : (c : Result Geometry Refusal) → fault_of t ≡ c → plan_checked admits acts t' c ≡ plan_checked admits acts t c
      checked (Err r) h = refl
      checked (Ok g) h =
          let w = (view g t').entry in
          let z = facts_sizes t g (accepted_facts t g h).shape in
          let k = a.entries g z in
          ap (λ (u : View). plan_admitted (admits g u) (acts g u)) (alike_view g a z)
          ∙ ap (λ (c : Admission). plan_admitted c (acts g (over (view g t) w))) (p g (view g t) w k)
          ∙ admitted (admits g (view g t)) _ _ (q g (view g t) w k)

pub evict_alike : {t t' : List ℕ} → Alike t t' → (n b : ℕ) (place : Place) → evict_of t' n b place ≡ evict_of t n b place
evict_alike a n b place =
    plan_alike _ _ (λ g v e s. evict_admission_lem g v e s place n b)
    (λ g v e s h. ap (carry g 0) (evict_stores_lem g v e s place n b (evict_admits g v place n b h))) a
