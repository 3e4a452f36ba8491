-- What Evict found before its first store, and so its plan.
use Rattle.std.specs.Prelude.{Err, Ok, Result}
use Prim.Native.Nat.{ℕ, ◌<◌, ◌^◌}
use mathlib.Core.Path.{◌≡◌, refl, sym, ap, ◌∙◌}
use mathlib.Core.List.{List, ◌++◌}
use native.Mathlib.Omega.{arith}
use Rattle.table.specs.declared.geometry.Geometry.{Geometry}
use Rattle.table.specs.declared.answers.Refusal.{Refusal}
use Rattle.table.specs.View.{view}
use Rattle.table.specs.Answers.{refuse, carry}
use Rattle.entries.specs.Check.{fault_of}
use Rattle.entries.proofs.Laws.CheckFacts.{accepted_facts}
use Rattle.homes.specs.declared.places.Place.{Place}
use Rattle.homes.specs.declared.evict.Way.{Way}
use Rattle.homes.specs.declared.evict.Way.TheVariants.{Drops, Goes}
use Rattle.homes.specs.Evict.{evict_admission, evict_of, evict_stores, moved_to, source_stores}
use Rattle.homes.proofs.Laws.Ready.{ready_failed, ready_turned, ready_admitted, plan_refused, plan_ready}
use Rattle.homes.specs.code.EvictCode.{way_of, evict_way, evict_checked, evict_ready}
use Rattle.homes.proofs.Laws.EvictCode.{way_admits, stays_turned, drops_leaves, goes_leaves}
use Rattle.homes.proofs.Laws.EvictCode.{goes_home_lem, evict_drops, evict_moves}

-- a node and an item by numbers that fit
pub record Numbered (n b : ℕ) : Type 0 where
  pub node : n < 2 ^ 8
  pub item : b < 2 ^ 16

module _ (t : List ℕ) (place : Place) (n b : ℕ) where
  -- ---- the ways out

  pub evict_failed : {x : Refusal} → Err x ≡ fault_of t → Err x ≡ evict_ready t place n b
  unfolding evict_ready evict_checked
  evict_failed h = ap (evict_checked t n b place) h

  module _ {g : Geometry} (h : Ok g ≡ fault_of t) where
    pub evict_turned : {x : Refusal} → Err x ≡ way_of g (view g t) place n b → Err x ≡ evict_ready t place n b
    unfolding evict_ready evict_checked evict_way
    evict_turned k = ap (evict_way g) k ∙ ap (evict_checked t n b place) h

    pub evict_leaves_by : {way : Way} → Ok way ≡ way_of g (view g t) place n b → Ok (g, way) ≡ evict_ready t place n b
    unfolding evict_ready evict_checked evict_way
    evict_leaves_by k = ap (evict_way g) k ∙ ap (evict_checked t n b place) h

  -- ---- what it tells

  -- the table passed its checks, and the copy leaves this way
  record IsLeaving (g : Geometry) (way : Way) : Type 0 where
    passed : Ok g ≡ fault_of t
    leaves : Ok way ≡ way_of g (view g t) place n b

  leaving : {g : Geometry} {way : Way} → Ok (g, way) ≡ evict_ready t place n b → IsLeaving g way
  unfolding evict_ready evict_checked evict_way
  leaving {g} {way} e = checked (fault_of t) refl (sym e)
    where
      goes : (h : Geometry) → Ok h ≡ fault_of t → (r : Result Way Refusal) → r ≡ way_of h (view h t) place n b
          → evict_way h r ≡ Ok (g, way) → IsLeaving g way
      goes h p (Err x) k e = let z : ◌≡◌ {A = ℕ} 0 1 = cc in absurd (omega arith)
      goes h p (Ok w) k e =
          let pair : ◌≡◌ {A = Geometry × Way} (h, w) (g, way) = cc in
          let same : h ≡ g = ap (λ (p : Geometry × Way). p.0) pair in
          let alike : w ≡ way = ap (λ (p : Geometry × Way). p.1) pair in
          let here : IsLeaving h w = record { passed = p; leaves = k } in
          rw (same, alike) at here

      checked : (c : Result Geometry Refusal) → c ≡ fault_of t → evict_checked t n b place c ≡ Ok (g, way) → IsLeaving g way
      checked (Err x) p e = let z : ◌≡◌ {A = ℕ} 0 1 = cc in absurd (omega arith)
      checked (Ok h) p e = goes h p (way_of h (view h t) place n b) refl e

  -- ---- and so the plan

  pub evict_refused : {x : Refusal} → Err x ≡ evict_ready t place n b → evict_of t n b place ≡ refuse x
  unfolding evict_ready evict_checked evict_way
  evict_refused {x} e = checked (fault_of t) refl (sym e)
    where
      goes : (h : Geometry) → Ok h ≡ fault_of t → (r : Result Way Refusal) → r ≡ way_of h (view h t) place n b
          → evict_way h r ≡ Err x → evict_of t n b place ≡ refuse x
      goes h p (Err y) k e =
          let same : y ≡ x = cc in
          let turned = stays_turned h (view h t) place n b k in
          plan_refused (λ g v. evict_admission g v place n b) t (λ g v. carry g 0 (evict_stores g v place n b))
          (rw same at (ready_turned (λ g v. evict_admission g v place n b) t p (sym turned)))
      goes h p (Ok w) k e = let z : ◌≡◌ {A = ℕ} 0 1 = cc in absurd (omega arith)

      checked : (c : Result Geometry Refusal) → c ≡ fault_of t → evict_checked t n b place c ≡ Err x → evict_of t n b place ≡ refuse x
      checked (Err y) p e =
          let same : y ≡ x = cc in
          plan_refused (λ g v. evict_admission g v place n b) t (λ g v. carry g 0 (evict_stores g v place n b))
          (rw same at (ready_failed (λ g v. evict_admission g v place n b) t p))
      checked (Ok h) p e = goes h p (way_of h (view h t) place n b) refl e

  acts :
      {g : Geometry} → Ok g ≡ fault_of t → evict_admission g (view g t) place n b ≡ Ok tt
      → evict_of t n b place ≡ carry g 0 (evict_stores g (view g t) place n b)
  acts h k =
      plan_ready (λ g v. evict_admission g v place n b) t (λ g v. carry g 0 (evict_stores g v place n b))
      (ready_admitted (λ g v. evict_admission g v place n b) t h (sym k))

  module _ {g : Geometry} {way : Way} (e : Ok (g, way) ≡ evict_ready t place n b) where
    -- a node and an item of the table
    pub evict_there : Numbered n b
    evict_there =
        let r = leaving e in
        let a = way_admits g (view g t) place n b r.leaves in
        let s = (accepted_facts t g (sym r.passed)).shape.sizes in
        record { node = omega (arith, a.node, s); item = omega (arith, a.item, s) }

    pub drops_plan :
        way ≡ Drops
        → evict_of t n b place ≡ carry g 0 (source_stores place n b ((view g t).entry n b).state)
    drops_plan d =
        let r = leaving e in
        let l = drops_leaves g (view g t) place n b (rw d at r.leaves) in
        acts r.passed l.admitted ∙ ap (carry g 0) (evict_drops g (view g t) place n b l)

    pub goes_plan :
        {home : ℕ} → way ≡ Goes home
        → evict_of t n b place ≡ carry g 0 (moved_to g (view g t) place n b home ++ source_stores place n b ((view g t).entry n b).state)
    goes_plan d =
        let r = leaving e in
        let k = rw d at r.leaves in
        let l = goes_leaves g (view g t) place n b k in
        acts r.passed l.admitted ∙ ap (carry g 0) (evict_moves g (view g t) place n b l (goes_home_lem g (view g t) place n b k))
