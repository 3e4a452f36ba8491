-- What a create that was carried out tells: the item is dirty, its owner live, and so its partner, a sharer or a home.
use Prim.Native.Nat.{ℕ, ◌<◌}
use mathlib.Core.Path.{◌≡◌, refl, sym, ap, ◌∙◌}
use mathlib.Core.Logic.{◌≢◌}
use mathlib.Core.Bool.{Bool, true, false, cond, not}
use mathlib.Core.List.{List}
use native.Mathlib.Omega.{arith}
use lib.Dec.{ltb, eqb}
use borrow.Author.Tests.{eqb-true, ltb-true, ltb-false}
use Rattle.counting.proofs.Laws.Tests.{both, and_no_right, other_holds, by_cases}
use Rattle.counting.proofs.Laws.First.{first_passes, first_least}
use Rattle.table.specs.declared.geometry.Geometry.{Geometry}
use Rattle.table.specs.declared.answers.Refusal.TheVariants.{NoHome}
use Rattle.table.specs.Words.{invalid, shared}
use Rattle.table.specs.Stores.{Store}
use Rattle.table.specs.View.{View, live, current}
use Rattle.table.proofs.Laws.Via.{Via}
use Rattle.table.specs.Answers.{refuse, nothing_left, carry}
use Rattle.entries.proofs.Laws.Kinds.{Kind, clean, dirty, created, copy_at}
use Rattle.entries.proofs.Laws.SoundFacts.{SoundTable}
use Rattle.homes.specs.declared.places.Place.TheVariants.{Current}
use Rattle.entries.specs.Dirty.{owns, owns_at, owner_of, dirty_item}
use Rattle.homes.specs.Home.{has_room, place_fits, home_of, dropped_item}
use Rattle.homes.proofs.Laws.HomeLaws.{home_fits}
use Rattle.homes.proofs.Laws.EvictLeaves.{drops_shared}
use Rattle.checkpoints.specs.Create.{shares_at, sharer_of, has_sharer, precommit2_stores, create_item, create_stores, no_partner, create_plan}
use Rattle.checkpoints.proofs.Laws.CreateCode.{next_owned}
use Rattle.homes.proofs.Laws.Kept.{Live, Kept, live_test, test_live}
use Rattle.checkpoints.proofs.Laws.Created.{partner_of, partner_drops, CreateFinds, CreateLeaves}
use Rattle.checkpoints.proofs.Laws.CreateVia.{owns_not, sharer_via, taken_via}

-- ---- the plan

pub record Creates (h : Geometry) (v : View) (g : Geometry) (x : ℕ) (ss : List Store) : Type 0 where
  pub same : h ≡ g
  pub answer : x ≡ 0
  pub some : dirty_item h v < h.items
  pub partnered : no_partner h v (dirty_item h v) ≡ false
  pub stores_are : ss ≡ create_stores h v

pub plan_creates : (h : Geometry) (v : View) {g : Geometry} {x : ℕ} {ss : List Store} → create_plan h v ≡ carry g x ss → Creates h v g x ss
unfolding create_plan
plan_creates h v {g} {x} {ss} e = go (ltb (dirty_item h v) h.items) (no_partner h v (dirty_item h v)) refl refl e
  where
    go : (p q : Bool) → ltb (dirty_item h v) h.items ≡ p → no_partner h v (dirty_item h v) ≡ q
        → cond (not p) nothing_left (cond q (refuse NoHome) (carry h 0 (create_stores h v))) ≡ carry g x ss → Creates h v g x ss
    go false q i j k = let z : ◌≡◌ {A = ℕ} 0 1 = cc in absurd (omega arith)
    go true true i j k = let z : ◌≡◌ {A = ℕ} 0 1 = cc in absurd (omega arith)
    go true false i j k =
        let list : create_stores h v ≡ ss = cc in
        let answer : 0 ≡ x = cc in
        record { same = cc; answer = sym answer; some = ltb-true _ _ i; partnered = j; stores_are = sym list }

-- ---- an item's current copies have one value

pub values_agree :
    (g : Geometry) (v : View) (phase number b : ℕ) → SoundTable g v phase number → b < g.items → (n m : ℕ) → Live g v n → Live g v m
    → current (v.entry n b) ≢ invalid → current (v.entry m b) ≢ invalid → (v.entry m b).value ≡ (v.entry n b).value
values_agree g v phase number b good item n m ln lm dn dm = of_kind (good.items b item)
  where
    of_kind : Kind phase v g.nodes b → (v.entry m b).value ≡ (v.entry n b).value
    of_kind (clean k) =
        k.values m lm.there (copy_at v b m (live_test g v m lm) dm) ∙ sym (k.values n ln.there (copy_at v b n (live_test g v n ln) dn))
    of_kind (dirty k) =
        k.values m lm.there (copy_at v b m (live_test g v m lm) dm) ∙ sym (k.values n ln.there (copy_at v b n (live_test g v n ln) dn))
    of_kind (created e k) =
        k.values m lm.there (copy_at v b m (live_test g v m lm) dm) ∙ sym (k.values n ln.there (copy_at v b n (live_test g v n ln) dn))

-- ---- the owner and the partner

module _ (g : Geometry) (v : View) (b : ℕ) where
  pub record Owning : Type 0 where
    pub node : Live g v (owner_of g v b)
    pub owned : owns (current (v.entry (owner_of g v b) b)) ≡ true

  pub owner_tells : owner_of g v b < g.nodes → Owning
  unfolding owner_of owns_at
  owner_tells l =
      let p = both (live v (owner_of g v b)) (first_passes (owns_at v b) g.nodes l) in
      record { node = test_live g v (owner_of g v b) l p.0; owned = p.1 }

  record Sharing : Type 0 where
    node : Live g v (sharer_of g v b)
    place : current (v.entry (sharer_of g v b) b) ≡ shared

  sharer_tells : has_sharer g v b ≡ true → Sharing
  unfolding sharer_of shares_at
  sharer_tells q =
      let l = ltb-true (sharer_of g v b) g.nodes q in
      let p = both (live v (sharer_of g v b)) (first_passes (shares_at v b) g.nodes l) in
      record { node = test_live g v (sharer_of g v b) l p.0; place = eqb-true _ shared p.1 }

  pub none_shares : has_sharer g v b ≡ false → (k : ℕ) → Live g v k → eqb (current (v.entry k b)) shared ≡ false
  unfolding sharer_of shares_at
  none_shares q k l =
      let m = ltb-false (sharer_of g v b) g.nodes q in
      let i = l.there in
      and_no_right (live v k) (live_test g v k l) (first_least (shares_at v b) g.nodes k (omega arith))

  record Taking (h : ℕ) : Type 0 where
    node : Live g v h
    other : h ≢ owner_of g v b
    place : current (v.entry h b) ≡ invalid
    room : has_room g v h b ≡ true

  home_tells : no_partner g v b ≡ false → has_sharer g v b ≡ false → Taking (home_of g v Current (owner_of g v b) b)
  unfolding no_partner place_fits
  home_tells e q =
      let h : ℕ = home_of g v Current (owner_of g v b) b in
      let f = home_fits g v Current (owner_of g v b) b (and_no_right (not (has_sharer g v b)) (rw q refl) e) in
      let t = other_holds (eqb (current (v.entry h b)) shared) f.takes (none_shares q h f.node) in
      let p = both (eqb (current (v.entry h b)) invalid) t in
      record { node = f.node; other = f.found.other; place = eqb-true _ invalid p.0; room = p.1 }

-- a home drops a Shared copy of another item
module _ (g : Geometry) (v : View) (h b : ℕ) where
  dropped_other : b < g.items → current (v.entry h b) ≡ invalid → dropped_item g v h b ≢ b
  dropped_other l z e =
      let s = drops_shared g v h b (omega arith) in
      let r : current (v.entry h b) ≡ shared = sym (ap (λ c. current (v.entry h c)) e) ∙ s in
      omega (arith, z, r)

-- ---- the whole list

module _ (g : Geometry) (v : View) (phase number : ℕ) (good : SoundTable g v phase number) (some : dirty_item g v < g.items)
    (partnered : no_partner g v (dirty_item g v) ≡ false) where
  abbrev b : ℕ
  b = dirty_item g v

  owner_there : owner_of g v (dirty_item g v) < g.nodes
  owner_there = next_owned g v refl some

  owning : Owning g v (dirty_item g v)
  owning = owner_tells g v (dirty_item g v) owner_there

  agrees : (p : ℕ) → Live g v p → current (v.entry p b) ≡ shared → (v.entry p b).value ≡ (v.entry (owner_of g v b) b).value
  agrees p l e =
      values_agree g v phase number b good some (owner_of g v b) p owning.node l (owns_not _ owning.owned).1 (λ z. omega (arith, e, z))

  pub create_via : Via g (Kept g v) (CreateLeaves g v) v (create_stores g v)
  unfolding create_item precommit2_stores partner_of partner_drops
  create_via =
      by_cases (has_sharer g v b)
      (λ q. let s = sharer_tells g v b q in
      rw q (sharer_via g v phase number b (owner_of g v b) good some owning.node owning.owned (sharer_of g v b) s.node s.place
      (agrees (sharer_of g v b) s.node s.place)))
      (λ q. let t = home_tells g v b partnered q in
      rw q (taken_via g v phase number b (owner_of g v b) good some owning.node owning.owned (home_of g v Current (owner_of g v b) b)
      t.node t.other t.place t.room))

  -- the table at entry
  pub create_finds : CreateFinds g v
  unfolding partner_of partner_drops
  create_finds =
      by_cases (has_sharer g v b)
      (λ q. let s = sharer_tells g v b q in
      rw q (record {
        item = some;
        owner = owning.node;
        owned = owning.owned;
        partner = s.node;
        other = λ e. (owns_not _ owning.owned).0 (sym (ap (λ k. current (v.entry k b)) e) ∙ s.place);
        place = λ d. absurd (d s.place);
        agreed = agrees (sharer_of g v b) s.node;
        drops = λ (m : g.items < g.items). absurd (omega arith);
        apart = λ (e : g.items ≡ b). omega arith;
      }))
      (λ q. let t = home_tells g v b partnered q in
      rw q (record {
        item = some;
        owner = owning.node;
        owned = owning.owned;
        partner = t.node;
        other = t.other;
        place = λ d. t.place;
        agreed = agrees (home_of g v Current (owner_of g v b) b) t.node;
        drops = drops_shared g v (home_of g v Current (owner_of g v b) b) b;
        apart = dropped_other g v (home_of g v Current (owner_of g v b) b) b some t.place;
      }))
