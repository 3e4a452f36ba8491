-- A whole eviction: its stores made on a view, one after the other.
use Prim.Native.Nat.{ℕ, ◌≤◌, ◌<◌}
use mathlib.Core.Path.{◌≡◌, refl, sym, ap, ◌∙◌, subst}
use mathlib.Core.Logic.{◌≢◌}
use mathlib.Core.Bool.{Bool, true, false, cond, ◌&&◌, ◌||◌}
use mathlib.Core.List.{List, [], ◌∷◌, ◌++◌, map}
use native.Mathlib.Omega.{arith}
use native.Mathlib.Decide.{ℕ_discrete}
use lib.Dec.{eqb, ltb}
use lib.ListN.{length}
use lib.Seq.{take_all}
use borrow.Author.Tests.{eqb-true, ltb-true, ltb-false}
use Rattle.counting.proofs.Laws.Tests.{both, no_both}
use Rattle.counting.proofs.Laws.First.{first_passes}
use Rattle.table.specs.declared.geometry.Geometry.{Geometry}
use Rattle.table.specs.Geometry.{words_of}
use Rattle.table.specs.Words.{state_word, invalid, shared}
use Rattle.table.specs.Stores.{Change, Store, entry_store, state_to, value_to, kept_to, after}
use Rattle.table.specs.View.{Entry, View, view, current, kept, changed, update, updates}
use Rattle.table.proofs.Laws.ViewAfter.{view_after}
use Rattle.table.proofs.Laws.Puts.{put₂_same, put₂_other}
use Rattle.table.proofs.Laws.Via.{Via, via_within}
use Rattle.table.specs.Answers.{carry}
use Rattle.entries.specs.Frames.{frame_free}
use Rattle.entries.proofs.Laws.SoundFacts.{SoundTable, phase_in, number_in}
use Rattle.entries.proofs.Laws.CheckFacts.{Accepted, accepted_facts}
use Rattle.homes.proofs.Laws.HomeCode.{drops_if}
use Rattle.homes.specs.declared.places.Place.{Place}
use Rattle.homes.specs.declared.places.Place.TheVariants.{Current, Kept}
use Rattle.homes.specs.Places.{code_in}
use Rattle.homes.specs.Home.{shared_at, shared_item, has_room, place_fits, home_of, dropped_item, current_left}
use Rattle.homes.specs.Home.{arrival_of, drop_stores, arrival_changes, home_stores_by, home_stores}
use Rattle.homes.specs.Evict.{dropped, state_left, source_stores, moved_to, evict_admission, evict_stores, evict_of}
use Rattle.homes.proofs.Laws.EvictCode.{evict_drops, evict_moves}
use Rattle.homes.proofs.Laws.EvictTells.{Leaving, evict_leaving}
use Rattle.homes.proofs.Laws.EvictMoves.{evict_moves_via, evict_drops_via}
use Rattle.homes.proofs.Laws.EvictTheorem.{admits, evict_home}
use Rattle.homes.proofs.Laws.Plans.{Carried, acted_carried}
use Rattle.homes.proofs.Laws.Kept.{Live, live_test}
use Rattle.homes.proofs.Laws.Placed.{placed}
use Rattle.homes.proofs.Laws.SoundTells.{copies_agree}
use Rattle.homes.proofs.Laws.EvictDone.{left_in, arrived_in, home_drops, SharedDropped, WentHome, Evicted}

-- ---- stores in one entry

record Made (n b : ℕ) (e : Entry) (v w : View) : Type 0 where
  here : w.entry n b ≡ e
  rest : (k c : ℕ) → (k ≡ n → c ≡ b → ⊥) → w.entry k c ≡ v.entry k c
  marks : w.mark ≡ v.mark

module _ (n b : ℕ) (v : View) where
  made_none : Made n b (v.entry n b) v v
  made_none = record { here = refl; rest = λ k c _. refl; marks = refl }

  made_then : {e : Entry} (c : Change) {u : View} → Made n b e v u → Made n b (changed c e) v (update (entry_store n b c) u)
  made_then c {u} m = record {
    here = put₂_same u.entry n b (changed c (u.entry n b)) ∙ ap (changed c) m.here;
    rest = λ k i d. put₂_other u.entry n b (changed c (u.entry n b)) k i d ∙ m.rest k i d;
    marks = m.marks;
  }

updates_then : (xs ys : List Store) (v : View) → updates (xs ++ ys) v ≡ updates ys (updates xs v)
updates_then [] ys v = refl
updates_then (x ∷ xs) ys v = updates_then xs ys (update x v)

-- ---- the home's drop

module _ (g : Geometry) (v : View) (h d : ℕ) where
  record Prepared (u : View) : Type 0 where
    drops : d < g.items → u.entry h d ≡ placed (v.entry h d) invalid (v.entry h d).value
    rest : (k c : ℕ) → (d < g.items → k ≡ h → c ≡ d → ⊥) → u.entry k c ≡ v.entry k c
    marks : u.mark ≡ v.mark

  abbrev drops_of : Bool → List Store
  drops_of q = cond q (entry_store h d (state_to invalid (kept (v.entry h d))) ∷ []) []

  prepared : (q : Bool) → ltb d g.items ≡ q → Prepared (updates (drops_of q) v)
  prepared true e =
      let m = made_then h d v (state_to invalid (kept (v.entry h d))) (made_none h d v) in
      let l = ltb-true d g.items e in
      record { drops = λ _. m.here; rest = λ k c x. m.rest k c (x l); marks = m.marks }
  prepared false e = let z = ltb-false d g.items e in record { drops = λ l. absurd (omega arith); rest = λ k c _. refl; marks = refl }

  unprepared : g.items ≤ d → Prepared v
  unprepared z = record { drops = λ l. absurd (omega arith); rest = λ k c _. refl; marks = refl }

-- ---- the home's drop, the copy that comes, the source's state

module _ (g : Geometry) (v : View) (place : Place) (n h b : ℕ) (other : h ≢ n) where
  left_is : (e : Entry) → changed (state_left place e.state) e ≡ left_in place e
  left_is e = go place
    where
      go : (p : Place) → changed (state_left p e.state) e ≡ left_in p e
      go Current = refl
      go Kept = refl

  went :
      (d : ℕ) (u x w : View) {e : Entry} → (d < g.items → current (v.entry h d) ≡ shared) → Prepared g v h d u → Made h b e u x
      → e ≡ arrived_in place d b (v.entry n b) (v.entry h b) → Made n b (changed (state_left place (v.entry n b).state) (x.entry n b)) x w
      → WentHome g place n h b d v w
  went d u x w shares p m a s =
      let at : x.entry n b ≡ v.entry n b = m.rest n b (λ e _. other (sym e)) ∙ p.rest n b (λ _ e _. other (sym e)) in
      record {
        source = s.here ∙ ap (changed (state_left place (v.entry n b).state)) at ∙ left_is (v.entry n b);
        home = s.rest h b (λ e _. other e) ∙ m.here ∙ a;
        shares = shares;
        drops = λ l q. s.rest h d (λ e _. other e) ∙ m.rest h d (λ _ e. q e) ∙ p.drops l;
        rest = λ k c i j q. s.rest k c i ∙ m.rest k c j ∙ p.rest k c q;
        marks = s.marks ∙ m.marks ∙ p.marks;
      }

  source_made : (x : View) → Made n b (changed (state_left place (v.entry n b).state) (x.entry n b)) x (updates (source_stores place n b (v.entry n b).state) x)
  unfolding source_stores
  source_made x = made_then n b x (state_left place (v.entry n b).state) (made_none n b x)

module _ (g : Geometry) (v : View) (h b : ℕ) where
  pub drops_shared : dropped_item g v h b < g.items → current (v.entry h (dropped_item g v h b)) ≡ shared
  unfolding dropped_item shared_item shared_at
  drops_shared = go (frame_free g v h b)
    where
      go : (q : Bool) → cond q g.items (shared_item g v h) < g.items → current (v.entry h (cond q g.items (shared_item g v h))) ≡ shared
      go true l = absurd (omega arith)
      go false l = eqb-true _ shared (first_passes (shared_at v h) g.items l)

module _ (g : Geometry) (v : View) (phase number n h b : ℕ) (good : SoundTable g v phase number) (closed : phase ≢ 1)
    (source : Live g v n) (home : Live g v h) (other : h ≢ n) (item : b < g.items) where
  abbrev from : Entry
  from = v.entry n b

  abbrev drop : ℕ
  drop = dropped_item g v h b

  abbrev ready : View
  ready = updates (drops_of g v h drop (ltb drop g.items)) v

  is_ready : Prepared g v h drop ready
  is_ready = prepared g v h drop (ltb drop g.items) refl

  current_goes :
      current from ≢ invalid → place_fits g v Current b h ≡ true
      → WentHome g Current n h b (home_drops g v Current h b) v (updates (moved_to g v Current n b h ++ source_stores Current n b from.state) v)
  unfolding home_drops moved_to home_stores home_stores_by arrival_of drop_stores arrival_changes place_fits
  current_goes coded f = rw drops_if (go (eqb (current (v.entry h b)) shared) refl f)
    where
      go : (t : Bool) → eqb (current (v.entry h b)) shared ≡ t → (t || (eqb (current (v.entry h b)) invalid && has_room g v h b)) ≡ true
          → WentHome g Current n h b (cond t g.items drop) v
          (updates (cond t (entry_store h b (state_to (current from) (kept (v.entry h b))) ∷ [])
          (drops_of g v h drop (ltb drop g.items) ++ map (entry_store h b) (value_to from.value ∷ state_to (current from) (kept (v.entry h b)) ∷ []))
          ++ source_stores Current n b from.state) v)
      go true t f =
          let z = eqb-true (current (v.entry h b)) shared t in
          let x : (v.entry h b).value ≡ from.value =
          copies_agree g v phase number b good closed item n h source home coded (λ y. let y' = sym z ∙ y in omega arith) in
          let m = made_then h b v (state_to (current from) (kept (v.entry h b))) (made_none h b v) in
          went g v Current n h b other g.items v _ _ (λ l. absurd (omega arith)) (unprepared g v h g.items (omega arith)) m
          (ap (placed (v.entry h b) (current from)) x) (source_made g v Current n h b other _)
      go false t f =
          let f' = both (eqb (current (v.entry h b)) invalid) f in
          let z = eqb-true (current (v.entry h b)) invalid f'.0 in
          let at : ready.entry h b ≡ v.entry h b =
          is_ready.rest h b (λ l _ e. let y = ap (λ c. current (v.entry h c)) e ∙ drops_shared g v h b l in omega arith) in
          let m = made_then h b ready (state_to (current from) (kept (v.entry h b))) (made_then h b ready (value_to from.value) (made_none h b ready)) in
          rw (
            updates_then (drops_of g v h drop (ltb drop g.items) ++ map (entry_store h b) (value_to from.value ∷ state_to (current from) (kept (v.entry h b)) ∷ [])) (source_stores Current n b from.state) v,
            updates_then (drops_of g v h drop (ltb drop g.items)) (map (entry_store h b) (value_to from.value ∷ state_to (current from) (kept (v.entry h b)) ∷ [])) v,
          )
          (went g v Current n h b other drop ready _ _ (drops_shared g v h b) is_ready m
          (ap (λ e. changed (state_to (current from) (kept (v.entry h b))) (changed (value_to from.value) e)) at) (source_made g v Current n h b other _))

  kept_goes :
      WentHome g Kept n h b (home_drops g v Kept h b) v (updates (moved_to g v Kept n b h ++ source_stores Kept n b from.state) v)
  unfolding home_drops moved_to home_stores home_stores_by arrival_of drop_stores arrival_changes
  kept_goes =
      let cur = current_left (current (v.entry h b)) drop b in
      let m = made_then h b ready (state_to cur (kept from)) (made_then h b ready (kept_to from.kept_value) (made_none h b ready)) in
      let x : (ready.entry h b).value ≡ (v.entry h b).value =
      elim (ℕ_discrete drop b) [
        | no e ↦ ap (λ i. i.value) (is_ready.rest h b (λ _ _ q. e (sym q)))
        | yes e ↦ ap (λ c. (ready.entry h c).value) (sym e) ∙ ap (λ i. i.value) (is_ready.drops (omega arith)) ∙ ap (λ c. (v.entry h c).value) e
      ] in
      rw (
        drops_if,
        updates_then (drops_of g v h drop (ltb drop g.items) ++ map (entry_store h b) (kept_to from.kept_value ∷ state_to cur (kept from) ∷ [])) (source_stores Kept n b from.state) v,
        updates_then (drops_of g v h drop (ltb drop g.items)) (map (entry_store h b) (kept_to from.kept_value ∷ state_to cur (kept from) ∷ [])) v,
      )
      (went g v Kept n h b other drop ready _ _ (drops_shared g v h b) is_ready m
      (ap (λ y. record { state = state_word cur (kept from); value = y; kept_value = from.kept_value }) x) (source_made g v Kept n h b other _))

  pub place_goes :
      (place : Place) → code_in place from ≢ invalid → place_fits g v place b h ≡ true
      → WentHome g place n h b (home_drops g v place h b) v (updates (moved_to g v place n b h ++ source_stores place n b from.state) v)
  place_goes Current coded f = current_goes coded f
  place_goes Kept coded f = kept_goes

-- ---- a Shared copy is dropped

pub place_drops :
    (v : View) (n b : ℕ) (place : Place) → dropped place (v.entry n b) ≡ true → SharedDropped n b v (updates (source_stores place n b (v.entry n b).state) v)
unfolding source_stores
place_drops v n b Current e =
    let m = made_then n b v (state_to invalid (kept (v.entry n b))) (made_none n b v) in
    record { place = eqb-true (current (v.entry n b)) shared e; source = m.here; rest = m.rest; marks = m.marks }
place_drops v n b Kept e = absurd (no_both e refl)

-- ---- the table after all stores

whole_view :
    (g : Geometry) {P B : View → Type 0} {ss : List Store} (t : List ℕ) → words_of g ≤ length t → Via g P B (view g t) ss → (limit : ℕ) → length ss ≤ limit
    → view g (after g limit ss t) ≡ updates ss (view g t)
whole_view g {ss = ss} t long h limit all = view_after g limit t long (via_within h) ∙ ap (λ l. updates l (view g t)) (take_all limit ss all)

module _ (t : List ℕ) (n b : ℕ) (place : Place) {g : Geometry} {value : ℕ} {ss : List Store} (accepted : evict_of t n b place ≡ carry g value ss) where
  carried : Carried (λ g v. evict_admission g v place n b) (λ g v. evict_stores g v place n b) t g ss
  carried = acted_carried (λ g v. evict_admission g v place n b) (λ g v. 0) (λ g v. evict_stores g v place n b) t accepted

  facts : Accepted t g (phase_in g (view g t)) (number_in g (view g t))
  facts = accepted_facts t g carried.passed

  leaving : Leaving g (view g t) place n b
  leaving = evict_leaving g (view g t) place n b carried.admitted

  left : Live g (view g t) n
  left = record { there = (admits t n b place accepted).node; marked = (admits t n b place accepted).live }

  closed : phase_in g (view g t) ≢ 1
  closed e = (admits t n b place accepted).closed (facts.table.phases n left.there (live_test g (view g t) n left) ∙ e)

  module _ (limit : ℕ) (all : length ss ≤ limit) where
    all_dropped : dropped place ((view g t).entry n b) ≡ true → SharedDropped n b (view g t) (view g (after g limit ss t))
    all_dropped e =
        let are : ss ≡ source_stores place n b ((view g t).entry n b).state =
        carried.stores_are ∙ evict_drops g (view g t) place n b (record { admitted = carried.admitted; dropping = e }) in
        let whole : view g (after g limit ss t) ≡ updates (source_stores place n b ((view g t).entry n b).state) (view g t) =
        ap (λ l. view g (after g limit l t)) are
        ∙ whole_view g t facts.shape.long
        (evict_drops_via g (view g t) n b left.there (admits t n b place accepted).item
        (facts.table.forms n b left.there (admits t n b place accepted).item (live_test g (view g t) n left)) place e) limit (subst (λ l. length l ≤ limit) are all) in
        rw whole (place_drops (view g t) n b place e)

    all_gone :
        dropped place ((view g t).entry n b) ≡ false
        → WentHome g place n (home_of g (view g t) place n b) b (home_drops g (view g t) place (home_of g (view g t) place n b) b) (view g t) (view g (after g limit ss t))
    all_gone e =
        let h = home_of g (view g t) place n b in
        let at = evict_home t n b place accepted e in
        let are : ss ≡ moved_to g (view g t) place n b h ++ source_stores place n b ((view g t).entry n b).state =
        carried.stores_are ∙ evict_moves g (view g t) place n b (record { admitted = carried.admitted; dropping = e }) refl in
        let whole : view g (after g limit ss t) ≡ updates (moved_to g (view g t) place n b h ++ source_stores place n b ((view g t).entry n b).state) (view g t) =
        ap (λ l. view g (after g limit l t)) are
        ∙ whole_view g t facts.shape.long
        (evict_moves_via g (view g t) _ _ n h b facts.table closed left at.node at.found.other
        (admits t n b place accepted).item place leaving.coded at.takes)
        limit (subst (λ l. length l ≤ limit) are all) in
        rw whole (place_goes g (view g t) _ _ n h b facts.table closed left at.node at.found.other
        (admits t n b place accepted).item place leaving.coded at.takes)

    -- THE RESULT of a whole eviction
    pub evict_evicted : Evicted g place n b (view g t) (view g (after g limit ss t))
    evict_evicted = record { drops = all_dropped; goes = all_gone }
