-- Evict on a view: all stores of a copy that goes home, and of a Shared copy that is dropped.
use Prim.Native.Nat.{ℕ, ◌+◌, ◌≤◌, ◌<◌}
use mathlib.Core.Path.{◌≡◌, refl, sym, ap, ap₂, ◌∙◌, subst}
use mathlib.Core.Logic.{◌≢◌}
use mathlib.Core.Bool.{Bool, true, false, cond, ◌&&◌, ◌||◌}
use mathlib.Core.List.{List, [], ◌∷◌, ◌++◌, map}
use native.Mathlib.Omega.{arith}
use native.Mathlib.Decide.{ℕ_discrete, dec_lt}
use lib.Dec.{eqb, ltb}
use borrow.Author.Tests.{eqb-true, eq-eqb, ne_eqb, ltb-true, lt-ltb, le-ltb}
use Rattle.counting.proofs.Laws.Tests.{both, either, by_cases, no_both, other_holds}
use Rattle.counting.proofs.Laws.First.{first_passes}
use Rattle.table.specs.declared.geometry.Geometry.{Geometry}
use Rattle.table.specs.Words.{state_form, invalid, shared}
use Rattle.table.proofs.Laws.Forms.{form_facts}
use Rattle.table.specs.Changes.{checkpoint_of}
use Rattle.table.proofs.Laws.Changes.{checkpoint_none}
use Rattle.table.specs.Stores.{Store, entry_store, state_to, value_to, kept_to}
use Rattle.table.specs.View.{Entry, View, current, kept}
use Rattle.table.proofs.Laws.Via.{Via, done, via_then, via_weaken, via_loosen}
use Rattle.table.proofs.Laws.Pass.{Steps, Changed}
use Rattle.table.specs.Copies.{Copy, no_copy, back_copy, back_by}
use Rattle.table.proofs.Laws.Copies.{value_free}
use Rattle.entries.specs.Frames.{set_of, set_frames, used, frame_free}
use Rattle.entries.proofs.Laws.Frames.{set_there}
use Rattle.entries.proofs.Laws.SoundFacts.{SoundTable}
use Rattle.homes.proofs.Laws.HomeCode.{drops_if}
use Rattle.homes.specs.declared.places.Place.{Place}
use Rattle.homes.specs.declared.places.Place.TheVariants.{Current, Kept}
use Rattle.homes.specs.Home.{shared_at, shared_item, has_room, place_fits, dropped_item, current_left, arrival_of, drop_stores, arrival_changes, home_stores_by, home_stores}
use Rattle.homes.specs.Places.{code_in}
use Rattle.homes.specs.Evict.{dropped, source_stores, moved_to}
use Rattle.homes.proofs.Laws.Kept.{Live, live_test}
use Rattle.homes.proofs.Laws.SoundTells.{no_precommit, copies_agree}
use Rattle.homes.proofs.Laws.OneEntry.{OneAt, one_via, used_less}
use Rattle.homes.proofs.Laws.EvictEntry.{Arrives, Dropped, high_number, numbered, none_kept, current_arrives, taken_over_lem, kept_arrives, current_leaves, kept_leaves, shared_drops}
use Rattle.homes.proofs.Laws.EvictTells.{kept_low, high_alone}
use Rattle.homes.proofs.Laws.Moving.{Moves, still, twice, moved, Moving}
use Rattle.homes.proofs.Laws.EvictVia.{Ready, Arrived, ready_moving, drop_via, arrive_via, leave_via}

module _ (g : Geometry) (v : View) (phase number n h b : ℕ) (good : SoundTable g v phase number) (closed : phase ≢ 1)
    (source : Live g v n) (home : Live g v h) (other : h ≢ n) (item : b < g.items) where
  form_of : (k c : ℕ) → Live g v k → c < g.items → state_form (v.entry k c).state ≡ true
  form_of k c l i = good.forms k c l.there i (live_test g v k l)

  frames_of_lem : used g v h (set_of g b) ≤ set_frames g
  frames_of_lem = good.frames h (set_of g b) home.there (set_there g b) (live_test g v h home)

  begin : Ready g v n h b source home other item v
  begin = record {
    held = record { marks = refl; forms = form_of; frames = λ k s l i. good.frames k s l.there i (live_test g v k l) };
    back = λ k c l i. refl;
    stays = refl;
  }

  -- ---- the home has a frame, or drops its Shared copy of item d

  record Room (d : ℕ) (u : View) : Type 0 where
    ready : Ready g v n h b source home other item u
    free : used g u h (set_of g b) + 1 ≤ set_frames g
    current_place : current (u.entry h b) ≡ current_left (current (v.entry h b)) d b
    kept_place : kept (u.entry h b) ≡ kept (v.entry h b)

  unfoldable drops_of : ℕ → List Store
  drops_of d = cond (ltb d g.items) (entry_store h d (state_to invalid (kept (v.entry h d))) ∷ []) []

  room_has : frame_free g v h b ≡ true → (d : ℕ) → d ≡ g.items → Via g (Ready g v n h b source home other item) (Room d) v (drops_of d)
  unfolding current_left drops_of
  room_has f d e =
      let l : used g v h (set_of g b) < set_frames g = ltb-true (used g v h (set_of g b)) (set_frames g) f in
      rw (le-ltb d g.items (omega arith))
      (done begin (record { ready = begin; free = omega arith; current_place = rw (ne_eqb d b (λ z. omega arith)) refl; kept_place = refl }))

  room_drops : (d : ℕ) → d < g.items → current (v.entry h d) ≡ shared → Via g (Ready g v n h b source home other item) (Room d) v (drops_of d)
  unfolding current_left drops_of
  room_drops d l z =
      rw (lt-ltb d g.items l)
      (via_weaken (drop_via g v n h b source home other item v begin d l (shared_drops (v.entry h d) (form_of h d home l) z))
      (λ w r c. record {
        ready = r;
        free = (let f = used_less g v w h d b l (λ c' q. c.rest h c' (λ _ e. q e)) c.good.free in omega (arith, frames_of_lem));
        current_place = elim (ℕ_discrete d b) [
          | yes e ↦ rw (eq-eqb d b e) (ap (λ j. current (w.entry h j)) (sym e) ∙ c.good.current_place)
          | no e ↦ rw (ne_eqb d b e) (ap current (c.rest h b (λ _ q. e (sym q))))
        ];
        kept_place = elim (ℕ_discrete d b) [
          | yes e ↦ ap (λ j. kept (w.entry h j)) (sym e) ∙ c.good.kept_place ∙ ap (λ j. kept (v.entry h j)) e
          | no e ↦ ap kept (c.rest h b (λ _ q. e (sym q)))
        ];
      }))

  room_via : has_room g v h b ≡ true → Via g (Ready g v n h b source home other item) (Room (dropped_item g v h b)) v (drops_of (dropped_item g v h b))
  unfolding has_room dropped_item shared_item shared_at
  room_via r =
      by_cases (frame_free g v h b)
      (λ f. room_has f (dropped_item g v h b) (rw f refl))
      (λ f. let l : shared_item g v h < g.items = ltb-true (shared_item g v h) g.items (other_holds (frame_free g v h b) r f) in
      let z : current (v.entry h (shared_item g v h)) ≡ shared = eqb-true (current (v.entry h (shared_item g v h))) shared (first_passes (shared_at v h) g.items l) in
      rw f (room_drops (shared_item g v h) l z))

  left_invalid : (d : ℕ) → current_left invalid d b ≡ invalid
  unfolding current_left
  left_invalid d = by_cases (eqb d b) (λ e. rw e refl) (λ e. rw e refl)

  empties : (u : View) → Room (dropped_item g v h b) u → current (v.entry h b) ≡ invalid → current (u.entry h b) ≡ invalid
  empties u r z = r.current_place ∙ ap (λ c. current_left c (dropped_item g v h b) b) z ∙ left_invalid (dropped_item g v h b)

  -- ---- a current copy

  module _ (p q : Copy)
      (as-twice : (w : View) → back_copy (w.entry h b) ≡ p → back_copy (w.entry n b) ≡ back_copy (v.entry n b) → Moves n h b v w)
      (as_moved : (w : View) → back_copy (w.entry h b) ≡ p → back_copy (w.entry n b) ≡ q → Moves n h b v w)
      (comes : (e : Entry) → back_copy e ≡ back_copy (v.entry h b) → checkpoint_of (current e) ≡ 0
      → back_by (checkpoint_of (current (v.entry n b))) (kept e) (v.entry n b).value e.kept_value ≡ p)
      (leaves : back_by 0 (kept (v.entry n b)) (v.entry n b).value (v.entry n b).kept_value ≡ q)
      (alone : kept (v.entry h b) ≢ 0 → current (v.entry n b) < 4)
      (coded : current (v.entry n b) ≢ invalid) where
    code_low : current (v.entry n b) < 8
    code_low = (form_facts (v.entry n b).state (form_of n b source item)).code

    leaving : (u : View) → Arrived g v n h b source home other item p u → Via g (Moving g n h b v) (Moving g n h b v) u (source_stores Current n b (v.entry n b).state)
    unfolding source_stores
    leaving u r =
        leave_via g v n h b source home other item p q as-twice as_moved u r (current_leaves (v.entry n b) (form_of n b source item) q leaves)

    current_moves : place_fits g v Current b h ≡ true
        → Via g (Moving g n h b v) (Moving g n h b v) v (moved_to g v Current n b h ++ source_stores Current n b (v.entry n b).state)
    unfolding moved_to home_stores home_stores_by arrival_of drop_stores arrival_changes place_fits drops_of
    current_moves f = rw drops_if (via_then (go (eqb (current (v.entry h b)) shared) refl f) (λ u _ r. leaving u r))
      where
        go : (t : Bool) → eqb (current (v.entry h b)) shared ≡ t → (t || (eqb (current (v.entry h b)) invalid && has_room g v h b)) ≡ true
            → Via g (Moving g n h b v) (Arrived g v n h b source home other item p) v
            (cond t (entry_store h b (state_to (current (v.entry n b)) (kept (v.entry h b))) ∷ [])
            (drops_of (dropped_item g v h b) ++ map (entry_store h b) (value_to (v.entry n b).value ∷ state_to (current (v.entry n b)) (kept (v.entry h b)) ∷ [])))
        go true t f =
            let z = eqb-true (current (v.entry h b)) shared t in
            let x : (v.entry h b).value ≡ (v.entry n b).value =
            copies_agree g v phase number b good closed item n h source home coded (λ y. let y' = sym z ∙ y in omega arith) in
            let m = frames_of_lem in
            arrive_via g v n h b source home other item p q as-twice as_moved v begin 0 (omega arith)
            (taken_over_lem (v.entry h b) (form_of h b home item) z (current (v.entry n b)) p code_low alone
            (ap (λ x. back_by (checkpoint_of (current (v.entry n b))) (kept (v.entry h b)) x (v.entry h b).kept_value) x ∙ comes (v.entry h b) refl (rw z refl)))
        go false t f =
            let f' = both (eqb (current (v.entry h b)) invalid) f in
            let z = eqb-true (current (v.entry h b)) invalid f'.0 in
            via_then (via_loosen (room_via f'.1) (ready_moving g v n h b source home other item))
            (λ u _ r. let c = empties u r z in
            arrive_via g v n h b source home other item p q as-twice as_moved u r.ready 1 r.free
            {cs = value_to (v.entry n b).value ∷ state_to (current (v.entry n b)) (kept (v.entry h b)) ∷ []}
            (subst (λ k. Steps (Arrives (u.entry h b) 1 p) (λ e. back_copy e ≡ p) (u.entry h b) (value_to (v.entry n b).value ∷ state_to (current (v.entry n b)) k ∷ [])) r.kept_place
            (current_arrives (u.entry h b) (r.ready.held.forms h b home item) c (current (v.entry n b)) (v.entry n b).value p code_low
            (λ d. alone (λ y. d (r.kept_place ∙ y)))
            (comes (u.entry h b) (r.ready.back h b home item) (rw c refl)))))

  abbrev value_at : ℕ
  value_at = (v.entry n b).value

  abbrev kept_at : ℕ
  kept_at = (v.entry n b).kept_value

  -- Owner and Modified: no recovery copy moves
  plain_goes :
      current (v.entry n b) < 4 → current (v.entry n b) ≢ invalid → place_fits g v Current b h ≡ true
      → Via g (Moving g n h b v) (Moving g n h b v) v (moved_to g v Current n b h ++ source_stores Current n b (v.entry n b).state)
  plain_goes l coded f =
      current_moves (back_copy (v.entry h b)) (back_copy (v.entry n b)) (λ w x y. still x y) (λ w x y. still x y)
      (λ e q z. ap (λ i. back_by i (kept e) value_at e.kept_value) (checkpoint_none (current (v.entry n b)) l ∙ sym z)
      ∙ value_free (checkpoint_of (current e)) (kept e) e.value value_at e.kept_value (rw z refl) ∙ q)
      (ap (λ i. back_by i (kept (v.entry n b)) value_at kept_at) (sym (checkpoint_none (current (v.entry n b)) l)))
      (λ _. l) coded f

  home_plain : place_fits g v Current b h ≡ true → checkpoint_of (current (v.entry h b)) ≡ 0
  unfolding place_fits
  home_plain f =
      either (eqb (current (v.entry h b)) shared) f
      (λ e. rw (eqb-true (current (v.entry h b)) shared e) refl)
      (λ e. rw (eqb-true (current (v.entry h b)) invalid (both (eqb (current (v.entry h b)) invalid) e).0) refl)

  no_copy_at : (k : ℕ) → checkpoint_of (current (v.entry k b)) ≡ 0 → kept (v.entry k b) ≡ 0 → back_copy (v.entry k b) ≡ no_copy
  no_copy_at k z y =
      ap₂ (λ i j. back_by i j (v.entry k b).value (v.entry k b).kept_value) z y ∙ none_kept (v.entry k b).value (v.entry k b).kept_value

  -- Shared-CK
  checked_goes :
      4 ≤ current (v.entry n b) → current (v.entry n b) ≢ invalid → place_fits g v Current b h ≡ true
      → Via g (Moving g n h b v) (Moving g n h b v) v (moved_to g v Current n b h ++ source_stores Current n b (v.entry n b).state)
  checked_goes l coded f =
      let low : current (v.entry n b) < 6 = no_precommit g v phase number good closed n b source.there item (live_test g v n source) in
      let has = high_number (current (v.entry n b)) l low in
      let at_home = high_alone g v phase number b good closed item n h source home l in
      let at_source = high_alone g v phase number b good closed item n n source source l in
      let none : back_copy (v.entry h b) ≡ no_copy = no_copy_at h (home_plain f) at_home in
      current_moves (back_copy (v.entry n b)) no_copy (λ w x y. twice none x y) (λ w x y. moved none x y)
      (λ e q z. numbered (checkpoint_of (current (v.entry n b))) (kept e) value_at e.kept_value has
      ∙ sym (numbered (checkpoint_of (current (v.entry n b))) (kept (v.entry n b)) value_at kept_at has))
      (ap (λ k. back_by 0 k value_at kept_at) at_source ∙ none_kept value_at kept_at)
      (λ d. absurd (d at_home)) coded f

  -- ---- a kept copy

  left_low : (c d : ℕ) → c < 4 → current_left c d b < 4
  unfolding current_left
  left_low c d l = by_cases (eqb d b) (λ e. rw e (omega arith)) (λ e. rw e l)

  kept_goes :
      kept (v.entry n b) ≢ invalid → place_fits g v Kept b h ≡ true
      → Via g (Moving g n h b v) (Moving g n h b v) v (moved_to g v Kept n b h ++ source_stores Kept n b (v.entry n b).state)
  unfolding moved_to home_stores home_stores_by arrival_of drop_stores arrival_changes place_fits drops_of source_stores
  kept_goes coded f =
      rw drops_if (via_then
      (via_then (via_loosen (room_via fit.1) (ready_moving g v n h b source home other item))
      (λ u _ r. arrive_via g v n h b source home other item (back_copy (v.entry n b)) no_copy (λ w x y. twice none x y) (λ w x y. moved none x y) u r.ready 1 r.free
      {cs = kept_to kept_at ∷ state_to (current_left (current (v.entry h b)) (dropped_item g v h b) b) (kept (v.entry n b)) ∷ []}
      (subst (λ c. Steps (Arrives (u.entry h b) 1 (back_copy (v.entry n b))) (λ e. back_copy e ≡ back_copy (v.entry n b)) (u.entry h b) (kept_to kept_at ∷ state_to c (kept (v.entry n b)) ∷ [])) r.current_place
      (arriving u r))))
      (λ u _ r. leave_via g v n h b source home other item (back_copy (v.entry n b)) no_copy (λ w x y. twice none x y) (λ w x y. moved none x y) u r
      (kept_leaves (v.entry n b) (form_of n b source item) no_copy
      (ap (λ i. back_by i 0 value_at kept_at) (checkpoint_none (current (v.entry n b)) (low_at n source)) ∙ none_kept value_at kept_at))))
    where
      fit : (eqb (kept (v.entry h b)) invalid ≡ true) × (has_room g v h b ≡ true)
      fit = both (eqb (kept (v.entry h b)) invalid) f

      home_empty : kept (v.entry h b) ≡ invalid
      home_empty = eqb-true (kept (v.entry h b)) invalid fit.0

      low_at : (k : ℕ) → Live g v k → current (v.entry k b) < 4
      low_at k l = kept_low g v phase number b good closed item n k source l coded

      none : back_copy (v.entry h b) ≡ no_copy
      none = no_copy_at h (checkpoint_none (current (v.entry h b)) (low_at h home)) home_empty

      arriving : (u : View) → Room (dropped_item g v h b) u
          → Steps (Arrives (u.entry h b) 1 (back_copy (v.entry n b))) (λ e. back_copy e ≡ back_copy (v.entry n b)) (u.entry h b)
          (kept_to kept_at ∷ state_to (current (u.entry h b)) (kept (v.entry n b)) ∷ [])
      arriving u r =
          let l : current (u.entry h b) < 4 = rw r.current_place (left_low (current (v.entry h b)) (dropped_item g v h b) (low_at h home)) in
          kept_arrives (u.entry h b) (r.ready.held.forms h b home item) (r.kept_place ∙ home_empty) (kept (v.entry n b)) kept_at (back_copy (v.entry n b))
          (form_facts (v.entry n b).state (form_of n b source item)).kept_code l
          (ap (λ i. back_by i (kept (v.entry n b)) (u.entry h b).value kept_at) (checkpoint_none (current (u.entry h b)) l ∙ sym (checkpoint_none (current (v.entry n b)) (low_at n source)))
          ∙ value_free (checkpoint_of (current (v.entry n b))) (kept (v.entry n b)) value_at (u.entry h b).value kept_at
          (rw (checkpoint_none (current (v.entry n b)) (low_at n source)) refl))

  pub evict_moves_via :
      (place : Place) → code_in place (v.entry n b) ≢ invalid → place_fits g v place b h ≡ true
      → Via g (Moving g n h b v) (Moving g n h b v) v (moved_to g v place n b h ++ source_stores place n b (v.entry n b).state)
  evict_moves_via Current coded f =
      elim (dec_lt (current (v.entry n b)) 4) [ yes l ↦ plain_goes l coded f | no l ↦ checked_goes (omega arith) coded f ]
  evict_moves_via Kept coded f = kept_goes coded f

-- ---- a Shared copy is dropped

pub evict_drops_via :
    (g : Geometry) (v : View) (n b : ℕ) → n < g.nodes → b < g.items → (form : state_form (v.entry n b).state ≡ true) (place : Place)
    → dropped place (v.entry n b) ≡ true
    → Via g (OneAt (Arrives (v.entry n b) 0 (back_copy (v.entry n b))) n b v) (Changed (Dropped (v.entry n b) form) n b v) v
    (source_stores place n b (v.entry n b).state)
unfolding source_stores
evict_drops_via g v n b hn hb form Current e =
    one_via g (Arrives (v.entry n b) 0 (back_copy (v.entry n b))) (Dropped (v.entry n b) form) n b hn hb v
    (shared_drops (v.entry n b) form (eqb-true (current (v.entry n b)) shared e))
evict_drops_via g v n b hn hb form Kept e = absurd (no_both e refl)
