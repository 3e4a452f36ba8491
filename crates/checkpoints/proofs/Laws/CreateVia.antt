-- Create on a view: every store keeps every live entry's recovery copy, and the last one leaves the item created.
use Prim.Native.Nat.{ℕ, ◌+◌, ◌≤◌, ◌<◌}
use mathlib.Core.Path.{◌≡◌, refl, sym, ap, ◌∙◌}
use mathlib.Core.Logic.{◌≢◌}
use mathlib.Core.Bool.{true, false}
use mathlib.Core.List.{List, [], ◌∷◌}
use native.Mathlib.Omega.{arith}
use lib.Dec.{eqb}
use borrow.Author.Tests.{eqb-true, ne_eqb, ltb-true, lt-ltb, le-ltb}
use Rattle.counting.proofs.Laws.Tests.{by_cases, other_holds, either}
use Rattle.counting.proofs.Laws.First.{first_passes}
use Rattle.table.specs.declared.geometry.Geometry.{Geometry}
use Rattle.table.specs.Words.{state_form, invalid, shared, owner, modified, precommit1, precommit2}
use Rattle.table.specs.Stores.{Store, entry_store, state_to, value_to}
use Rattle.table.specs.View.{View, current, kept}
use Rattle.table.proofs.Laws.Via.{Via, via_then, via_weaken}
use Rattle.table.proofs.Laws.Pass.{Changed}
use Rattle.entries.specs.Frames.{set_of, set_frames, used, frame_free}
use Rattle.entries.proofs.Laws.Frames.{set_there}
use Rattle.entries.proofs.Laws.SoundFacts.{SoundTable}
use Rattle.homes.specs.declared.places.Place.TheVariants.{Current}
use Rattle.entries.specs.Dirty.{owns}
use Rattle.homes.specs.Home.{shared_at, shared_item, has_room, dropped_item, arrival_of, drop_stores, arrival_changes, home_stores_by, home_stores}
use Rattle.checkpoints.specs.Create.{turn}
use Rattle.homes.proofs.Laws.Kept.{Live, Kept, live_test}
use Rattle.homes.proofs.Laws.FramesKept.{used_no_more}
use Rattle.homes.proofs.Laws.Placed.{placed}
use Rattle.checkpoints.proofs.Laws.Created.{Paired}
use Rattle.homes.proofs.Laws.KeptOn.{kept_begins, on_via, used_less}
use Rattle.checkpoints.proofs.Laws.CreateEntry.{owner_steps, sharer_steps, drop_steps, drop_frames, arrival_steps}

-- ---- a home's stores, where its current place is Invalid

abbrev arrival : View → ℕ → ℕ → ℕ → List Store
arrival v h b x = entry_store h b (value_to x) ∷ entry_store h b (state_to precommit2 (kept (v.entry h b))) ∷ []

module _ (g : Geometry) (v : View) (h b : ℕ) where
  -- it has a frame
  module _ (frame : frame_free g v h b ≡ true) where
    pub drops_none : dropped_item g v h b ≡ g.items
    unfolding dropped_item
    drops_none = rw frame refl

    home_free : (x : ℕ) → current (v.entry h b) ≢ shared → home_stores g v Current h b precommit2 x ≡ arrival v h b x
    unfolding home_stores home_stores_by arrival_of drop_stores arrival_changes
    home_free x e = rw (ne_eqb (current (v.entry h b)) shared e, drops_none, le-ltb g.items g.items (omega arith)) refl

  -- it drops a Shared copy
  module _ (frame : frame_free g v h b ≡ false) (some : shared_item g v h < g.items) where
    pub drops_some : dropped_item g v h b ≡ shared_item g v h
    unfolding dropped_item
    drops_some = rw frame refl

    home_drops : (x : ℕ) → current (v.entry h b) ≢ shared
        → home_stores g v Current h b precommit2 x ≡ turn v h (shared_item g v h) invalid ∷ arrival v h b x
    unfolding home_stores home_stores_by arrival_of drop_stores arrival_changes
    home_drops x e = rw (ne_eqb (current (v.entry h b)) shared e, drops_some, lt-ltb (shared_item g v h) g.items some) refl

  shared_there : shared_item g v h < g.items → current (v.entry h (shared_item g v h)) ≡ shared
  unfolding shared_item shared_at
  shared_there l = eqb-true _ shared (first_passes (shared_at v h) g.items l)

pub owns_not : (c : ℕ) → owns c ≡ true → (c ≢ shared) × (c ≢ invalid)
owns_not c h =
    either (eqb c owner) h
    (λ q. let e = eqb-true c owner q in ((λ (z : c ≡ 1). omega arith), (λ (z : c ≡ 0). omega arith)))
    (λ q. let e = eqb-true c modified q in ((λ (z : c ≡ 1). omega arith), (λ (z : c ≡ 0). omega arith)))

module _ (g : Geometry) (v : View) (phase number b o : ℕ) (good : SoundTable g v phase number) (item : b < g.items) (own : Live g v o)
    (owned : owns (current (v.entry o b)) ≡ true) where
  form_of : (k c : ℕ) → Live g v k → c < g.items → state_form (v.entry k c).state ≡ true
  form_of k c l h = good.forms k c l.there h (live_test g v k l)

  frames_of_lem : (u : View) → Kept g v u → (k c : ℕ) → Live g v k → used g u k (set_of g c) + 0 ≤ set_frames g
  frames_of_lem u s k c l = let m = s.frames k (set_of g c) l (set_there g c) in omega arith

  abbrev Turned : View → Type 0
  Turned = Changed (λ e. e ≡ placed (v.entry o b) precommit1 (v.entry o b).value) o b v

  -- ---- "Its owner turns Precommit1."
  owner_via : Via g (Kept g v) Turned v (turn v o b precommit1 ∷ [])
  owner_via =
      let s = kept_begins g v phase number good in
      on_via g v v s o b 0 own item (frames_of_lem v s o b own) (λ e. e ≡ placed (v.entry o b) precommit1 (v.entry o b).value)
      (owner_steps (v.entry o b) (form_of o b own item) owned)

  -- ---- "The lowest-numbered node with a Shared copy turns Precommit2"
  pub sharer_via :
      (p : ℕ) → Live g v p → current (v.entry p b) ≡ shared → (v.entry p b).value ≡ (v.entry o b).value
      → Via g (Kept g v) (Paired g b o p g.items v) v (turn v o b precommit1 ∷ turn v p b precommit2 ∷ [])
  sharer_via p l h agreed = via_then owner_via (λ u ku cu.
      let at : u.entry p b ≡ v.entry p b = cu.rest p b (λ e _. other e) in
      via_weaken
      (on_via g v u ku p b 0 l item (frames_of_lem u ku p b l) (λ e. e ≡ placed (v.entry p b) precommit2 (v.entry p b).value) {cs = state_to precommit2 (kept (v.entry p b)) ∷ []}
      (rw at (sharer_steps (v.entry p b) (form_of p b l item) h)))
      (λ w kw cw. record {
        owner = cw.rest o b (λ e _. other (sym e)) ∙ cu.good;
        partner = cw.good ∙ ap (placed (v.entry p b) precommit2) agreed;
        dropped = λ m. absurd (omega arith);
        rest = λ k c x y z. cw.rest k c y ∙ cu.rest k c x;
        marks = kw.marks;
      }))
    where
      other : p ≢ o
      other e = (owns_not _ owned).0 (sym (ap (λ k. current (v.entry k b)) e) ∙ h)

  -- ---- "else a home takes it"
  module _ (h : ℕ) (l : Live g v h) (other : h ≢ o) (empty : current (v.entry h b) ≡ invalid) where
    not_shared : current (v.entry h b) ≢ shared
    not_shared e = omega (arith, empty, e)

    abbrev own_value : ℕ
    own_value = (v.entry o b).value

    arrival_via :
        (u : View) → Kept g v u → u.entry h b ≡ v.entry h b → used g u h (set_of g b) + 1 ≤ set_frames g
        → Via g (Kept g v) (Changed (λ e. e ≡ placed (v.entry h b) precommit2 own_value) h b u) u (arrival v h b own_value)
    arrival_via u ku at room =
        on_via g v u ku h b 1 l item room (λ e. e ≡ placed (v.entry h b) precommit2 own_value)
        {cs = value_to own_value ∷ state_to precommit2 (kept (v.entry h b)) ∷ []} (rw at (arrival_steps (v.entry h b) (form_of h b l item) empty own_value))

    -- the owner's store is of another node
    turned_same : (u : View) → Turned u → (c : ℕ) → u.entry h c ≡ v.entry h c
    turned_same u cu c = cu.rest h c (λ e _. other e)

    -- it has a frame
    free_via :
        frame_free g v h b ≡ true
        → Via g (Kept g v) (Paired g b o h g.items v) v (turn v o b precommit1 ∷ arrival v h b own_value)
    free_via frame = via_then owner_via (λ u ku cu.
        via_weaken (arrival_via u ku (turned_same u cu b) (free u cu))
        (λ w kw cw. record {
          owner = cw.rest o b (λ e _. other (sym e)) ∙ cu.good;
          partner = cw.good;
          dropped = λ (m : g.items < g.items). absurd (omega arith);
          rest = λ k c x y z. cw.rest k c y ∙ cu.rest k c x;
          marks = kw.marks;
        }))
      where
        free : (u : View) → Turned u → used g u h (set_of g b) + 1 ≤ set_frames g
        free u cu =
            let f = ltb-true (used g v h (set_of g b)) (set_frames g) frame in
            let m = used_no_more g v u h (set_of g b) (λ c i. rw (turned_same u cu c) (omega arith)) in
            omega arith

    -- it drops its Shared copy of item d first
    module _ (d : ℕ) (dropped : current (v.entry h d) ≡ shared) (there : d < g.items) where
      apart : b ≢ d
      apart e = not_shared (ap (λ c. current (v.entry h c)) e ∙ dropped)

      abbrev Dropped : View → View → Type 0
      Dropped = Changed (λ e. e ≡ placed (v.entry h d) invalid (v.entry h d).value) h d

      drop_via : (u : View) → Kept g v u → Turned u → Via g (Kept g v) (Dropped u) u (turn v h d invalid ∷ [])
      drop_via u ku cu =
          on_via g v u ku h d 0 l there (frames_of_lem u ku h d l) (λ e. e ≡ placed (v.entry h d) invalid (v.entry h d).value)
          {cs = state_to invalid (kept (v.entry h d)) ∷ []} (rw (turned_same u cu d) (drop_steps (v.entry h d) (form_of h d l there) dropped))

      given_back : (u w : View) → Turned u → Dropped u w → used g w h (set_of g d) + 1 ≤ set_frames g
      given_back u w cu cw =
          let m = good.frames h (set_of g d) l.there (set_there g d) (live_test g v h l) in
          let r = used_less g v w h d 1 there
          (λ c i q. rw (cw.rest h c (λ _ e. q e), turned_same u cu c) (omega arith))
          (rw cw.good (drop_frames (v.entry h d) (form_of h d l there) dropped)) in
          omega arith

      pub dropped_via : Via g (Kept g v) (Paired g b o h d v) v (turn v o b precommit1 ∷ turn v h d invalid ∷ arrival v h b own_value)
      dropped_via = via_then owner_via (λ u ku cu. via_then (drop_via u ku cu) (λ y ky cy.
          via_weaken (arrival_via y ky (cy.rest h b (λ _ e. apart e) ∙ turned_same u cu b) (given_back u y cu cy))
          (λ w kw cw. record {
            owner = cw.rest o b (λ e _. other (sym e)) ∙ cy.rest o b (λ e _. other (sym e)) ∙ cu.good;
            partner = cw.good;
            dropped = λ m. cw.rest h d (λ _ e. apart (sym e)) ∙ cy.good;
            rest = λ k c x y z. cw.rest k c y ∙ cy.rest k c (z there) ∙ cu.rest k c x;
            marks = kw.marks;
          })))

    pub taken_via :
        has_room g v h b ≡ true
        → Via g (Kept g v) (Paired g b o h (dropped_item g v h b) v) v (turn v o b precommit1 ∷ home_stores g v Current h b precommit2 own_value)
    unfolding has_room
    taken_via room =
        by_cases (frame_free g v h b)
        (λ q. rw (drops_none g v h b q, home_free g v h b q own_value not_shared) (free_via q))
        (λ q. let some = ltb-true (shared_item g v h) g.items (other_holds (frame_free g v h b) room q) in
        rw (drops_some g v h b q some, home_drops g v h b q some own_value not_shared) (dropped_via (shared_item g v h) (shared_there g v h b some) some))
