-- A whole create leaves a sound table: the dirty item is created, Precommit1 at its owner and Precommit2 at its partner; a Shared copy of
-- another item may be dropped for it.
use Rattle.std.specs.Prelude.{Ok}
use Prim.Native.Nat.{ℕ, ◌≤◌, ◌<◌}
use mathlib.Core.Path.{◌≡◌, refl, sym, ap, ◌∙◌}
use mathlib.Core.Logic.{◌≢◌}
use mathlib.Core.Bool.{Bool, true, false, cond, not}
use mathlib.Core.List.{List, [], ◌∷◌}
use native.Mathlib.Omega.{arith}
use native.Mathlib.Decide.{ℕ_discrete}
use lib.Dec.{eqb}
use lib.ListN.{length}
use borrow.Author.Tests.{eqb-true}
use Rattle.counting.proofs.Laws.Tests.{either, no_both}
use Rattle.table.specs.declared.geometry.Geometry.{Geometry}
use Rattle.table.specs.Words.{state_form, invalid, shared, owner, modified, precommit1, precommit2}
use Rattle.table.specs.Stores.{Store, state_to, after}
use Rattle.table.proofs.Laws.Stores.{All, all_then}
use Rattle.table.specs.View.{View, view, live, current, kept}
use Rattle.table.specs.Answers.{carry}
use Rattle.entries.specs.Check.{fault_of}
use Rattle.entries.specs.Tally.{copy}
use Rattle.entries.proofs.Laws.Kinds.{clean_code, owner_code, created_code, Owned, modified_at, owner_at, Dirty, Created, Kind, clean, dirty, created, has_at_lem, has_code, has_live, copy_at, copy_live, copy_code}
use Rattle.entries.proofs.Laws.Sharers.{drop_shared}
use Rattle.entries.proofs.Laws.SoundFacts.{SoundTable, phase_in, number_in}
use Rattle.entries.proofs.Laws.CheckFacts.{Accepted, facts_accepted}
use Rattle.homes.specs.declared.places.Place.TheVariants.{Current}
use Rattle.entries.specs.Dirty.{owns, owner_of, dirty_item}
use Rattle.homes.specs.Home.{home_of, arrival_of, home_stores}
use Rattle.checkpoints.specs.Create.{has_sharer, sharer_of, turn, precommit2_stores, create_item, create_of}
use Rattle.homes.proofs.Laws.Kept.{Kept, live_test}
use Rattle.homes.proofs.Laws.Placed.{placed_current, placed_kept}
use Rattle.checkpoints.proofs.Laws.Created.{Pairing, Paired}
use Rattle.checkpoints.proofs.Laws.CreateVia.{owns_not}
use Rattle.homes.proofs.Laws.EvictOff.{home_off}
use Rattle.homes.proofs.Laws.SoundKept.{Off, entry_off, shape_after, kind_same, saved_kept, sound_kept}
use Rattle.checkpoints.proofs.Laws.MarksSound.{opened}
use Rattle.checkpoints.proofs.Laws.CreateTheorem.{acted, creates, stores_are, facts, create_found, create_keeps, create_created}

-- ---- an item with an owner is dirty

pub owns_dirty :
    (codes : ℕ → Bool) → codes owner ≡ false → codes modified ≡ false → (c : ℕ) → owns c ≡ true → codes c ≡ true → ⊥
owns_dirty codes f₁ f₂ c h t = either (eqb c owner) h
    (λ q. no_both t (ap codes (eqb-true c owner q) ∙ f₁))
    (λ q. no_both t (ap codes (eqb-true c modified q) ∙ f₂))

owner_owns : (c : ℕ) → owns c ≡ true → owner_code c ≡ true → c ≡ owner
owner_owns c h t = either (eqb c owner) h (λ q. eqb-true c owner q) (λ q. absurd (no_both t (ap owner_code (eqb-true c modified q))))

module _ (v : View) (N b o : ℕ) (there : o < N) (alive : live v o ≡ true) (owned : owns (current (v.entry o b)) ≡ true) where
  owner_copy : copy v b o ≡ true
  owner_copy = copy_at v b o alive (owns_not _ owned).1

  pub kind_dirty : (phase : ℕ) → Kind phase v N b → Dirty v N b
  kind_dirty phase (clean k) = absurd (owns_dirty clean_code refl refl (current (v.entry o b)) owned (k.others o there owner_copy))
  kind_dirty phase (dirty k) = k
  kind_dirty phase (created e k) = absurd (owns_dirty created_code refl refl (current (v.entry o b)) owned (k.others o there owner_copy))

  -- every other copy of it is Shared
  pub others_shared :
      (m : ℕ) → Owned v N b m → (k : ℕ) → k < N → copy v b k ≡ true → k ≢ o → current (v.entry k b) ≡ shared
  others_shared m (modified_at a alone) k l t d = absurd (d (alone k l t ∙ sym (alone o there owner_copy)))
  others_shared m (owner_at a codes) k l t d =
      let c : current (v.entry o b) ≡ owner = owner_owns _ owned (codes o there owner_copy) in
      either (eqb (current (v.entry k b)) owner) (codes k l t)
      (λ q. absurd (d (a.alone k l (has_at_lem v b k owner (copy_live v b k t) (eqb-true _ owner q)) ∙ sym (a.alone o there (has_at_lem v b o owner alive c)))))
      (λ q. eqb-true _ shared q)

-- ---- the table

module _ (g : Geometry) (b o p d : ℕ) (v w : View) (phase number : ℕ) (good : SoundTable g v phase number) (f : Pairing g b o p d v)
    (z : Paired g b o p d v w) where
  alive : (k : ℕ) → live w k ≡ live v k
  alive k = ap (λ m. not (eqb (m k) 0)) z.marks

  owner_form : state_form (v.entry o b).state ≡ true
  owner_form = good.forms o b f.owner.there f.item (live_test g v o f.owner)

  partner_form : (c : ℕ) → c < g.items → state_form (v.entry p c).state ≡ true
  partner_form c h = good.forms p c f.partner.there h (live_test g v p f.partner)

  was_dirty : Dirty v g.nodes b
  was_dirty = kind_dirty v g.nodes b o f.owner.there (live_test g v o f.owner) f.owned phase (good.items b f.item)

  -- the owner, the partner, another
  each : (P : ℕ → Type 0) → P o → P p → ((k : ℕ) → k ≢ o → k ≢ p → P k) → (k : ℕ) → P k
  each P x y r k = elim (ℕ_discrete k o) [ yes e ↦ rw e x | no q ↦ elim (ℕ_discrete k p) [ yes e ↦ rw e y | no q' ↦ r k q q' ] ]

  other_entry : (k : ℕ) → k ≢ o → k ≢ p → w.entry k b ≡ v.entry k b
  other_entry k q q' = z.rest k b (λ e _. q e) (λ e _. q' e) (λ _ e _. q' e)

  owner_current : current (w.entry o b) ≡ precommit1
  owner_current = ap current z.owner ∙ placed_current (v.entry o b) owner_form precommit1 (v.entry o b).value (omega arith)

  partner_current : current (w.entry p b) ≡ precommit2
  partner_current = ap current z.partner ∙ placed_current (v.entry p b) (partner_form b f.item) precommit2 (v.entry o b).value (omega arith)

  -- another node's copy was there
  other_copy : (k : ℕ) → k ≢ o → k ≢ p → copy w b k ≡ true → copy v b k ≡ true
  other_copy k q q' t = copy_at v b k (sym (alive k) ∙ copy_live w b k t) (λ e. copy_code w b k t (ap current (other_entry k q q') ∙ e))

  other_current : (k : ℕ) → k < g.nodes → k ≢ o → k ≢ p → copy w b k ≡ true → current (w.entry k b) ≡ shared
  other_current k l q q' t =
      ap current (other_entry k q q')
      ∙ others_shared v g.nodes b o f.owner.there (live_test g v o f.owner) f.owned was_dirty.node was_dirty.owned k l
      (other_copy k q q' t) q

  same_kept_lem : (k : ℕ) → kept (w.entry k b) ≡ kept (v.entry k b)
  same_kept_lem = each (λ k. kept (w.entry k b) ≡ kept (v.entry k b))
      (ap kept z.owner ∙ placed_kept (v.entry o b) owner_form precommit1 (v.entry o b).value (omega arith))
      (ap kept z.partner ∙ placed_kept (v.entry p b) (partner_form b f.item) precommit2 (v.entry o b).value (omega arith))
      (λ k q q'. ap kept (other_entry k q q'))

  same_kept_value : (k : ℕ) → (w.entry k b).kept_value ≡ (v.entry k b).kept_value
  same_kept_value = each (λ k. (w.entry k b).kept_value ≡ (v.entry k b).kept_value)
      (ap (λ e. e.kept_value) z.owner)
      (ap (λ e. e.kept_value) z.partner)
      (λ k q q'. ap (λ e. e.kept_value) (other_entry k q q'))

  value_is : (k : ℕ) → k < g.nodes → copy v b k ≡ true → (v.entry k b).value ≡ (v.entry o b).value
  value_is k l t =
      was_dirty.values k l t
      ∙ sym (was_dirty.values o f.owner.there (owner_copy v g.nodes b o f.owner.there (live_test g v o f.owner) f.owned))

  -- who has the code of the owner, of the partner
  first_alone : (k : ℕ) → k < g.nodes → live w k ≡ true → current (w.entry k b) ≡ precommit1 → k ≡ o
  first_alone = each (λ k. k < g.nodes → live w k ≡ true → current (w.entry k b) ≡ precommit1 → k ≡ o)
      (λ _ _ _. refl)
      (λ _ _ e. absurd (omega (arith, e, partner_current)))
      (λ k q q' l t e. absurd (omega (arith, e, other_current k l q q' (copy_at w b k t (λ n. omega (arith, e, n))))))

  second_alone : (k : ℕ) → k < g.nodes → live w k ≡ true → current (w.entry k b) ≡ precommit2 → k ≡ p
  second_alone = each (λ k. k < g.nodes → live w k ≡ true → current (w.entry k b) ≡ precommit2 → k ≡ p)
      (λ _ _ e. absurd (omega (arith, e, owner_current)))
      (λ _ _ _. refl)
      (λ k q q' l t e. absurd (omega (arith, e, other_current k l q q' (copy_at w b k t (λ n. omega (arith, e, n))))))

  pub paired_created : Created w g.nodes b
  paired_created = record {
    one = o;
    two = p;
    value = (v.entry o b).value;
    first = record {
      within = f.owner.there;
      holds = has_at_lem w b o precommit1 (alive o ∙ live_test g v o f.owner) owner_current;
      alone = λ k l t. first_alone k l (has_live w b k precommit1 t) (has_code w b k precommit1 t);
    };
    second = record {
      within = f.partner.there;
      holds = has_at_lem w b p precommit2 (alive p ∙ live_test g v p f.partner) partner_current;
      alone = λ k l t. second_alone k l (has_live w b k precommit2 t) (has_code w b k precommit2 t);
    };
    others = each (λ k. k < g.nodes → copy w b k ≡ true → created_code (current (w.entry k b)) ≡ true)
        (λ _ _. ap created_code owner_current)
        (λ _ _. ap created_code partner_current)
        (λ k q q' l t. ap created_code (other_current k l q q' t));
    values = each (λ k. k < g.nodes → copy w b k ≡ true → (w.entry k b).value ≡ (v.entry o b).value)
        (λ _ _. ap (λ e. e.value) z.owner)
        (λ _ _. ap (λ e. e.value) z.partner)
        (λ k q q' l t. ap (λ e. e.value) (other_entry k q q') ∙ value_is k l (other_copy k q q' t));
    saved = saved_kept v w g.nodes b z.marks (λ k _. same_kept_lem k) (λ k _. same_kept_value k) was_dirty.saved;
  }

  -- the item that the partner drops a Shared copy of
  dropped_kind : d < g.items → Kind phase w g.nodes d
  dropped_kind h =
      drop_shared v w g.nodes p d
      (record {
        mark = λ m. ap (λ x. x m) z.marks;
        entry = λ m q. z.rest m d (λ _ e. f.apart e) (λ _ e. f.apart e) (λ _ e _. q e);
      })
      (ap kept (z.dropped h) ∙ placed_kept (v.entry p d) (partner_form d h) invalid (v.entry p d).value (omega arith))
      (ap (λ e. e.kept_value) (z.dropped h))
      (f.drops h)
      (ap current (z.dropped h) ∙ placed_current (v.entry p d) (partner_form d h) invalid (v.entry p d).value (omega arith))
      phase (good.items d h)

  pub paired_kinds : phase ≡ 1 → (c : ℕ) → c < g.items → Kind phase w g.nodes c
  paired_kinds one c h = elim (ℕ_discrete c b) [
    | yes e ↦ rw e (created one paired_created)
    | no q ↦ elim (ℕ_discrete c d) [
      | yes e ↦ rw e (dropped_kind (rw e at h))
      | no q' ↦ kind_same v w g.nodes c phase z.marks (λ k _. z.rest k c (λ _ e. q e) (λ _ e. q e) (λ _ _ e. q' e)) (good.items c h)
    ]
  ]

  pub paired_sound : phase ≡ 1 → Kept g v w → SoundTable g w phase number
  paired_sound one kp = sound_kept g v w phase number good kp (paired_kinds one)

-- ---- its stores

pub create_off : (g : Geometry) (v : View) (b o : ℕ) → All (Off g) (create_item g v b o)
unfolding create_item precommit2_stores home_stores
create_off g v b o = all_then (entry_off g o b (state_to precommit1 (kept (v.entry o b)) ∷ [])) (go (has_sharer g v b))
  where
    go : (q : Bool) → All (Off g) (cond q (turn v (sharer_of g v b) b precommit2 ∷ []) (home_stores g v Current (home_of g v Current o b) b precommit2 (v.entry o b).value))
    go true = entry_off g (sharer_of g v b) b (state_to precommit2 (kept (v.entry (sharer_of g v b) b)) ∷ [])
    go false = home_off g Current (home_of g v Current o b) b precommit2 (v.entry o b).value (arrival_of g v Current (home_of g v Current o b) b)

-- ---- the call

module _
    (t : List ℕ) {g : Geometry} {value : ℕ} {ss : List Store} (accepted : create_of t ≡ carry g value ss) (limit : ℕ) (whole : length ss ≤ limit) where
  -- it was in phase 1
  pub create_was : phase_in g (view g t) ≡ 1
  create_was =
      opened g (view g t) _ _ (facts t accepted).table (omega (arith, (facts t accepted).shape.sizes))
      (rw (creates t accepted).same at (acted t accepted).admitted)

  -- the item is created
  pub created_item : Created (view g (after g limit ss t)) g.nodes (dirty_item g (view g t))
  created_item =
      paired_created g _ _ _ _ _ _ _ _ (facts t accepted).table (create_found t accepted) (create_created t accepted limit whole)

  pub create_accepted : Accepted (after g limit ss t) g (phase_in g (view g t)) (number_in g (view g t))
  create_accepted = record {
    shape = rw (stores_are t accepted)
        (shape_after g limit t (create_off g (view g t) (dirty_item g (view g t)) (owner_of g (view g t) (dirty_item g (view g t)))) (facts t accepted).shape);
    table = paired_sound g _ _ _ _ _ _ _ _ (facts t accepted).table (create_found t accepted) (create_created t accepted limit whole) create_was
        (create_keeps t accepted limit);
  }

  -- the table after a whole create passes every check
  pub create_sound : fault_of (after g limit ss t) ≡ Ok g
  create_sound = facts_accepted (after g limit ss t) g _ _ create_accepted
