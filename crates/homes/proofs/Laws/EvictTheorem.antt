-- THE THEOREM of Evict: however an accepted eviction is cut, a Shared copy that is dropped leaves every recovery copy as it was, and of a copy that
-- goes home the source's recovery copy stands until the home has it.
use Prim.Native.Nat.{ℕ, ◌<◌}
use mathlib.Core.Path.{◌≡◌, refl, ap, ◌∙◌}
use mathlib.Core.Logic.{◌⊎◌, inl, inr, ◌≢◌}
use mathlib.Core.Bool.{true, false}
use mathlib.Core.List.{List}
use native.Mathlib.Omega.{arith}
use native.Mathlib.Decide.{ℕ_discrete}
use Rattle.table.specs.declared.geometry.Geometry.{Geometry}
use Rattle.table.specs.Stores.{Store, after}
use Rattle.table.specs.View.{View, view}
use Rattle.table.proofs.Laws.Via.{via_cut}
use Rattle.table.specs.Copies.{back_copy}
use Rattle.table.specs.Answers.{carry}
use Rattle.entries.specs.Frames.{set_of}
use Rattle.entries.proofs.Laws.Frames.{set_there}
use Rattle.entries.proofs.Laws.SoundFacts.{SoundTable, phase_in, number_in}
use Rattle.entries.proofs.Laws.CheckFacts.{Accepted, accepted_facts}
use Rattle.homes.specs.declared.places.Place.{Place}
use Rattle.homes.proofs.Laws.Admission.{Admits}
use Rattle.homes.proofs.Laws.Plans.{Carried, acted_carried}
use Rattle.homes.specs.Home.{home_of}
use Rattle.homes.proofs.Laws.HomeLaws.{Home, home_fits}
use Rattle.homes.specs.Evict.{dropped, evict_admission, evict_stores, evict_of}
use Rattle.homes.proofs.Laws.EvictCode.{evict_admits, evict_drops, evict_moves}
use Rattle.homes.proofs.Laws.Kept.{Live, Kept, Held, live_test}
use Rattle.homes.proofs.Laws.OneEntry.{OneAt, one_held}
use Rattle.homes.proofs.Laws.EvictEntry.{Arrives}
use Rattle.homes.proofs.Laws.EvictTells.{Leaving, evict_leaving}
use Rattle.homes.proofs.Laws.Moving.{Moving}
use Rattle.homes.proofs.Laws.EvictMoves.{evict_moves_via, evict_drops_via}

module _ (g : Geometry) (v : View) (phase number n b : ℕ) (good : SoundTable g v phase number) (source : Live g v n) (item : b < g.items) where
  held : Held g v v
  held = record {
    marks = refl;
    forms = λ k c l i. good.forms k c l.there i (live_test g v k l);
    frames = λ k s l i. good.frames k s l.there i (live_test g v k l);
  }

  dropped_kept : (w : View) → OneAt (Arrives (v.entry n b) 0 (back_copy (v.entry n b))) n b v w → Kept g v w
  dropped_kept w o = record {
    back = λ k c l i. elim (ℕ_discrete k n) [
      | no p ↦ ap back_copy (o.rest k c (λ e _. p e))
      | yes p ↦ elim (ℕ_discrete c b) [ no q ↦ ap back_copy (o.rest k c (λ _ e. q e)) | yes q ↦ rw (p, q) (same o.here.back) ]
    ];
    forms = all.forms;
    frames = all.frames;
    marks = o.marks;
  }
    where
      all : Held g v w
      all =
          let m = held.frames n (set_of g b) source (set_there g b) in
          one_held g v v w held n b 0 source item (omega arith) o.marks o.here.form o.here.frames o.rest

      same : (back_copy (w.entry n b) ≡ back_copy (v.entry n b)) ⊎ (back_copy (w.entry n b) ≡ back_copy (v.entry n b))
          → back_copy (w.entry n b) ≡ back_copy (v.entry n b)
      same (inl e) = e
      same (inr e) = e

module _ (t : List ℕ) (n b : ℕ) (place : Place) {g : Geometry} {value : ℕ} {ss : List Store} (accepted : evict_of t n b place ≡ carry g value ss) where
  pub carried : Carried (λ g v. evict_admission g v place n b) (λ g v. evict_stores g v place n b) t g ss
  carried = acted_carried (λ g v. evict_admission g v place n b) (λ g v. 0) (λ g v. evict_stores g v place n b) t accepted

  facts : Accepted t g (phase_in g (view g t)) (number_in g (view g t))
  facts = accepted_facts t g carried.passed

  pub admits : Admits g (view g t) n b
  admits = evict_admits g (view g t) place n b carried.admitted

  leaving : Leaving g (view g t) place n b
  leaving = evict_leaving g (view g t) place n b carried.admitted

  pub from : Live g (view g t) n
  from = record { there = admits.node; marked = admits.live }

  closed : phase_in g (view g t) ≢ 1
  closed e = admits.closed (facts.table.phases n admits.node (live_test g (view g t) n from) ∙ e)

  -- a Shared copy: after any number of its stores
  pub evict_drops_keeps : dropped place ((view g t).entry n b) ≡ true → (limit : ℕ) → Kept g (view g t) (view g (after g limit ss t))
  evict_drops_keeps d limit =
      rw (carried.stores_are, evict_drops g (view g t) place n b (record { admitted = carried.admitted; dropping = d }))
      (dropped_kept g (view g t) _ _ n b facts.table from admits.item _
      (via_cut t facts.shape.long
      (evict_drops_via g (view g t) n b admits.node admits.item ((held g (view g t) _ _ n b facts.table from admits.item).forms n b from admits.item) place d)
      limit))

  module _ (goes : dropped place ((view g t).entry n b) ≡ false) where
    -- where it goes: the first other node that can take it
    pub evict_home : Home g (view g t) place n b (home_of g (view g t) place n b)
    evict_home = home_fits g (view g t) place n b (leaving.homed goes)

    -- any other copy: after any number of its stores
    pub evict_moves_keeps : (limit : ℕ) → Moving g n (home_of g (view g t) place n b) b (view g t) (view g (after g limit ss t))
    evict_moves_keeps limit =
        let h = home_of g (view g t) place n b in
        rw (carried.stores_are, evict_moves g (view g t) place n b (record { admitted = carried.admitted; dropping = goes }) refl)
        (via_cut t facts.shape.long
        (evict_moves_via g (view g t) _ _ n h b facts.table closed from evict_home.node evict_home.found.other
        admits.item place leaving.coded evict_home.takes)
        limit)
