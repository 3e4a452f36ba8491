-- A whole eviction leaves a table that is accepted.
use Rattle.std.specs.Prelude.{Ok}
use Prim.Native.Nat.{ℕ, ◌≤◌, ◌<◌}
use mathlib.Core.Path.{◌≡◌, sym, ap, ◌∙◌}
use mathlib.Core.Logic.{◌≢◌, ◌⊎◌, inl, inr}
use mathlib.Core.Bool.{true, false, cond}
use mathlib.Core.List.{List}
use native.Mathlib.Omega.{arith}
use native.Mathlib.Decide.{ℕ_discrete}
use lib.Dec.{eqb}
use lib.ListN.{length}
use borrow.Author.Tests.{eqb-true, eqb-false, eq-eqb, ne_eqb}
use Rattle.counting.proofs.Laws.Tests.{both, either, by_cases}
use Rattle.table.specs.declared.geometry.Geometry.{Geometry}
use Rattle.table.specs.Words.{invalid, shared}
use Rattle.table.proofs.Laws.Words.{current_state, kept_state}
use Rattle.table.proofs.Laws.Forms.{form_facts}
use Rattle.table.specs.Stores.{Store, after}
use Rattle.table.specs.View.{View, view, current, kept}
use Rattle.table.specs.Answers.{carry}
use Rattle.entries.specs.Check.{fault_of}
use Rattle.entries.proofs.Laws.Kinds.{Kind}
use Rattle.entries.proofs.Laws.Sharers.{drop_shared}
use Rattle.entries.proofs.Laws.SoundFacts.{SoundTable, phase_in, number_in}
use Rattle.entries.proofs.Laws.CheckFacts.{Accepted, accepted_facts, facts_accepted}
use Rattle.homes.specs.declared.places.Place.{Place}
use Rattle.homes.specs.declared.places.Place.TheVariants.{Current, Kept}
use Rattle.homes.specs.Places.{code_in}
use Rattle.homes.specs.Home.{place_fits, home_of, current_left}
use Rattle.homes.specs.Evict.{dropped, evict_admission, evict_stores, evict_of}
use Rattle.homes.proofs.Laws.EvictTells.{Leaving, evict_leaving}
use Rattle.homes.proofs.Laws.EvictTheorem.{admits, evict_home, evict_drops_keeps, evict_moves_keeps}
use Rattle.homes.proofs.Laws.Plans.{Carried, acted_carried}
use Rattle.homes.proofs.Laws.Kept.{Live, live_test}
use Rattle.homes.proofs.Laws.SoundTells.{formed_at}
use Rattle.homes.proofs.Laws.SoundKept.{shape_after, kind_same, sound_held, sound_kept}
use Rattle.homes.proofs.Laws.Placed.{placed_current, placed_kept}
use Rattle.homes.proofs.Laws.EvictDone.{home_drops, SharedDropped, WentHome}
use Rattle.homes.proofs.Laws.EvictLeaves.{evict_evicted}
use Rattle.homes.proofs.Laws.EvictOff.{evict_off}
use Rattle.homes.proofs.Laws.EvictKind.{Between, CurrentGone, KeptGone, kind_current, kind_kept}

module _ (g : Geometry) (v w : View) (phase number n b : ℕ) (good : SoundTable g v phase number) (source : Live g v n) (item : b < g.items) where
  -- ---- a Shared copy was dropped

  dropped_kinds : SharedDropped n b v w → (c : ℕ) → c < g.items → Kind phase w g.nodes c
  dropped_kinds d c i =
      let f = formed_at g v phase number good n b source item in
      elim (ℕ_discrete c b) [
        | no q ↦ kind_same v w g.nodes c phase d.marks (λ k _. d.rest k c (λ _ e. q e)) (good.items c i)
        | yes q ↦ rw q (drop_shared v w g.nodes n b
            (record { mark = λ m. ap (λ f. f m) d.marks; entry = λ m z. d.rest m b (λ e _. z e) })
            (ap kept d.source ∙ placed_kept (v.entry n b) f invalid (v.entry n b).value (omega arith))
            (ap (λ e. e.kept_value) d.source)
            d.place
            (ap current d.source ∙ placed_current (v.entry n b) f invalid (v.entry n b).value (omega arith))
            phase (good.items b item))
      ]

  -- ---- a copy went home

  module _ (closed : phase ≢ 1) (h d : ℕ) (home : Live g v h) (other : h ≢ n) where
    -- the source, the home, another
    each : (P : ℕ → Type 0) → P n → P h → ((k : ℕ) → k ≢ n → k ≢ h → P k) → (k : ℕ) → P k
    each P p q r k = elim (ℕ_discrete k n) [ yes e ↦ rw e p | no i ↦ elim (ℕ_discrete k h) [ yes e ↦ rw e q | no j ↦ r k i j ] ]

    other_kinds : (place : Place) → WentHome g place n h b d v w → (c : ℕ) → c < g.items → c ≢ b → Kind phase w g.nodes c
    other_kinds place x c i q = elim (ℕ_discrete c d) [
      | no z ↦ kind_same v w g.nodes c phase x.marks (λ k _. x.rest k c (λ _ e. q e) (λ _ e. q e) (λ _ _ e. z e)) (good.items c i)
      | yes z ↦
          (let l : d < g.items = omega arith in
          let f = formed_at g v phase number good h d home l in
          let off : d ≢ b = λ e. q (z ∙ e) in
          let at = x.drops l off in
          rw z (drop_shared v w g.nodes h d
          (record { mark = λ m. ap (λ f. f m) x.marks; entry = λ m y. x.rest m d (λ _ e. off e) (λ _ e. off e) (λ _ e _. y e) })
          (ap kept at ∙ placed_kept (v.entry h d) f invalid (v.entry h d).value (omega arith))
          (ap (λ e. e.kept_value) at)
          (x.shares l)
          (ap current at ∙ placed_current (v.entry h d) f invalid (v.entry h d).value (omega arith))
          phase (good.items d l)))
    ]

    between : (place : Place) → WentHome g place n h b d v w → Between g.nodes n h b v w
    between place x = record {
      there = source.there;
      from = live_test g v n source;
      within = home.there;
      home = live_test g v h home;
      other = other;
      marks = x.marks;
      rest = λ k i j. x.rest k b (λ e _. i e) (λ e _. j e) (λ _ e _. j e);
    }

    current_gone :
        WentHome g Current n h b d v w → current (v.entry n b) ≢ invalid → current (v.entry n b) ≢ shared → place_fits g v Current b h ≡ true
        → CurrentGone n h b v w
    unfolding place_fits
    current_gone x coded unshared fit =
        let fn = formed_at g v phase number good n b source item in
        let fh = formed_at g v phase number good h b home item in
        let low = form_facts (v.entry n b).state fn in
        record {
          left = ap current x.source ∙ placed_current (v.entry n b) fn invalid (v.entry n b).value (omega arith);
          came = ap current x.home ∙ placed_current (v.entry h b) fh (current (v.entry n b)) (v.entry n b).value (omega arith);
          value = ap (λ e. e.value) x.home;
          high = omega arith;
          low = either (eqb (current (v.entry h b)) shared) fit
              (λ e. omega (arith, eqb-true (current (v.entry h b)) shared e))
              (λ e. omega (arith, eqb-true (current (v.entry h b)) invalid (both (eqb (current (v.entry h b)) invalid) e).0));
          kept = each (λ k. kept (w.entry k b) ≡ kept (v.entry k b))
              (ap kept x.source ∙ placed_kept (v.entry n b) fn invalid (v.entry n b).value (omega arith))
              (ap kept x.home ∙ placed_kept (v.entry h b) fh (current (v.entry n b)) (v.entry n b).value (omega arith))
              (λ k i j. ap kept ((between Current x).rest k i j));
          kept_value = each (λ k. (w.entry k b).kept_value ≡ (v.entry k b).kept_value)
              (ap (λ e. e.kept_value) x.source) (ap (λ e. e.kept_value) x.home) (λ k i j. ap (λ e. e.kept_value) ((between Current x).rest k i j));
        }

    left_low : current_left (current (v.entry h b)) d b < 8
    unfolding current_left
    left_low =
        let f = form_facts (v.entry h b).state (formed_at g v phase number good h b home item) in
        by_cases (eqb d b) (λ e. rw e (omega arith)) (λ e. rw e (omega arith))

    kept_gone : WentHome g Kept n h b d v w → kept (v.entry n b) ≢ invalid → place_fits g v Kept b h ≡ true → KeptGone n h b v w
    unfolding place_fits current_left
    kept_gone x coded fit =
        let fn = form_facts (v.entry n b).state (formed_at g v phase number good n b source item) in
        let fh = form_facts (v.entry h b).state (formed_at g v phase number good h b home item) in
        let ll = left_low in
        let at_home : current (w.entry h b) ≡ current_left (current (v.entry h b)) d b =
        ap current x.home ∙ current_state (current_left (current (v.entry h b)) d b) (kept (v.entry n b)) (omega arith) (omega arith) in
        record {
          left = ap kept x.source ∙ kept_state (current (v.entry n b)) invalid (omega arith) (omega arith);
          came = ap kept x.home ∙ kept_state (current_left (current (v.entry h b)) d b) (kept (v.entry n b)) (omega arith) (omega arith);
          kept_value = ap (λ e. e.kept_value) x.home;
          high = coded;
          low = eqb-true (kept (v.entry h b)) invalid (both (eqb (kept (v.entry h b)) invalid) fit).0;
          value = each (λ k. (w.entry k b).value ≡ (v.entry k b).value)
              (ap (λ e. e.value) x.source) (ap (λ e. e.value) x.home) (λ k i j. ap (λ e. e.value) ((between Kept x).rest k i j));
          current = each
              (λ k. (current (w.entry k b) ≡ current (v.entry k b)) ⊎ ((current (v.entry k b) ≡ shared) × (current (w.entry k b) ≡ 0)))
              (inl (ap current x.source ∙ current_state (current (v.entry n b)) invalid (omega arith) (omega arith)))
              (elim (ℕ_discrete d b) [
                | yes e ↦ inr (ap (λ c. current (v.entry h c)) (sym e) ∙ x.shares (omega arith), at_home ∙ ap (λ q. cond q invalid (current (v.entry h b))) (eq-eqb d b e))
                | no e ↦ inl (at_home ∙ ap (λ q. cond q invalid (current (v.entry h b))) (ne_eqb d b e))
              ])
              (λ k i j. inl (ap current ((between Kept x).rest k i j)));
        }

    item_kind :
        (place : Place) → WentHome g place n h b d v w → code_in place (v.entry n b) ≢ invalid → dropped place (v.entry n b) ≡ false
        → place_fits g v place b h ≡ true → Kind phase w g.nodes b
    item_kind Current x coded e fit =
        kind_current v w g.nodes n h b (between Current x) (current_gone x coded (eqb-false (current (v.entry n b)) shared e) fit) phase closed (good.items b item)
    item_kind Kept x coded e fit = kind_kept v w g.nodes n h b (between Kept x) (kept_gone x coded fit) phase closed (good.items b item)

    went_kinds :
        (place : Place) → WentHome g place n h b d v w → code_in place (v.entry n b) ≢ invalid → dropped place (v.entry n b) ≡ false
        → place_fits g v place b h ≡ true → (c : ℕ) → c < g.items → Kind phase w g.nodes c
    went_kinds place x coded e fit c i = elim (ℕ_discrete c b) [ yes q ↦ rw q (item_kind place x coded e fit) | no q ↦ other_kinds place x c i q ]

module _ (t : List ℕ) (n b : ℕ) (place : Place) {g : Geometry} {value : ℕ} {ss : List Store} (accepted : evict_of t n b place ≡ carry g value ss) where
  carried : Carried (λ g v. evict_admission g v place n b) (λ g v. evict_stores g v place n b) t g ss
  carried = acted_carried (λ g v. evict_admission g v place n b) (λ g v. 0) (λ g v. evict_stores g v place n b) t accepted

  abbrev phase : ℕ
  phase = phase_in g (view g t)

  abbrev number : ℕ
  number = number_in g (view g t)

  facts : Accepted t g phase number
  facts = accepted_facts t g carried.passed

  leaving : Leaving g (view g t) place n b
  leaving = evict_leaving g (view g t) place n b carried.admitted

  left : Live g (view g t) n
  left = record { there = (admits t n b place accepted).node; marked = (admits t n b place accepted).live }

  closed : phase ≢ 1
  closed e = (admits t n b place accepted).closed (facts.table.phases n left.there (live_test g (view g t) n left) ∙ e)

  module _ (limit : ℕ) (all : length ss ≤ limit) where
    dropped_table : dropped place ((view g t).entry n b) ≡ true → SoundTable g (view g (after g limit ss t)) phase number
    dropped_table e =
        sound_kept g (view g t) _ phase number facts.table (evict_drops_keeps t n b place accepted e limit)
        (dropped_kinds g (view g t) _ phase number n b facts.table left (admits t n b place accepted).item ((evict_evicted t n b place accepted limit all).drops e))

    moved_table : dropped place ((view g t).entry n b) ≡ false → SoundTable g (view g (after g limit ss t)) phase number
    moved_table e =
        let h = home_of g (view g t) place n b in
        let at = evict_home t n b place accepted e in
        let m = evict_moves_keeps t n b place accepted e limit in
        sound_held g (view g t) _ phase number facts.table (record { marks = m.marks; forms = m.forms; frames = m.frames })
        (went_kinds g (view g t) _ phase number n b facts.table left (admits t n b place accepted).item closed h (home_drops g (view g t) place h b)
        at.node at.found.other place ((evict_evicted t n b place accepted limit all).goes e) leaving.coded e
        at.takes)

    -- the table after a whole eviction is sound, of the same phase and number
    pub evict_facts : Accepted (after g limit ss t) g phase number
    evict_facts = record {
      shape = shape_after g limit t (rw carried.stores_are (evict_off g (view g t) place n b)) facts.shape;
      table = by_cases (dropped place ((view g t).entry n b)) dropped_table moved_table;
    }

    -- so the next call accepts it
    pub evict_sound : fault_of (after g limit ss t) ≡ Ok g
    evict_sound = facts_accepted (after g limit ss t) g phase number evict_facts
