-- A whole eviction: every value, every value saved and the point's number are as they were.
use Prim.Native.Nat.{ℕ, ◌≤◌, ◌<◌}
use mathlib.Core.Path.{◌≡◌, refl, ap, ◌∙◌}
use mathlib.Core.Logic.{◌≢◌}
use mathlib.Core.Bool.{Bool, true, false, cond}
use mathlib.Core.List.{List}
use native.Mathlib.Omega.{arith}
use native.Mathlib.Decide.{ℕ_discrete}
use lib.Dec.{eqb}
use lib.ListN.{length}
use Rattle.counting.proofs.Laws.Tests.{by_cases}
use Rattle.table.specs.declared.geometry.Geometry.{Geometry}
use Rattle.table.specs.Words.{number_of, state_word, current_of, invalid}
use Rattle.table.specs.Stores.{Store, after}
use Rattle.table.specs.View.{View, view, current, kept}
use Rattle.table.specs.Copies.{back_copy, copy_number, copy_value}
use Rattle.table.specs.Answers.{carry}
use Rattle.homes.specs.declared.places.Place.{Place}
use Rattle.homes.specs.declared.places.Place.TheVariants.{Current, Kept}
use Rattle.homes.specs.Places.{code_in}
use Rattle.homes.specs.Home.{current_left}
use Rattle.homes.specs.Evict.{dropped, evict_admission, evict_stores, evict_of}
use Rattle.homes.proofs.Laws.EvictTells.{Leaving, evict_leaving}
use Rattle.homes.proofs.Laws.EvictTheorem.{admits, evict_drops_keeps, evict_moves_keeps}
use Rattle.homes.proofs.Laws.Plans.{Carried, acted_carried}
use Rattle.homes.proofs.Laws.Kept.{Live}
use Rattle.homes.proofs.Laws.Moving.{Moves, still, twice, moved, Moving}
use Rattle.homes.proofs.Laws.EvictDone.{SharedDropped, WentHome}
use Rattle.homes.proofs.Laws.EvictLeaves.{evict_evicted}
use Rattle.homes.proofs.Laws.EvictSound.{evict_sound}
use Rattle.homes.proofs.Laws.Serves.{CurrentHave, BackHave, Serves, same_geometry, live_kept, back_held}

-- a current place that is Invalid stays so
none_current : (k : ℕ) → current_of (state_word 0 k) ≡ 0
none_current k = omega arith

none_left : (d b : ℕ) → current_left 0 d b ≡ 0
unfolding current_left
none_left d b = go (eqb d b)
  where
    go : (q : Bool) → cond q invalid 0 ≡ 0
    go true = refl
    go false = refl

-- v at entry, w at the end: node n evicts item b
module _
    (g : Geometry) (v w : View) (n b : ℕ) (lives : (k : ℕ) → Live g w k → Live g v k) (source : Live g v n) (item : b < g.items) where
  -- ---- current copies

  module _ (values : ℕ → ℕ) (have : CurrentHave g v values) where
    -- where an entry's value is as it was, and no current copy came
    same_value :
        (k c : ℕ) → (w.entry k c).value ≡ (v.entry k c).value → (current (v.entry k c) ≡ 0 → current (w.entry k c) ≡ 0) → Live g v k → c < g.items
        → current (w.entry k c) ≢ 0 → (w.entry k c).value ≡ values c
    same_value k c e z l i q = e ∙ have k c l i (λ y. q (z y))

    rest_value : (k c : ℕ) → w.entry k c ≡ v.entry k c → Live g v k → c < g.items → current (w.entry k c) ≢ 0 → (w.entry k c).value ≡ values c
    rest_value k c e = same_value k c (ap (λ e. e.value) e) (λ z. ap current e ∙ z)

    dropped_current : SharedDropped n b v w → CurrentHave g w values
    dropped_current x k c l i q = elim (ℕ_discrete k n) [
      | no y ↦ rest_value k c (x.rest k c (λ e _. y e)) (lives k l) i q
      | yes y ↦ elim (ℕ_discrete c b) [
        | no r ↦ rest_value k c (x.rest k c (λ _ e. r e)) (lives k l) i q
        | yes r ↦ rw (y, r) (ap (λ e. e.value) x.source ∙ have n b source item (λ z. let s = x.place in omega arith))
      ]
    ]

    module _ (h d : ℕ) where
      source_value :
          (place : Place) → WentHome g place n h b d v w → code_in place (v.entry n b) ≢ invalid → current (w.entry n b) ≢ 0 → (w.entry n b).value ≡ values b
      source_value Current x coded q = ap (λ e. e.value) x.source ∙ have n b source item coded
      source_value Kept x coded q =
          same_value n b (ap (λ e. e.value) x.source)
          (λ z. ap current x.source ∙ ap (λ c. current_of (state_word c invalid)) z ∙ none_current invalid) source item q

      home_value :
          (place : Place) → WentHome g place n h b d v w → code_in place (v.entry n b) ≢ invalid → Live g v h → current (w.entry h b) ≢ 0
          → (w.entry h b).value ≡ values b
      home_value Current x coded l q = ap (λ e. e.value) x.home ∙ have n b source item coded
      home_value Kept x coded l q =
          same_value h b (ap (λ e. e.value) x.home)
          (λ z.
          ap current x.home ∙ ap (λ c. current_of (state_word (current_left c d b) (kept (v.entry n b)))) z
          ∙ ap (λ c. current_of (state_word c (kept (v.entry n b)))) (none_left d b) ∙ none_current (kept (v.entry n b)))
          l item q

      module _ (place : Place) (x : WentHome g place n h b d v w) (coded : code_in place (v.entry n b) ≢ invalid) where
        went_item : (k : ℕ) → Live g v k → current (w.entry k b) ≢ 0 → (w.entry k b).value ≡ values b
        went_item k l q = elim (ℕ_discrete k n) [
          | yes e ↦ ap (λ k. (w.entry k b).value) e ∙ source_value place x coded (λ y. q (ap (λ k. current (w.entry k b)) e ∙ y))
          | no i ↦ elim (ℕ_discrete k h) [
            | yes e ↦
                (let l' : Live g v h = rw e at l in
                ap (λ k. (w.entry k b).value) e ∙ home_value place x coded l' (λ y. q (ap (λ k. current (w.entry k b)) e ∙ y)))
            | no j ↦ rest_value k b (x.rest k b (λ e _. i e) (λ e _. j e) (λ _ e _. j e)) l item q
          ]
        ]

        dropped_value : Live g v h → d < g.items → d ≢ b → (w.entry h d).value ≡ values d
        dropped_value l i y = ap (λ e. e.value) (x.drops i y) ∙ have h d l i (λ z. let s = x.shares i in omega arith)

        other_item : (k c : ℕ) → c ≢ b → Live g v k → c < g.items → current (w.entry k c) ≢ 0 → (w.entry k c).value ≡ values c
        other_item k c y l i q = elim (ℕ_discrete k h) [
          | no j ↦ rest_value k c (x.rest k c (λ _ e. y e) (λ _ e. y e) (λ _ e _. j e)) l i q
          | yes j ↦ elim (ℕ_discrete c d) [
            | no r ↦ rest_value k c (x.rest k c (λ _ e. y e) (λ _ e. y e) (λ _ _ e. r e)) l i q
            | yes r ↦
                (let l' : Live g v h = rw j at l in
                let i' : d < g.items = rw r at i in
                rw (j, r) (dropped_value l' i' (λ e. y (r ∙ e))))
          ]
        ]

        went_current : CurrentHave g w values
        went_current k c l i q = elim (ℕ_discrete c b) [
          | yes e ↦ rw e (went_item k (lives k l) (λ y. q (ap (λ c. current (w.entry k c)) e ∙ y)))
          | no y ↦ other_item k c y (lives k l) i q
        ]

  -- ---- recovery copies

  module _ (saved : ℕ → ℕ) (have : BackHave g v saved) where
    -- node k has what node m had
    had : (k m c : ℕ) → back_copy (w.entry k c) ≡ back_copy (v.entry m c) → Live g v m → c < g.items
        → copy_number (back_copy (w.entry k c)) ≢ 0 → copy_value (back_copy (w.entry k c)) ≡ saved c
    had k m c e l i q = ap copy_value e ∙ have m c l i (λ z. q (ap copy_number e ∙ z))

    module _ (h : ℕ) where
      source_back : Moves n h b v w → copy_number (back_copy (w.entry n b)) ≢ 0 → copy_value (back_copy (w.entry n b)) ≡ saved b
      source_back (still _ e) q = had n n b e source item q
      source_back (twice _ _ e) q = had n n b e source item q
      source_back (moved _ _ e) q = absurd (q (ap copy_number e))

      home_back : Moves n h b v w → Live g v h → copy_number (back_copy (w.entry h b)) ≢ 0 → copy_value (back_copy (w.entry h b)) ≡ saved b
      home_back (still e _) l q = had h h b e l item q
      home_back (twice _ e _) l q = had h n b e source item q
      home_back (moved _ e _) l q = had h n b e source item q

      module _ (m : Moving g n h b v w) where
        item_back : (k : ℕ) → Live g v k → copy_number (back_copy (w.entry k b)) ≢ 0 → copy_value (back_copy (w.entry k b)) ≡ saved b
        item_back k l q = elim (ℕ_discrete k n) [
          | yes e ↦
              ap (λ k. copy_value (back_copy (w.entry k b))) e ∙ source_back m.moves (λ y. q (ap (λ k. copy_number (back_copy (w.entry k b))) e ∙ y))
          | no i ↦ elim (ℕ_discrete k h) [
            | yes e ↦
                (let l' : Live g v h = rw e at l in
                ap (λ k. copy_value (back_copy (w.entry k b))) e
                ∙ home_back m.moves l' (λ y. q (ap (λ k. copy_number (back_copy (w.entry k b))) e ∙ y)))
            | no j ↦ had k k b (m.back k b l item (λ e _. i e) (λ e _. j e)) l item q
          ]
        ]

        pub moving_back : BackHave g w saved
        moving_back k c l i q = elim (ℕ_discrete c b) [
          | yes e ↦ rw e (item_back k (lives k l) (λ y. q (ap (λ c. copy_number (back_copy (w.entry k c))) e ∙ y)))
          | no y ↦ had k k c (m.back k c (lives k l) i (λ _ e. y e) (λ _ e. y e)) (lives k l) i q
        ]

module _ (t : List ℕ) (n b : ℕ) (place : Place) {g : Geometry} {value : ℕ} {ss : List Store} (accepted : evict_of t n b place ≡ carry g value ss) where
  carried : Carried (λ g v. evict_admission g v place n b) (λ g v. evict_stores g v place n b) t g ss
  carried = acted_carried (λ g v. evict_admission g v place n b) (λ g v. 0) (λ g v. evict_stores g v place n b) t accepted

  leaving : Leaving g (view g t) place n b
  leaving = evict_leaving g (view g t) place n b carried.admitted

  left : Live g (view g t) n
  left = record { there = (admits t n b place accepted).node; marked = (admits t n b place accepted).live }

module _ (t : List ℕ) (g : Geometry) (values saved : ℕ → ℕ) (number : ℕ) (s : Serves t g values saved number) (n b : ℕ) (place : Place) where
  module _ {value : ℕ} {ss : List Store} (accepted : evict_of t n b place ≡ carry g value ss) (limit : ℕ) (whole : length ss ≤ limit) where
    serves_dropped : dropped place ((view g t).entry n b) ≡ true → Serves (after g limit ss t) g values saved number
    serves_dropped e =
        let k = evict_drops_keeps t n b place accepted e limit in
        let lives = live_kept g (view g t) (view g (after g limit ss t)) k.marks in
        record {
          passed = evict_sound t n b place accepted limit whole;
          number_is = λ m l. ap (λ f. number_of (f m)) k.marks ∙ s.number_is m (lives m l);
          current = dropped_current g (view g t) _ n b lives (left t n b place accepted) (admits t n b place accepted).item values s.current
              ((evict_evicted t n b place accepted limit whole).drops e);
          back = back_held g (view g t) _ saved k s.back;
        }

    serves_moved : dropped place ((view g t).entry n b) ≡ false → Serves (after g limit ss t) g values saved number
    serves_moved e =
        let m = evict_moves_keeps t n b place accepted e limit in
        let lives = live_kept g (view g t) (view g (after g limit ss t)) m.marks in
        record {
          passed = evict_sound t n b place accepted limit whole;
          number_is = λ k l. ap (λ f. number_of (f k)) m.marks ∙ s.number_is k (lives k l);
          current = went_current g (view g t) _ n b lives (left t n b place accepted) (admits t n b place accepted).item values s.current _ _ place
              ((evict_evicted t n b place accepted limit whole).goes e) (leaving t n b place accepted).coded;
          back = moving_back g (view g t) _ n b lives (left t n b place accepted) (admits t n b place accepted).item saved s.back _ m;
        }

    serves_here : Serves (after g limit ss t) g values saved number
    serves_here = by_cases (dropped place ((view g t).entry n b)) serves_dropped serves_moved

  pub evict_serves :
      {g' : Geometry} {value : ℕ} {ss : List Store} → evict_of t n b place ≡ carry g' value ss → (limit : ℕ) → length ss ≤ limit
      → Serves (after g' limit ss t) g values saved number
  evict_serves accepted limit whole =
      let e = same_geometry t s.passed (carried t n b place accepted).passed in
      rw e (serves_here (rw e at accepted) limit whole)
