-- The item that was read: clean it is clean with one Shared copy more; dirty it has an Owner, and the Shared copy beside it.
use Prim.Native.Nat.{ℕ, ◌<◌}
use mathlib.Core.Path.{◌≡◌, refl, sym, ap, ◌∙◌}
use mathlib.Core.Logic.{◌≢◌}
use mathlib.Core.Bool.{true, not}
use native.Mathlib.Omega.{arith}
use native.Mathlib.Decide.{ℕ_discrete}
use lib.Dec.{eqb}
use borrow.Author.Tests.{eq-eqb, ne_eqb}
use Rattle.counting.proofs.Laws.Tests.{no_both, by_cases}
use Rattle.table.specs.declared.geometry.Geometry.{Geometry}
use Rattle.table.specs.Words.{state_form, invalid, shared, owner, modified}
use Rattle.table.specs.View.{Entry, View, live, current, kept}
use Rattle.entries.specs.Tally.{copy}
use Rattle.entries.proofs.Laws.Kinds.{clean_code, owner_code, Clean, Owned, modified_at, owner_at, Dirty, Kind, clean, dirty, created, has_live, has_code, has_at_lem, has_copy_lem, copy_at, copy_live, copy_code}
use Rattle.entries.proofs.Laws.Update.{Elsewhere, only_keeps}
use Rattle.entries.proofs.Laws.Sharers.{add_shared_clean}
use Rattle.homes.proofs.Laws.Placed.{placed_current, placed_kept}
use Rattle.homes.proofs.Laws.Kept.{live_test}
use Rattle.calls.proofs.Laws.ReadDone.{served_after, Serving, Fetched}
use Rattle.calls.proofs.Laws.ReadServer.{serves_copy}
use Rattle.homes.proofs.Laws.SoundKept.{saved_kept}

-- ---- the server's entry

module _ (e : Entry) (form : state_form e.state ≡ true) where
  pub served_kept : kept (served_after e) ≡ kept e
  served_kept = by_cases (eqb (current e) modified) (λ q. rw q (placed_kept e form owner e.value (omega arith))) (λ q. rw q refl)

  pub served_value : (served_after e).value ≡ e.value
  served_value = by_cases (eqb (current e) modified) (λ q. rw q refl) (λ q. rw q refl)

  pub served_kept_value : (served_after e).kept_value ≡ e.kept_value
  served_kept_value = by_cases (eqb (current e) modified) (λ q. rw q refl) (λ q. rw q refl)

  pub served_same : current e ≢ modified → served_after e ≡ e
  served_same d = rw (ne_eqb (current e) modified d) refl

  pub served_owner : current e ≡ modified → current (served_after e) ≡ owner
  served_owner h = rw (eq-eqb (current e) modified h) (placed_current e form owner e.value (omega arith))

-- ---- the item

module _ (g : Geometry) (v w : View) (s n b : ℕ) (f : Fetched s n b (v.entry s b).value v w) (serving : Serving g v b s)
    (empty : current (v.entry n b) ≡ invalid) (form : state_form (v.entry n b).state ≡ true) (formed : state_form (v.entry s b).state ≡ true) where
  -- the reader, the server, another
  each : (P : ℕ → Type 0) → P n → P s → ((k : ℕ) → k ≢ n → k ≢ s → P k) → (k : ℕ) → P k
  each P p q r k = elim (ℕ_discrete k n) [ yes e ↦ rw e p | no d ↦ elim (ℕ_discrete k s) [ yes e ↦ rw e q | no d' ↦ r k d d' ] ]

  server_copy : copy v b s ≡ true
  server_copy = copy_at v b s (live_test g v s serving.node) (serves_copy _ serving.place)

  reader_current : current (w.entry n b) ≡ shared
  reader_current = ap current f.reader ∙ placed_current (v.entry n b) form shared (v.entry s b).value (omega arith)

  same_kept_lem : (k : ℕ) → kept (w.entry k b) ≡ kept (v.entry k b)
  same_kept_lem = each (λ k. kept (w.entry k b) ≡ kept (v.entry k b))
      (ap kept f.reader ∙ placed_kept (v.entry n b) form shared (v.entry s b).value (omega arith))
      (ap kept f.server ∙ served_kept (v.entry s b) formed)
      (λ k d d'. ap kept (f.others k d d'))

  same_kept_value : (k : ℕ) → (w.entry k b).kept_value ≡ (v.entry k b).kept_value
  same_kept_value = each (λ k. (w.entry k b).kept_value ≡ (v.entry k b).kept_value)
      (ap (λ e. e.kept_value) f.reader)
      (ap (λ e. e.kept_value) f.server ∙ served_kept_value (v.entry s b) formed)
      (λ k d d'. ap (λ e. e.kept_value) (f.others k d d'))

  live_was : (k : ℕ) → live w k ≡ true → live v k ≡ true
  live_was k t = rw f.marks at t

  -- copies but the reader's were there, with their values
  copy_was : (k : ℕ) → k ≢ n → copy w b k ≡ true → copy v b k ≡ true
  copy_was k d t = elim (ℕ_discrete k s) [
    | yes e ↦ rw e server_copy
    | no d' ↦ copy_at v b k (live_was k (copy_live w b k t)) (λ z. copy_code w b k t (ap current (f.others k d d') ∙ z))
  ]

  value_was : (k : ℕ) → k ≢ n → (w.entry k b).value ≡ (v.entry k b).value
  value_was k d = elim (ℕ_discrete k s) [
    | yes e ↦ rw e (ap (λ e. e.value) f.server ∙ served_value (v.entry s b) formed)
    | no d' ↦ ap (λ e. e.value) (f.others k d d')
  ]

  values_are :
      (x : ℕ) → ((k : ℕ) → k < g.nodes → copy v b k ≡ true → (v.entry k b).value ≡ x) → (k : ℕ) → k < g.nodes → copy w b k ≡ true
      → (w.entry k b).value ≡ x
  values_are x h k l t = elim (ℕ_discrete k n) [
    | yes e ↦ ap (λ i. (w.entry i b).value) e ∙ ap (λ e. e.value) f.reader ∙ h s serving.node.there server_copy
    | no d ↦ value_was k d ∙ h k l (copy_was k d t)
  ]

  -- a server that was not Modified is as it was: only the reader's entry is another
  elsewhere : current (v.entry s b) ≢ modified → Elsewhere v w n b
  elsewhere h = record {
    mark = λ k. ap (λ m. m k) f.marks;
    entry = λ k d. elim (ℕ_discrete k s) [
      | yes e ↦ rw e (f.server ∙ served_same (v.entry s b) formed h)
      | no d' ↦ f.others k d d'
    ];
  }

  clean_read : Clean v g.nodes b → Clean w g.nodes b
  clean_read k =
      let h : current (v.entry s b) ≢ modified = λ m. no_both (k.others s serving.node.there server_copy) (ap clean_code m) in
      add_shared_clean v w g.nodes n b (elsewhere h) (same_kept_lem n) (same_kept_value n) empty reader_current k
      (sym (k.values s serving.node.there server_copy) ∙ ap (λ e. e.value) (sym f.reader))

  owned_read : (m : ℕ) → Owned v g.nodes b m → Owned w g.nodes b m
  owned_read m (owner_at o codes) =
      let h : current (v.entry s b) ≢ modified = λ z. no_both (codes s serving.node.there server_copy) (ap owner_code z) in
      owner_at
      (only_keeps v w g.nodes n b (elsewhere h) owner m (λ z. omega arith) (λ z. omega (arith, reader_current)) o)
      (λ k l t. elim (ℕ_discrete k n) [
        | yes e ↦ ap (λ i. owner_code (current (w.entry i b))) e ∙ ap owner_code reader_current
        | no d ↦ ap (λ e. owner_code (current e)) ((elsewhere h).entry k d) ∙ codes k l (copy_was k d t)
      ])
  owned_read m (modified_at o alone) =
      let e : s ≡ m = alone s serving.node.there server_copy in
      let c : current (w.entry m b) ≡ owner =
      ap (λ i. current (w.entry i b)) (sym e) ∙ ap current f.server
      ∙ served_owner (v.entry s b) formed (ap (λ i. current (v.entry i b)) e ∙ has_code v b m modified o.holds) in
      owner_at
      (record {
        within = o.within;
        holds = has_at_lem w b m owner (ap (λ k. not (eqb (k m) 0)) f.marks ∙ has_live v b m modified o.holds) c;
        alone = λ k l t. elim (ℕ_discrete k n) [
          | yes q ↦ absurd (omega (arith, reader_current, ap (λ i. current (w.entry i b)) (sym q) ∙ has_code w b k owner t))
          | no d ↦ alone k l (copy_was k d (has_copy_lem w b k owner (λ z. omega arith) t))
        ];
      })
      (λ k l t. elim (ℕ_discrete k n) [
        | yes q ↦ ap (λ i. owner_code (current (w.entry i b))) q ∙ ap owner_code reader_current
        | no d ↦ ap (λ i. owner_code (current (w.entry i b))) (alone k l (copy_was k d t)) ∙ ap owner_code c
      ])

  dirty_read : Dirty v g.nodes b → Dirty w g.nodes b
  dirty_read k = record {
    node = k.node;
    value = k.value;
    owned = owned_read k.node k.owned;
    values = values_are k.value k.values;
    saved = saved_kept v w g.nodes b f.marks (λ i _. same_kept_lem i) (λ i _. same_kept_value i) k.saved;
  }

  pub kind_read : (phase : ℕ) → phase ≢ 1 → Kind phase v g.nodes b → Kind phase w g.nodes b
  kind_read phase d (clean k) = clean (clean_read k)
  kind_read phase d (dirty k) = dirty (dirty_read k)
  kind_read phase d (created e k) = absurd (d e)
