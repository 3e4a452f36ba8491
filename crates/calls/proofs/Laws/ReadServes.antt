-- A whole read: it answers the value written last, and every value is as it was.
use Prim.Native.Nat.{ℕ, ◌≤◌, ◌<◌}
use mathlib.Core.Path.{◌≡◌, refl, ap, ◌∙◌}
use mathlib.Core.Logic.{◌≢◌}
use mathlib.Core.Bool.{Bool, true, false, cond}
use mathlib.Core.List.{List}
use native.Mathlib.Decide.{ℕ_discrete}
use lib.Dec.{eqb}
use lib.ListN.{length}
use Rattle.counting.proofs.Laws.Tests.{no_both}
use Rattle.table.specs.declared.geometry.Geometry.{Geometry}
use Rattle.table.specs.Words.{invalid, owner, modified}
use Rattle.table.specs.Stores.{Store, after}
use Rattle.table.specs.View.{Entry, View, view, current}
use Rattle.table.specs.Answers.{carry}
use Rattle.entries.proofs.Laws.SoundFacts.{phase_in}
use Rattle.entries.proofs.Laws.CheckFacts.{Accepted}
use Rattle.homes.proofs.Laws.Admission.{FrameAdmits, frame_admits}
use Rattle.homes.proofs.Laws.Plans.{Carried, acted_carried}
use Rattle.calls.specs.Read.{fetches, serves, server_of, read_admission, read_stores, read_value, read_of}
use Rattle.homes.proofs.Laws.Kept.{Live}
use Rattle.homes.proofs.Laws.Placed.{placed}
use Rattle.calls.proofs.Laws.ReadDone.{served_after, Serving, Answered, ReadDone}
use Rattle.calls.proofs.Laws.ReadTheorem.{read_keeps, read_value_lem, read_read}
use Rattle.calls.proofs.Laws.ReadSound.{read_facts}
use Rattle.homes.proofs.Laws.Serves.{CurrentHave, Serves, same_geometry, serves_number, serves_by, live_kept, back_held}

served_value : (e : Entry) → (served_after e).value ≡ e.value
served_value e = go (eqb (current e) modified)
  where
    go : (q : Bool) → (cond q (placed e owner e.value) e).value ≡ e.value
    go true = refl
    go false = refl

module _ (g : Geometry) (v : View) (n b : ℕ) (values : ℕ → ℕ) (h : CurrentHave g v values) (item : b < g.items) where
  -- a node that serves has a current copy
  server_value : (s : ℕ) → Serving g v b s → (v.entry s b).value ≡ values b
  server_value s z = h s b z.node item (λ q. no_both z.place (ap serves q))

  pub answered_value : Live g v n → (value : ℕ) → Answered g n b v value → value ≡ values b
  answered_value own value a = elim (ℕ_discrete (current (v.entry n b)) invalid) [
    | yes z ↦ a.served z ∙ server_value (server_of g v b) (a.serving z)
    | no q ↦ a.own q ∙ h n b own item q
  ]

  module _
      (w : View) (lives : (k : ℕ) → Live g w k → Live g v k) (serving : current (v.entry n b) ≡ invalid → Serving g v b (server_of g v b))
      (d : ReadDone g n b v w) where
    same_value : (k c : ℕ) → w.entry k c ≡ v.entry k c → Live g v k → c < g.items → current (w.entry k c) ≢ 0 → (w.entry k c).value ≡ values c
    same_value k c e l i q = ap (λ e. e.value) e ∙ h k c l i (λ z. q (ap current e ∙ z))

    fetched_item : current (v.entry n b) ≡ invalid → (k : ℕ) → Live g v k → current (w.entry k b) ≢ 0 → (w.entry k b).value ≡ values b
    fetched_item z k l q =
        let f = d.fetched z in
        let x = server_value (server_of g v b) (serving z) in
        elim (ℕ_discrete k n) [
          | yes e ↦ ap (λ k. (w.entry k b).value) e ∙ ap (λ e. e.value) f.reader ∙ x
          | no p ↦ elim (ℕ_discrete k (server_of g v b)) [
            | yes e ↦ ap (λ k. (w.entry k b).value) e ∙ ap (λ e. e.value) f.server ∙ served_value (v.entry (server_of g v b) b) ∙ x
            | no r ↦ same_value k b (f.others k p r) l item q
          ]
        ]

    fetched_current : current (v.entry n b) ≡ invalid → CurrentHave g w values
    fetched_current z k c l i q = elim (ℕ_discrete c b) [
      | yes e ↦ rw e (fetched_item z k (lives k l) (λ y. q (ap (λ c. current (w.entry k c)) e ∙ y)))
      | no p ↦ same_value k c ((d.fetched z).rest k c p) (lives k l) i q
    ]

    pub read_current : CurrentHave g w values
    read_current k c l i q = elim (ℕ_discrete (current (v.entry n b)) invalid) [
      | yes z ↦ fetched_current z k c l i q
      | no p ↦ same_value k c (ap (λ v. v.entry k c) (d.here p)) (lives k l) i q
    ]

module _ (t : List ℕ) (n b : ℕ) {g : Geometry} {value : ℕ} {ss : List Store} (accepted : read_of t n b ≡ carry g value ss) where
  carried : Carried (λ g v. read_admission g v n b) (λ g v. read_stores g v n b) t g ss
  carried = acted_carried (λ g v. read_admission g v n b) (λ g v. read_value g v n b) (λ g v. read_stores g v n b) t accepted

  admits : FrameAdmits g (view g t) n b (fetches ((view g t).entry n b))
  admits = frame_admits g (view g t) n b (fetches ((view g t).entry n b)) carried.admitted

  own : Live g (view g t) n
  own = record { there = admits.place.node; marked = admits.place.live }

module _ (t : List ℕ) (g : Geometry) (values saved : ℕ → ℕ) (number : ℕ) (s : Serves t g values saved number) (n b : ℕ) where
  answers_here : {value : ℕ} {ss : List Store} → read_of t n b ≡ carry g value ss → value ≡ values b
  answers_here {value} accepted =
      answered_value g (view g t) n b values s.current (admits t n b accepted).place.item (own t n b accepted) value (read_value_lem t n b accepted)

  -- what it answers
  pub read_answers : {g' : Geometry} {value : ℕ} {ss : List Store} → read_of t n b ≡ carry g' value ss → value ≡ values b
  read_answers accepted = answers_here (rw (same_geometry t s.passed (carried t n b accepted).passed) at accepted)

  serves_here :
      {value : ℕ} {ss : List Store} → read_of t n b ≡ carry g value ss → (limit : ℕ) → length ss ≤ limit
      → Serves (after g limit ss t) g values saved number
  serves_here {value} {ss} accepted limit whole =
      let k = read_keeps t n b accepted limit in
      let a : Accepted (after g limit ss t) g (phase_in g (view g t)) number =
      rw (serves_number t g values saved number s) at (read_facts t n b accepted limit whole) in
      serves_by (after g limit ss t) g values saved _ number a
      (read_current g (view g t) n b values s.current (admits t n b accepted).place.item _ (live_kept g _ _ k.marks)
      (read_value_lem t n b accepted).serving (read_read t n b accepted limit whole))
      (back_held g (view g t) _ saved k s.back)

  pub read_serves :
      {g' : Geometry} {value : ℕ} {ss : List Store} → read_of t n b ≡ carry g' value ss → (limit : ℕ) → length ss ≤ limit
      → Serves (after g' limit ss t) g values saved number
  read_serves accepted limit whole =
      let e = same_geometry t s.passed (carried t n b accepted).passed in
      rw e (serves_here (rw e at accepted) limit whole)
