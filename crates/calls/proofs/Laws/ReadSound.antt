-- A whole read leaves a table that is accepted.
use Rattle.std.specs.Prelude.{Ok}
use Prim.Native.Nat.{ℕ, ◌≤◌, ◌<◌}
use mathlib.Core.Path.{◌≡◌, ◌∙◌}
use mathlib.Core.Logic.{◌≢◌}
use mathlib.Core.Bool.{Bool, true, false, cond}
use mathlib.Core.List.{List, []}
use native.Mathlib.Decide.{ℕ_discrete}
use lib.ListN.{length}
use Rattle.table.specs.declared.geometry.Geometry.{Geometry}
use Rattle.table.specs.Words.{invalid}
use Rattle.table.specs.Stores.{Store, after}
use Rattle.table.proofs.Laws.Stores.{All, none, all_then}
use Rattle.table.specs.View.{View, view, current}
use Rattle.table.specs.Answers.{carry}
use Rattle.entries.specs.Check.{fault_of}
use Rattle.entries.proofs.Laws.Kinds.{Kind}
use Rattle.entries.proofs.Laws.SoundFacts.{SoundTable, phase_in, number_in}
use Rattle.entries.proofs.Laws.CheckFacts.{Accepted, accepted_facts, facts_accepted}
use Rattle.homes.proofs.Laws.Admission.{FrameAdmits, frame_admits}
use Rattle.homes.proofs.Laws.Plans.{Carried, acted_carried}
use Rattle.calls.specs.Read.{fetches, server_of, served, server_changes, reader_changes, fetch_from, fetch_stores, read_admission, read_stores, read_value, read_of}
use Rattle.homes.proofs.Laws.Kept.{Live, live_test}
use Rattle.calls.proofs.Laws.ReadDone.{Serving, ReadDone}
use Rattle.calls.proofs.Laws.ReadTheorem.{read_keeps, read_value_lem, read_read}
use Rattle.homes.proofs.Laws.SoundKept.{Off, entry_off, shape_after, kind_same, sound_kept}
use Rattle.calls.proofs.Laws.ReadKind.{kind_read}

pub read_off : (g : Geometry) (v : View) (n b : ℕ) → All (Off g) (read_stores g v n b)
unfolding read_stores fetch_from
read_off g v n b = go (fetches (v.entry n b))
  where
    go : (q : Bool) → All (Off g) (cond q (fetch_stores g v n b) [])
    go true = all_then (entry_off g (server_of g v b) b (server_changes (served g v b))) (entry_off g n b (reader_changes (v.entry n b) (served g v b).value))
    go false = none

-- every item is of its kind still
module _ (g : Geometry) (v w : View) (phase number n b : ℕ) (good : SoundTable g v phase number) (own : Live g v n) (item : b < g.items) (closed : phase ≢ 1)
    (serving : current (v.entry n b) ≡ invalid → Serving g v b (server_of g v b)) (d : ReadDone g n b v w) where
  fetched_kind : current (v.entry n b) ≡ invalid → (c : ℕ) → c < g.items → Kind phase w g.nodes c
  fetched_kind z c h =
      let f = d.fetched z in
      let s = serving z in
      elim (ℕ_discrete c b) [
        | yes e ↦ rw e (kind_read g v w (server_of g v b) n b f s z
            (good.forms n b own.there item (live_test g v n own))
            (good.forms (server_of g v b) b s.node.there item (live_test g v (server_of g v b) s.node))
            phase closed (good.items b item))
        | no q ↦ kind_same v w g.nodes c phase f.marks (λ k _. f.rest k c q) (good.items c h)
      ]

  pub read_kinds : (c : ℕ) → c < g.items → Kind phase w g.nodes c
  read_kinds c h = elim (ℕ_discrete (current (v.entry n b)) invalid) [
    | yes z ↦ fetched_kind z c h
    | no q ↦ rw (d.here q) (good.items c h)
  ]

module _ (t : List ℕ) (n b : ℕ) {g : Geometry} {value : ℕ} {ss : List Store} (accepted : read_of t n b ≡ carry g value ss) where
  carried : Carried (λ g v. read_admission g v n b) (λ g v. read_stores g v n b) t g ss
  carried = acted_carried (λ g v. read_admission g v n b) (λ g v. read_value g v n b) (λ g v. read_stores g v n b) t accepted

  abbrev phase : ℕ
  phase = phase_in g (view g t)

  abbrev number : ℕ
  number = number_in g (view g t)

  facts : Accepted t g phase number
  facts = accepted_facts t g carried.passed

  admits : FrameAdmits g (view g t) n b (fetches ((view g t).entry n b))
  admits = frame_admits g (view g t) n b (fetches ((view g t).entry n b)) carried.admitted

  own : Live g (view g t) n
  own = record { there = admits.place.node; marked = admits.place.live }

  closed : phase ≢ 1
  closed e = admits.place.closed (facts.table.phases n admits.place.node (live_test g (view g t) n own) ∙ e)

  -- the table after a whole read is sound, of the same phase and number
  pub read_facts : (limit : ℕ) → length ss ≤ limit → Accepted (after g limit ss t) g phase number
  read_facts limit all = record {
    shape = shape_after g limit t (rw carried.stores_are (read_off g (view g t) n b)) facts.shape;
    table = sound_kept g (view g t) _ phase number facts.table (read_keeps t n b accepted limit)
        (read_kinds g (view g t) _ phase number n b facts.table own admits.place.item closed (read_value_lem t n b accepted).serving (read_read t n b accepted limit all));
  }

  -- so the next call accepts it
  pub read_sound : (limit : ℕ) → length ss ≤ limit → fault_of (after g limit ss t) ≡ Ok g
  read_sound limit all = facts_accepted (after g limit ss t) g phase number (read_facts limit all)
