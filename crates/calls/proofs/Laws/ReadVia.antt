-- Read on a view: every store keeps every live entry safe, the last one leaves the table read, and the answer is the value of the current copies.
use Prim.Native.Nat.{ℕ, ◌+◌, ◌≤◌}
use mathlib.Core.Path.{◌≡◌, refl, sym, ap, ◌∙◌}
use mathlib.Core.Logic.{◌≢◌}
use mathlib.Core.Bool.{Bool, true, false, cond}
use mathlib.Core.List.{[]}
use native.Mathlib.Omega.{arith}
use borrow.Author.Tests.{eqb-true, eqb-false, eq-eqb, ne_eqb}
use Rattle.counting.proofs.Laws.Tests.{by_cases}
use Rattle.table.specs.declared.geometry.Geometry.{Geometry}
use Rattle.table.specs.Words.{invalid, shared}
use Rattle.table.specs.View.{Entry, View, current}
use Rattle.table.proofs.Laws.Via.{Via, done, via_then, via_weaken}
use Rattle.table.proofs.Laws.Pass.{Steps, steps_map, Each, entry_via}
use Rattle.entries.specs.Frames.{set_of, set_frames, used}
use Rattle.entries.proofs.Laws.Frames.{set_there}
use Rattle.entries.proofs.Laws.SoundFacts.{SoundTable}
use Rattle.homes.proofs.Laws.Admission.{FrameAdmits}
use Rattle.calls.specs.Read.{fetches, server_of, served, server_changes, reader_changes, fetch_from, fetch_stores, read_stores, read_value}
use Rattle.homes.proofs.Laws.Kept.{Live, Kept, live_test}
use Rattle.homes.proofs.Laws.SoundTells.{formed_at, copies_agree}
use Rattle.homes.proofs.Laws.Safe.{safe_with}
use Rattle.homes.proofs.Laws.SafeKept.{safe_at, safe_begins, safe_keeps}
use Rattle.homes.proofs.Laws.KeptOn.{more_at, more_here}
use Rattle.homes.proofs.Laws.Placed.{placed}
use Rattle.calls.proofs.Laws.ReadDone.{served_after, Serving, Answered, Fetched, ReadDone}
use Rattle.calls.proofs.Laws.ReadEntry.{server_steps, reader_steps}
use Rattle.calls.proofs.Laws.ReadServer.{serves_copy, server_serves}

module _ (g : Geometry) (v : View) (phase number n b : ℕ) (good : SoundTable g v phase number) (a : FrameAdmits g v n b (fetches (v.entry n b))) where
  -- the frame that a fetch needs
  abbrev pub frame_for : ℕ
  frame_for = cond (fetches (v.entry n b)) 1 0

  abbrev pub safe : ℕ → ℕ → Entry → Type 0
  safe = safe_at g v n b frame_for

  own_live : Live g v n
  own_live = record { there = a.place.node; marked = a.place.live }

  closed : phase ≢ 1
  closed e = a.place.closed (good.phases n a.place.node (live_test g v n own_live) ∙ e)

  serving : Serving g v b (server_of g v b)
  serving = server_serves g v phase number b good closed a.place.item

  server_copy : current (v.entry (server_of g v b) b) ≢ invalid
  server_copy = serves_copy _ serving.place

  -- an Invalid place does not serve
  server_other : current (v.entry n b) ≡ invalid → server_of g v b ≢ n
  server_other z e = server_copy (ap (λ k. current (v.entry k b)) e ∙ z)

  -- ---- the value
  pub value_answered : Answered g n b v (read_value g v n b)
  unfolding read_value
  value_answered = record {
    own = λ d. rw (ne_eqb (current (v.entry n b)) invalid d);
    serving = λ z. serving;
    served = λ z. rw (eq-eqb (current (v.entry n b)) invalid z);
    other = server_other;
    agreed = λ m l d. by_cases (fetches (v.entry n b))
        (λ q. rw q (copies_agree g v phase number b good closed a.place.item (server_of g v b) m serving.node l server_copy d))
        (λ q. rw q (copies_agree g v phase number b good closed a.place.item n m own_live l (eqb-false (current (v.entry n b)) invalid q) d));
  }

  -- ---- the stores
  server_local :
      Steps (safe (server_of g v b) b) (λ e. e ≡ served_after (served g v b)) (served g v b) (server_changes (served g v b))
  server_local =
      steps_map (λ e s _ _. safe_with (omega arith) s) (λ e z. z)
      (server_steps (served g v b) (formed_at g v phase number good (server_of g v b) b serving.node a.place.item) serving.place)

  reader_local :
      current (v.entry n b) ≡ invalid → (x : ℕ) → Steps (safe n b) (λ e. e ≡ placed (v.entry n b) shared x) (v.entry n b) (reader_changes (v.entry n b) x)
  reader_local z x =
      let q : more_at n b frame_for n b ≡ 1 = more_here n b frame_for ∙ rw (eq-eqb (current (v.entry n b)) invalid z) in
      steps_map (λ e s _ _. safe_with (omega arith) s) (λ e z. z)
      (reader_steps (v.entry n b) (formed_at g v phase number good n b own_live a.place.item) z x)

  begin : Each safe v v
  begin = record { marks = refl; entries = safe_begins g v n b frame_for phase number good }

  fetch_via :
      current (v.entry n b) ≡ invalid → Via g (Each safe v) (Fetched (server_of g v b) n b (served g v b).value v) v (fetch_stores g v n b)
  unfolding fetch_from
  fetch_via z = via_then
      (entry_via g safe v (λ e. e ≡ served_after (served g v b)) (server_of g v b) b serving.node.there a.place.item v begin server_local)
      (λ u eu cu. via_weaken
      (entry_via g safe v (λ e. e ≡ placed (v.entry n b) shared (served g v b).value) n b a.place.node a.place.item u eu
      {cs = reader_changes (v.entry n b) (served g v b).value}
      (rw (cu.rest n b (λ e _. server_other z (sym e))) (reader_local z (served g v b).value)))
      (λ w ew cw. record {
        reader = cw.good;
        server = cw.rest (server_of g v b) b (λ e _. server_other z e) ∙ cu.good;
        others = λ k d d'. cw.rest k b (λ e _. d e) ∙ cu.rest k b (λ e _. d' e);
        rest = λ k c d. cw.rest k c (λ _ e. d e) ∙ cu.rest k c (λ _ e. d e);
        marks = ew.marks;
      }))

  pub read_via : Via g (Each safe v) (ReadDone g n b v) v (read_stores g v n b)
  unfolding read_stores
  read_via = go (fetches (v.entry n b)) refl
    where
      go : (q : Bool) → fetches (v.entry n b) ≡ q → Via g (Each safe v) (ReadDone g n b v) v (cond q (fetch_stores g v n b) [])
      go true q =
          let z = eqb-true (current (v.entry n b)) invalid q in
          via_weaken (fetch_via z) (λ w _ f. record { here = λ d. absurd (d z); fetched = λ _. f })
      go false q = done begin (record { here = λ d. refl; fetched = λ z. absurd (eqb-false (current (v.entry n b)) invalid q z) })

  -- a frame is free where one is needed
  room : used g v n (set_of g b) + frame_for ≤ set_frames g
  room = go (fetches (v.entry n b)) refl
    where
      go : (q : Bool) → fetches (v.entry n b) ≡ q → used g v n (set_of g b) + cond q 1 0 ≤ set_frames g
      go true h = let r = a.room h in omega arith
      go false h = let r = good.frames n (set_of g b) a.place.node (set_there g b) (live_test g v n own_live) in omega arith

  pub safe_kept : (w : View) → Each safe v w → Kept g v w
  safe_kept = safe_keeps g v n b frame_for phase number good own_live a.place.item room
