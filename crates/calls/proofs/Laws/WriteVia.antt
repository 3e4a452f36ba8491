-- Write on a view: every store keeps every live entry safe, and the last one leaves the table written.
use Prim.Native.Nat.{ℕ, ◌+◌, ◌≤◌, ◌<◌}
use mathlib.Core.Path.{◌≡◌, refl, ◌∙◌}
use mathlib.Core.Bool.{Bool, true, false, cond, ◌||◌}
use mathlib.Core.List.{[]}
use native.Mathlib.Omega.{arith}
use native.Mathlib.Decide.{dec_lt}
use lib.Dec.{eqb}
use borrow.Author.Tests.{eqb-false, eq-eqb, ne_eqb}
use Rattle.table.specs.declared.geometry.Geometry.{Geometry}
use Rattle.table.specs.Words.{invalid, modified, precommit1}
use Rattle.table.specs.View.{Entry, View, current}
use Rattle.table.proofs.Laws.Via.{Via, via_then, via_weaken}
use Rattle.table.proofs.Laws.Pass.{Steps, last, steps_map, Each, Passed, pass_via, entry_via}
use Rattle.entries.specs.Frames.{set_of, set_frames, used}
use Rattle.entries.proofs.Laws.Frames.{set_there}
use Rattle.entries.proofs.Laws.SoundFacts.{SoundTable}
use Rattle.homes.proofs.Laws.Admission.{FrameAdmits}
use Rattle.calls.specs.Write.{write_needs, other_change, other_changes, other_stores, own_changes, write_stores}
use Rattle.homes.proofs.Laws.Kept.{Live, Kept, live_test}
use Rattle.homes.proofs.Laws.SoundTells.{no_precommit, formed_at}
use Rattle.homes.proofs.Laws.Safe.{safe_with}
use Rattle.homes.proofs.Laws.SafeKept.{safe_at, safe_begins, safe_keeps}
use Rattle.homes.proofs.Laws.KeptOn.{more_here}
use Rattle.calls.proofs.Laws.Written.{away, Written}
use Rattle.calls.proofs.Laws.WriteEntry.{extra, other_steps, own_steps}

module _ (g : Geometry) (v : View) (phase number n b x : ℕ) (good : SoundTable g v phase number) (a : FrameAdmits g v n b (write_needs v n b)) where
  -- the frame that the write may need, at its own entry only
  abbrev safe : ℕ → ℕ → Entry → Type 0
  safe = safe_at g v n b (extra (v.entry n b))

  own_live : Live g v n
  own_live = record { there = a.place.node; marked = a.place.live }

  -- no checkpoint is open, so no live entry is Precommit
  plain_at : (k : ℕ) → Live g v k → current (v.entry k b) < precommit1
  plain_at k l =
      no_precommit g v phase number good (λ e. a.place.closed (good.phases n a.place.node (live_test g v n own_live) ∙ e))
      k b l.there a.place.item (live_test g v k l)

  begin : (k c : ℕ) → safe k c (v.entry k c)
  begin = safe_begins g v n b (extra (v.entry n b)) phase number good

  -- another node's entry, or nothing
  abbrev other_after : ℕ → Entry
  other_after k = cond (eqb k n || eqb (v.mark k) 0) (v.entry k b) (away (v.entry k b) invalid (v.entry k b).value)

  others_local : (k : ℕ) → k < g.nodes → Steps (safe k b) (λ e. e ≡ other_after k) (v.entry k b) (other_changes v n b k)
  unfolding other_changes
  others_local k hk = go (eqb k n) (eqb (v.mark k) 0) refl
    where
      go : (p q : Bool) → eqb (v.mark k) 0 ≡ q
          → Steps (safe k b) (λ e. e ≡ cond (p || q) (v.entry k b) (away (v.entry k b) invalid (v.entry k b).value)) (v.entry k b)
          (cond (p || q) [] (other_change (v.entry k b)))
      go true q h = last (begin k b) refl
      go false true h = last (begin k b) refl
      go false false h =
          let l : Live g v k = record { there = hk; marked = eqb-false (v.mark k) 0 h } in
          steps_map (λ e s _ _. safe_with (omega arith) s) (λ e z. z) (other_steps (v.entry k b) (formed_at g v phase number good k b l a.place.item) (plain_at k l))

  own_local : Steps (safe n b) (λ e. e ≡ away (v.entry n b) modified x) (v.entry n b) (own_changes (v.entry n b) x)
  own_local =
      let q = more_here n b (extra (v.entry n b)) in
      steps_map (λ e s _ _. safe_with (omega arith) s) (λ e z. z) (own_steps (v.entry n b) (formed_at g v phase number good n b own_live a.place.item) x)

  pub write_via : Via g (Each safe v) (Written g n b x v) v (write_stores g v n b x)
  unfolding write_stores other_stores
  write_via = via_then
      (pass_via g safe v (λ k. k) (λ k. b) g.nodes (λ k h. (h, a.place.item)) (λ k d _ _ e _. e) (λ k e. e ≡ other_after k)
      (other_changes v n b) v others_local (record { marks = refl; entries = begin }))
      (λ u eu pu. via_weaken
      (entry_via g safe v (λ e. e ≡ away (v.entry n b) modified x) n b a.place.node a.place.item u eu
      {cs = own_changes (v.entry n b) x} (rw (own_at u pu) own_local))
      (λ w ew cw. record {
        own = cw.good;
        others = λ k l d. cw.rest k b (λ e _. d e) ∙ pu.good k l.there ∙ rw (ne_eqb k n d, ne_eqb (v.mark k) 0 l.marked);
        dead = λ k z d. cw.rest k b (λ e _. d e) ∙ dead_at u pu k z d;
        rest = λ k c d. cw.rest k c (λ _ e. d e) ∙ pu.rest k c (λ _ _ _ e. d e);
        marks = ew.marks;
      }))
    where
      own_at : (u : View) → Passed (λ k. k) (λ k. b) (λ k e. e ≡ other_after k) v g.nodes u → u.entry n b ≡ v.entry n b
      own_at u pu = pu.good n a.place.node ∙ rw (eq-eqb n n refl)

      dead_at :
          (u : View) → Passed (λ k. k) (λ k. b) (λ k e. e ≡ other_after k) v g.nodes u → (k : ℕ) → v.mark k ≡ 0 → (k ≡ n → ⊥)
          → u.entry k b ≡ v.entry k b
      dead_at u pu k z d =
          elim (dec_lt k g.nodes) [
            | yes l ↦ pu.good k l ∙ rw (ne_eqb k n d, eq-eqb (v.mark k) 0 z)
            | no l ↦ pu.rest k b (λ m h e _. absurd (omega arith))
          ]

  -- a frame is free where one is needed
  room : used g v n (set_of g b) + extra (v.entry n b) ≤ set_frames g
  room = go (write_needs v n b) refl
    where
      go : (q : Bool) → write_needs v n b ≡ q → used g v n (set_of g b) + cond q 1 0 ≤ set_frames g
      go true h = let r = a.room h in omega arith
      go false h = let r = good.frames n (set_of g b) a.place.node (set_there g b) (live_test g v n own_live) in omega arith

  -- what holds entry by entry keeps the frames of every node
  pub safe_kept : (w : View) → Each safe v w → Kept g v w
  safe_kept = safe_keeps g v n b (extra (v.entry n b)) phase number good own_live a.place.item room
