-- Evict on a view: a drop at the home, the copy that arrives there, the source's state; forms, frames and recovery copies before each store.
use Prim.Native.Nat.{ℕ, ◌+◌, ◌≤◌, ◌<◌}
use mathlib.Core.Path.{◌≡◌, sym, ap, ◌∙◌}
use mathlib.Core.Logic.{◌⊎◌, inl, inr, ◌≢◌}
use mathlib.Core.List.{List, map}
use native.Mathlib.Omega.{arith}
use native.Mathlib.Decide.{ℕ_discrete}
use Rattle.table.specs.declared.geometry.Geometry.{Geometry}
use Rattle.table.specs.Stores.{Change, entry_store}
use Rattle.table.specs.View.{Entry, View}
use Rattle.table.proofs.Laws.Via.{Via, via_weaken, via_loosen}
use Rattle.table.proofs.Laws.Pass.{Steps, Changed}
use Rattle.table.specs.Copies.{Copy, back_copy}
use Rattle.entries.specs.Frames.{set_of, set_frames, used}
use Rattle.entries.proofs.Laws.Frames.{set_there}
use Rattle.homes.proofs.Laws.Kept.{Live, Held}
use Rattle.homes.proofs.Laws.OneEntry.{OneAt, one_via, one_held}
use Rattle.homes.proofs.Laws.EvictEntry.{Arrives}
use Rattle.homes.proofs.Laws.Moving.{Moves, still, Moving}

module _ (g : Geometry) (v : View) (n h b : ℕ) (source : Live g v n) (home : Live g v h) (other : h ≢ n) (item : b < g.items) where
  -- before the copy arrives
  pub record Ready (u : View) : Type 0 where
    pub held : Held g v u
    pub back : (k c : ℕ) → Live g v k → c < g.items → back_copy (u.entry k c) ≡ back_copy (v.entry k c)
    pub stays : u.entry n b ≡ v.entry n b

  -- it has arrived, and the source has it still
  pub record Arrived (p : Copy) (u : View) : Type 0 where
    pub held : Held g v u
    pub back : (k c : ℕ) → Live g v k → c < g.items → (k ≡ h → c ≡ b → ⊥) → back_copy (u.entry k c) ≡ back_copy (v.entry k c)
    pub stays : u.entry n b ≡ v.entry n b
    pub arrived : back_copy (u.entry h b) ≡ p

  pub ready_moving : (w : View) → Ready w → Moving g n h b v w
  ready_moving w r = record {
    marks = r.held.marks;
    forms = r.held.forms;
    frames = r.held.frames;
    back = λ k c l i _ _. r.back k c l i;
    moves = still (r.back h b home item) (r.back n b source item);
  }

  -- ---- a drop at the home, of item j
  module _ (u : View) (r : Ready u) (j : ℕ) (hj : j < g.items) where
    room_none : used g u h (set_of g j) + 0 ≤ set_frames g
    room_none = let m = r.held.frames h (set_of g j) home (set_there g j) in omega arith

    drop_ready :
        (w : View) → OneAt (Arrives (u.entry h j) 0 (back_copy (u.entry h j))) h j u w → Ready w
    drop_ready w o = record {
      held = one_held g v u w r.held h j 0 home hj room_none o.marks o.here.form o.here.frames o.rest;
      back = λ k c l i. elim (ℕ_discrete k h) [
        | no p ↦ ap back_copy (o.rest k c (λ e _. p e)) ∙ r.back k c l i
        | yes p ↦ elim (ℕ_discrete c j) [
          | no q ↦ ap back_copy (o.rest k c (λ _ e. q e)) ∙ r.back k c l i
          | yes q ↦ rw (p, q) (same o.here.back ∙ r.back h j home hj)
        ]
      ];
      stays = o.rest n b (λ e _. other (sym e)) ∙ r.stays;
    }
      where
        same : (back_copy (w.entry h j) ≡ back_copy (u.entry h j)) ⊎ (back_copy (w.entry h j) ≡ back_copy (u.entry h j))
            → back_copy (w.entry h j) ≡ back_copy (u.entry h j)
        same (inl e) = e
        same (inr e) = e

    pub drop_via :
        {z : Entry → Type 0} {cs : List Change} → Steps (Arrives (u.entry h j) 0 (back_copy (u.entry h j))) z (u.entry h j) cs
        → Via g Ready (Changed z h j u) u (map (entry_store h j) cs)
    drop_via {z} s = via_loosen (one_via g (Arrives (u.entry h j) 0 (back_copy (u.entry h j))) z h j home.there hj u s) drop_ready

  -- ---- the copy arrives: p, and the source is left with q
  module _ (p q : Copy)
      (as-twice : (w : View) → back_copy (w.entry h b) ≡ p → back_copy (w.entry n b) ≡ back_copy (v.entry n b) → Moves n h b v w)
      (as_moved : (w : View) → back_copy (w.entry h b) ≡ p → back_copy (w.entry n b) ≡ q → Moves n h b v w) where
    module _ (u : View) (r : Ready u) (d : ℕ) (room : used g u h (set_of g b) + d ≤ set_frames g) where
      arrive_held : (w : View) → OneAt (Arrives (u.entry h b) d p) h b u w → Held g v w
      arrive_held w o = one_held g v u w r.held h b d home item room o.marks o.here.form o.here.frames o.rest

      arrive_back :
          (w : View) → ((k c : ℕ) → (k ≡ h → c ≡ b → ⊥) → w.entry k c ≡ u.entry k c)
          → (k c : ℕ) → Live g v k → c < g.items → (k ≡ h → c ≡ b → ⊥) → back_copy (w.entry k c) ≡ back_copy (v.entry k c)
      arrive_back w rest k c l i x = ap back_copy (rest k c x) ∙ r.back k c l i

      arrive_moving : (w : View) → OneAt (Arrives (u.entry h b) d p) h b u w → Moving g n h b v w
      arrive_moving w o = record {
        marks = (arrive_held w o).marks;
        forms = (arrive_held w o).forms;
        frames = (arrive_held w o).frames;
        back = λ k c l i _ x. arrive_back w o.rest k c l i x;
        moves = of o.here.back;
      }
        where
          at_source : back_copy (w.entry n b) ≡ back_copy (v.entry n b)
          at_source = arrive_back w o.rest n b source item (λ e _. other (sym e))

          of : (back_copy (w.entry h b) ≡ back_copy (u.entry h b)) ⊎ (back_copy (w.entry h b) ≡ p) → Moves n h b v w
          of (inl e) = still (e ∙ r.back h b home item) at_source
          of (inr e) = as-twice w e at_source

      pub arrive_via :
          {cs : List Change} → Steps (Arrives (u.entry h b) d p) (λ e. back_copy e ≡ p) (u.entry h b) cs
          → Via g (Moving g n h b v) (Arrived p) u (map (entry_store h b) cs)
      arrive_via s =
          via_loosen
          (via_weaken (one_via g (Arrives (u.entry h b) d p) (λ e. back_copy e ≡ p) h b home.there item u s)
          (λ w o c. record {
            held = arrive_held w o;
            back = arrive_back w o.rest;
            stays = o.rest n b (λ e _. other (sym e)) ∙ r.stays;
            arrived = c.good;
          }))
          arrive_moving

    -- ---- the source's state
    module _ (u : View) (r : Arrived p u) where
      leave_moving : (w : View) → OneAt (Arrives (u.entry n b) 0 q) n b u w → Moving g n h b v w
      leave_moving w o = record {
        marks = all.marks;
        forms = all.forms;
        frames = all.frames;
        back = λ k c l i x y. ap back_copy (o.rest k c x) ∙ r.back k c l i y;
        moves = of o.here.back;
      }
        where
          all : Held g v w
          all =
              let m = r.held.frames n (set_of g b) source (set_there g b) in
              one_held g v u w r.held n b 0 source item (omega arith) o.marks o.here.form o.here.frames o.rest

          at_home : back_copy (w.entry h b) ≡ p
          at_home = ap back_copy (o.rest h b (λ e _. other e)) ∙ r.arrived

          of : (back_copy (w.entry n b) ≡ back_copy (u.entry n b)) ⊎ (back_copy (w.entry n b) ≡ q) → Moves n h b v w
          of (inl e) = as-twice w at_home (e ∙ ap back_copy r.stays)
          of (inr e) = as_moved w at_home e

      pub leave_via :
          {z : Entry → Type 0} {cs : List Change} → Steps (Arrives (v.entry n b) 0 q) z (v.entry n b) cs
          → Via g (Moving g n h b v) (Moving g n h b v) u (map (entry_store n b) cs)
      leave_via {z} {cs} s =
          via_weaken
          (via_loosen
          (one_via g (Arrives (u.entry n b) 0 q) z n b source.there item u {cs = cs} (rw r.stays s))
          leave_moving)
          (λ w m _. m)
