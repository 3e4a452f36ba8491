-- However an eviction that sends a copy home is cut, the survivors are ready: the home has the source's recovery copy before the source loses it.
use Rattle.std.specs.Prelude.{Option}
use Prim.Native.Nat.{ℕ, ◌<◌}
use mathlib.Core.Path.{◌≡◌, sym, ap, ◌∙◌}
use mathlib.Core.Logic.{◌≢◌}
use mathlib.Core.Bool.{false}
use mathlib.Core.List.{List}
use native.Mathlib.Decide.{ℕ_discrete}
use Rattle.table.specs.declared.geometry.Geometry.{Geometry}
use Rattle.table.specs.View.{View, view, live}
use Rattle.table.specs.Copies.{no_copy, back_copy, copy_number}
use Rattle.homes.proofs.Laws.Kept.{Live}
use Rattle.homes.proofs.Laws.Moving.{Moves, still, twice, moved, Moving}
use Rattle.homes.proofs.Laws.EvictServes.{moving_back}
use Rattle.homes.proofs.Laws.Serves.{BackHave, Serves}
use Rattle.survivors.specs.Survivors.{survivors}
use Rattle.recovery.proofs.Laws.Ready.{Holds, Ready}
use Rattle.restore.proofs.Laws.Standing.{Two, Standing, live_before, live_still}
use Rattle.restore.proofs.Laws.KeptReady.{running_ready, some_item, serves_standing, same_running}

-- v at entry, u at the cut: item b goes from node n to its home h
module _
    (g : Geometry) (v u : View) (n h b : ℕ) (same : (k : ℕ) → k < g.nodes → live u k ≡ live v k) (source : Live g v n) (home : Live g v h)
    (item : b < g.items) (m : Moving g n h b v u) where
  -- ---- the two copies of an item

  -- a node that has what it, or another, had
  held_from : (k j c : ℕ) → Live g v k → back_copy (u.entry k c) ≡ back_copy (v.entry j c) → Holds g false v c j → Holds g false u c k
  held_from k j c l e d = record { alive = live_still g v u same k l; copied = λ z. d.copied (sym (ap copy_number e) ∙ z) }

  others_kept : (c : ℕ) → c < g.items → c ≢ b → Two g false v c → Two g false u c
  others_kept c i d p = record {
    one = p.one;
    two = p.two;
    apart = p.apart;
    first = held p.one p.first;
    second = held p.two p.second;
  }
    where
      held : (k : ℕ) → Holds g false v c k → Holds g false u c k
      held k q = held_from k k c q.alive (m.back k c q.alive i (λ _ e. d e) (λ _ e. d e)) q

  -- a holder stays one, if it does as source and as home
  held_here :
      (k : ℕ) → Holds g false v b k → (k ≡ n → back_copy (u.entry n b) ≡ back_copy (v.entry n b))
      → (k ≡ h → back_copy (u.entry h b) ≡ back_copy (v.entry h b)) → Holds g false u b k
  held_here k q at_source at_home = held_from k k b q.alive copies q
    where
      copies : back_copy (u.entry k b) ≡ back_copy (v.entry k b)
      copies = elim (ℕ_discrete k n) [
        | yes e ↦ rw e (at_source e)
        | no x ↦ elim (ℕ_discrete k h) [ yes e ↦ rw e (at_home e) | no y ↦ m.back k b q.alive item (λ e _. x e) (λ e _. y e) ]
      ]

  -- a home that had none is no holder
  not_home : back_copy (v.entry h b) ≡ no_copy → (k : ℕ) → Holds g false v b k → k ≡ h → ⊥
  not_home z k q e = q.copied (ap (λ k. copy_number (back_copy (v.entry k b))) e ∙ ap copy_number z)

  item_kept : Two g false v b → Moves n h b v u → Two g false u b
  item_kept p (still at_home at_source) = record {
    one = p.one;
    two = p.two;
    apart = p.apart;
    first = held_here p.one p.first (λ _. at_source) (λ _. at_home);
    second = held_here p.two p.second (λ _. at_source) (λ _. at_home);
  }
  item_kept p (twice empty at_home at_source) = record {
    one = p.one;
    two = p.two;
    apart = p.apart;
    first = held_here p.one p.first (λ _. at_source) (λ e. absurd (not_home empty p.one p.first e));
    second = held_here p.two p.second (λ _. at_source) (λ e. absurd (not_home empty p.two p.second e));
  }
  item_kept p (moved empty at_home at_source) = elim (ℕ_discrete p.one n) [
    | yes e ↦ record {
      one = h;
      two = p.two;
      apart = λ q. not_home empty p.two p.second (sym q);
      first = gained p.one e p.first;
      second = held_here p.two p.second (λ q. absurd (p.apart (e ∙ sym q))) (λ q. absurd (not_home empty p.two p.second q));
    }
    | no x ↦ elim (ℕ_discrete p.two n) [
      | yes e ↦ record {
        one = p.one;
        two = h;
        apart = not_home empty p.one p.first;
        first = held_here p.one p.first (λ q. absurd (x q)) (λ q. absurd (not_home empty p.one p.first q));
        second = gained p.two e p.second;
      }
      | no y ↦ record {
        one = p.one;
        two = p.two;
        apart = p.apart;
        first = held_here p.one p.first (λ q. absurd (x q)) (λ q. absurd (not_home empty p.one p.first q));
        second = held_here p.two p.second (λ q. absurd (y q)) (λ q. absurd (not_home empty p.two p.second q));
      }
    ]
  ]
    where
      -- the home has what the source had
      gained : (k : ℕ) → k ≡ n → Holds g false v b k → Holds g false u b h
      gained k e q = held_from h n b home at_home (rw e at q)

  moving_standing : (saved : ℕ → ℕ) → BackHave g v saved → Standing g saved false v → Standing g saved false u
  moving_standing saved have stands = record {
    forms = λ k c l. m.forms k c (live_before g v u same k l);
    frames = λ k s l. m.frames k s (live_before g v u same k l);
    pairs = λ c i. elim (ℕ_discrete c b) [
      | yes e ↦ rw e (item_kept (stands.pairs b item) m.moves)
      | no d ↦ others_kept c i d (stands.pairs c i)
    ];
    values = moving_back g v u n b (live_before g v u same) source item saved have h m;
  }

module _
    (t : List ℕ) (g : Geometry) (values saved : ℕ → ℕ) (number : ℕ) (s : Serves t g values saved number) (n h b : ℕ) (source : Live g (view g t) n)
    (home : Live g (view g t) h) (item : b < g.items) where
  pub moving_ready : (u : View) → Moving g n h b (view g t) u → (lost : Option ℕ) → Ready g saved number (survivors lost u)
  moving_ready u m =
      let runs = same_running t g values saved number s u m.marks in
      running_ready g (view g t) u number runs saved (some_item t g values saved number s)
      (moving_standing g (view g t) u n h b runs.same source home item m saved s.back (serves_standing t g values saved number s))
