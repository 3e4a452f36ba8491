-- A pass over the live entries, by node, then item, each changed by what it holds: what is shown of one entry and its changes holds of all.
use Prim.Native.Nat.{ℕ, ◌+◌, ◌*◌, ◌/◌, ◌%◌, ◌<◌}
use mathlib.Core.Path.{◌≡◌, refl}
use mathlib.Core.Bool.{Bool, true, false, cond}
use mathlib.Core.List.{List, []}
use lib.Arith.{digits_div, digits_mod, digits_lt}
use Rattle.counting.proofs.Laws.Tests.{no_both}
use Rattle.table.specs.declared.geometry.Geometry.{Geometry}
use Rattle.table.specs.Stores.{Change}
use Rattle.table.specs.View.{Entry, View, live}
use Rattle.table.proofs.Laws.Via.{Via, via_weaken}
use Rattle.table.proofs.Laws.Pass.{Steps, last, steps_map, Each, Passed, pass_via, grid_within, grid_once}
use Rattle.homes.proofs.Laws.Kept.{Live, live_test, test_live}
use Rattle.checkpoints.specs.Checkpoint.{live_changes, entries_before, entries_to}

-- p of an entry at entry and the entry at the cut; z of the two at the end; u is the view that the pass begins on, with the entries of v
module _ (g : Geometry) (v : View) (change : Entry → List Change) (p z : Entry → Entry → Type 0) where
  abbrev pub live_each : ℕ → ℕ → Entry → Type 0
  live_each n b e = Live g v n → b < g.items → p (v.entry n b) e

  -- at the end of a pass that began on u: marks as they were, z of the live entries, and the dead ones as they were
  pub record AllPassed (u w : View) : Type 0 where
    pub marks : w.mark ≡ u.mark
    pub lives : (n b : ℕ) → Live g v n → b < g.items → z (v.entry n b) (w.entry n b)
    pub deads : (n b : ℕ) → n < g.nodes → live v n ≡ false → b < g.items → w.entry n b ≡ v.entry n b

  module _ (begin : (n b : ℕ) → Live g v n → b < g.items → p (v.entry n b) (v.entry n b))
      (local : (n b : ℕ) → Live g v n → b < g.items → Steps (p (v.entry n b)) (z (v.entry n b)) (v.entry n b) (change (v.entry n b))) where
    -- at the end of one entry's changes
    pub record Ended (n b : ℕ) (e : Entry) : Type 0 where
      pub lives : live v n ≡ true → z (v.entry n b) e
      pub deads : live v n ≡ false → e ≡ v.entry n b

    entry_steps : (n b : ℕ) → n < g.nodes → b < g.items → Steps (live_each n b) (Ended n b) (v.entry n b) (live_changes change v n b)
    unfolding live_changes
    entry_steps n b hn hb = go (live v n) refl
      where
        go : (q : Bool) → live v n ≡ q → Steps (live_each n b) (Ended n b) (v.entry n b) (cond q (change (v.entry n b)) [])
        go true h =
            steps_map (λ e x _ _. x) (λ e x. record { lives = λ _. x; deads = λ d. absurd (no_both h d) })
            (local n b (test_live g v n hn h) hb)
        go false h = last (begin n b) (record { lives = λ d. absurd (no_both d h); deads = λ _. refl })

    pub entries_via : (u : View) → u.entry ≡ v.entry → Via g (Each live_each u) (AllPassed u) u (entries_to g v change)
    unfolding entries_before
    entries_via u same = via_weaken
        (pass_via g live_each u (λ k. k / g.items) (λ k. k % g.items) (g.nodes * g.items) (grid_within g)
        (λ k d _ _ e f. grid_once g.items k d e f) (λ k. Ended (k / g.items) (k % g.items))
        (λ k. live_changes change v (k / g.items) (k % g.items)) u
        (λ k h. let i = grid_within g k h in rw same (entry_steps (k / g.items) (k % g.items) i.0 i.1))
        (record { marks = refl; entries = λ n b l h. rw same (begin n b l h) }))
        (λ w ew pw. record {
          marks = ew.marks;
          lives = λ n b l h. (at_place w pw n b l.there h).lives (live_test g v n l);
          deads = λ n b l d h. (at_place w pw n b l h).deads d;
        })
      where
        at_place :
            (w : View) → Passed (λ k. k / g.items) (λ k. k % g.items) (λ k. Ended (k / g.items) (k % g.items)) u (g.nodes * g.items) w
            → (n b : ℕ) → n < g.nodes → b < g.items → Ended n b (w.entry n b)
        at_place w pw n b hn hb =
            let e = pw.good (n * g.items + b) (digits_lt hn hb) in
            rw (digits_div n hb, digits_mod n hb) at e
