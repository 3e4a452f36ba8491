-- THE THEOREM of Abandon: however it is cut, a roll back finds every recovery copy as it was, and each mark is as it was or, of a live node, in phase 0.
-- And what a whole one leaves.
use Prim.Native.Nat.{ℕ, ◌≤◌, ◌<◌}
use mathlib.Core.Path.{◌≡◌, refl, ap, ◌∙◌}
use mathlib.Core.Logic.{inl}
use mathlib.Core.Bool.{false}
use mathlib.Core.List.{List}
use lib.ListN.{length}
use Rattle.table.specs.declared.geometry.Geometry.{Geometry}
use Rattle.table.specs.Stores.{Store, after}
use Rattle.table.specs.View.{View, view, live, marks_to}
use Rattle.table.proofs.Laws.Via.{Via, via_cut, via_whole, via_then, via_loosen, via_weaken}
use Rattle.table.proofs.Laws.Pass.{Steps}
use Rattle.table.proofs.Laws.MarksPass.{Mixed, marks_via}
use Rattle.table.specs.Answers.{carry}
use Rattle.entries.proofs.Laws.SoundFacts.{SoundTable, phase_in, number_in}
use Rattle.entries.proofs.Laws.CheckFacts.{Accepted, accepted_facts}
use Rattle.homes.proofs.Laws.Plans.{Carried, acted_carried}
use Rattle.checkpoints.specs.Checkpoint.{open_admission, abandon_change}
use Rattle.checkpoints.specs.Commit.{running_mark, abandon_stores, abandon_of}
use Rattle.homes.proofs.Laws.SoundTells.{formed_at}
use Rattle.homes.proofs.Laws.Kept.{Live, live_test}
use Rattle.homes.proofs.Laws.Safe.{Safe}
use Rattle.checkpoints.proofs.Laws.AbandonEntry.{abandoned, abandon_steps}
use Rattle.checkpoints.proofs.Laws.LivePass.{AllPassed, entries_via}
use Rattle.checkpoints.proofs.Laws.KeptMarks.{KeptMarks, safe_entries, safe_begin, marks_moved}

-- v at entry, w at the cut
record AbandonCut (g : Geometry) (v w : View) : Type 0 where
  safe : (n b : ℕ) → Live g v n → b < g.items → Safe (v.entry n b) 0 (w.entry n b)
  marks : Mixed g v running_mark w

-- v at entry, w at the end
pub record AbandonEnd (g : Geometry) (v w : View) : Type 0 where
  pub entries : (n b : ℕ) → Live g v n → b < g.items → w.entry n b ≡ abandoned (v.entry n b)
  pub dead_entries : (n b : ℕ) → n < g.nodes → live v n ≡ false → b < g.items → w.entry n b ≡ v.entry n b
  pub marks : (n : ℕ) → Live g v n → w.mark n ≡ running_mark (v.mark n)
  pub dead_marks : (n : ℕ) → live v n ≡ false → w.mark n ≡ v.mark n

module _ (g : Geometry) (v : View) (phase number : ℕ) (good : SoundTable g v phase number) where
  abbrev Ends : View → Type 0
  Ends = AllPassed g v abandon_change (λ e. Safe e 0) (λ e e'. e' ≡ abandoned e) v

  steps_at :
      (n b : ℕ) → Live g v n → b < g.items
      → Steps (Safe (v.entry n b) 0) (λ e. e ≡ abandoned (v.entry n b)) (v.entry n b) (abandon_change (v.entry n b))
  steps_at n b l h = abandon_steps (v.entry n b) (formed_at g v phase number good n b l h)

  -- the closing marks, on the view that the entries leave
  closing_via : (u : View) → AbandonCut g v u → Ends u → Via g (AbandonCut g v) (AbandonEnd g v) u (marks_to g v running_mark)
  closing_via u c ends =
      let same = ends.marks in
      rw (marks_moved g v u running_mark running_mark (λ n l. rw same refl) (λ n l t. rw same refl))
      (via_weaken
      (marks_via g u running_mark (AbandonCut g v)
      (λ w e m. record { safe = λ n b l h. rw e (c.safe n b l h); marks = rw same at m }) c)
      (λ w _ m. record {
        entries = λ n b l h. ap (λ f. f n b) m.entries ∙ ends.lives n b l h;
        dead_entries = λ n b l d h. ap (λ f. f n b) m.entries ∙ ends.deads n b l d h;
        marks = λ n l. m.new n l.there (rw same (live_test g v n l)) ∙ ap (λ x. running_mark (x n)) same;
        dead_marks = λ n d. m.dead n (rw same d) ∙ ap (λ x. x n) same;
      }))

  abandon_via : Via g (AbandonCut g v) (AbandonEnd g v) v (abandon_stores g v)
  unfolding abandon_stores
  abandon_via = via_then
      (via_loosen
      (entries_via g v abandon_change (λ e. Safe e 0) (λ e e'. e' ≡ abandoned e) (safe_begin g v phase number good) steps_at v refl)
      (λ w e. record { safe = e.entries; marks = λ n. inl (ap (λ m. m n) e.marks) }))
      closing_via

module _ (t : List ℕ) {g : Geometry} {value : ℕ} {ss : List Store} (accepted : abandon_of t ≡ carry g value ss) where
  pub carried : Carried open_admission abandon_stores t g ss
  carried = acted_carried open_admission (λ g v. 0) abandon_stores t accepted

  pub facts : Accepted t g (phase_in g (view g t)) (number_in g (view g t))
  facts = accepted_facts t g carried.passed

  -- after any number of its stores
  pub abandon_keeps : (limit : ℕ) → KeptMarks g (view g t) running_mark (view g (after g limit ss t))
  abandon_keeps limit =
      rw carried.stores_are
      (let c = via_cut t facts.shape.long (abandon_via g (view g t) _ _ facts.table) limit in
      record { entries = safe_entries g (view g t) _ _ facts.table _ c.safe; marks = c.marks })

  -- after all of them
  pub abandon_abandoned : (limit : ℕ) → length ss ≤ limit → AbandonEnd g (view g t) (view g (after g limit ss t))
  abandon_abandoned limit all =
      let l = rw carried.stores_are at all in
      rw carried.stores_are (via_whole t facts.shape.long (abandon_via g (view g t) _ _ facts.table) limit l)
