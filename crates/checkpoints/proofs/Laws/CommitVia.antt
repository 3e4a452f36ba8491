-- Commit on a view: every store keeps every live entry's forward copy, form and frames, stage by stage.
use Rattle.std.specs.Prelude.{Ok}
use Prim.Native.Nat.{ℕ, ◌+◌, ◌%◌, ◌^◌, ◌<◌}
use mathlib.Core.Path.{◌≡◌, refl, sym, ap, ◌∙◌}
use mathlib.Core.Logic.{◌⊎◌, inl, inr}
use mathlib.Core.Bool.{true, false}
use native.Mathlib.Omega.{arith}
use Rattle.counting.proofs.Laws.Tests.{no_both}
use Rattle.table.specs.declared.geometry.Geometry.{Geometry}
use Rattle.table.specs.Words.{number_of, mark_word}
use Rattle.table.specs.View.{View, live, marks_to}
use Rattle.table.proofs.Laws.Via.{Via, via_then, via_loosen, via_weaken}
use Rattle.table.proofs.Laws.Pass.{Steps}
use Rattle.table.proofs.Laws.MarksPass.{Mixed, Marking, marks_via}
use Rattle.entries.proofs.Laws.SoundFacts.{SoundTable}
use Rattle.checkpoints.specs.Checkpoint.{entries_to, commit_change}
use Rattle.checkpoints.specs.Commit.{running_mark, committing_mark, committed_mark, commit_stores, commit_admission}
use Rattle.homes.proofs.Laws.SoundTells.{formed_at}
use Rattle.homes.proofs.Laws.Kept.{Live, live_test, test_live}
use Rattle.checkpoints.proofs.Laws.NoneOwned.{none_owned}
use Rattle.checkpoints.proofs.Laws.LivePass.{entries_via}
use Rattle.checkpoints.proofs.Laws.KeptMarks.{frames_hold, marks_moved}
use Rattle.checkpoints.proofs.Laws.CommitEntry.{SafeForward, Closed, commit_steps}
use Rattle.checkpoints.proofs.Laws.CommitKept.{CommitStage, marking, changing, closing, CommitCut, CommitEnd, stage_live}

-- a closing mark, from the mark that it finds
number_again : (p m : ℕ) → p < 4 → number_of (mark_word p m) ≡ m % 2 ^ 32
number_again p m h = omega arith

same_number : (p m : ℕ) → mark_word p (m % 2 ^ 32) ≡ mark_word p m
same_number p m = omega arith

closing_mark : (x : ℕ) → running_mark (committing_mark x) ≡ committed_mark x
closing_mark x = ap (mark_word 0) (number_again 2 (number_of x + 1) (omega arith)) ∙ same_number 0 (number_of x + 1)

module _ (g : Geometry) (v : View) (phase number : ℕ) (good : SoundTable g v phase number) (admitted : commit_admission g v ≡ (Ok tt)) where
  -- every entry, and the stage
  record Cut (w : View) : Type 0 where
    safe : (n b : ℕ) → Live g v n → b < g.items → SafeForward (v.entry n b) (w.entry n b)
    stage : CommitStage g v w

  cut_kept : (w : View) → Cut w → CommitCut g v w
  cut_kept w c = record {
    kept = record {
      forward = λ n b l h. (c.safe n b l h).forward;
      forms = λ n b l h. (c.safe n b l h).form;
      frames = λ n s l h. frames_hold g v phase number good w n s l h (λ b i. (c.safe n b l i).frames);
    };
    stage = c.stage;
  }

  begin : (n b : ℕ) → Live g v n → b < g.items → SafeForward (v.entry n b) (v.entry n b)
  begin n b l h = record { forward = refl; form = formed_at g v phase number good n b l h; frames = omega arith }

  steps_at : (n b : ℕ) → Live g v n → b < g.items
      → Steps (SafeForward (v.entry n b)) (Closed (v.entry n b)) (v.entry n b) (commit_change (v.entry n b))
  steps_at n b l h = commit_steps (v.entry n b) (formed_at g v phase number good n b l h) (none_owned g v admitted n b l h)

  -- ---- "each live mark, phase 2 and number plus 1, ascending"
  marking_via : Via g Cut (Marking g v committing_mark g.nodes) v (marks_to g v committing_mark)
  marking_via = marks_via g v committing_mark Cut
      (λ w e m. record { safe = λ n b l h. rw e (begin n b l h); stage = marking e m })
      (record { safe = begin; stage = marking refl (λ n. inl refl) })

  -- ---- "entries by node, then item"
  record Entered (w : View) : Type 0 where
    lives : (n b : ℕ) → Live g v n → b < g.items → Closed (v.entry n b) (w.entry n b)
    deads : (n b : ℕ) → n < g.nodes → live v n ≡ false → b < g.items → w.entry n b ≡ v.entry n b
    marks : (n : ℕ) → Live g v n → w.mark n ≡ committing_mark (v.mark n)
    dead_marks : (n : ℕ) → live v n ≡ false → w.mark n ≡ v.mark n

  changing_via : (u : View) → Marking g v committing_mark g.nodes u → Via g Cut Entered u (entries_to g v commit_change)
  changing_via u m =
      via_weaken
      (via_loosen (entries_via g v commit_change SafeForward Closed begin steps_at u m.entries)
      (λ w e. record { safe = e.entries; stage = changing (new w e.marks) (old w e.marks) }))
      (λ w _ a. record { lives = a.lives; deads = a.deads; marks = new w a.marks; dead_marks = old w a.marks })
    where
      new : (w : View) → w.mark ≡ u.mark → (n : ℕ) → Live g v n → w.mark n ≡ committing_mark (v.mark n)
      new w e n l = ap (λ f. f n) e ∙ m.new n l.there (live_test g v n l)

      old : (w : View) → w.mark ≡ u.mark → (n : ℕ) → live v n ≡ false → w.mark n ≡ v.mark n
      old w e n d = ap (λ f. f n) e ∙ m.dead n d

  -- ---- "each live mark, phase 0"
  module _ (u : View) (c : Cut u) (a : Entered u) where
    same_live : (n : ℕ) → n < g.nodes → live u n ≡ live v n
    same_live = stage_live g v u c.stage

    -- each mark that the pass makes of those of u
    new_mark : (n : ℕ) → Live g v n → running_mark (u.mark n) ≡ committed_mark (v.mark n)
    new_mark n l = ap running_mark (a.marks n l) ∙ closing_mark (v.mark n)

    closing_stage : (w : View) → w.entry ≡ u.entry → Mixed g u running_mark w → CommitStage g v w
    closing_stage w e m = closing (λ n b l h. rw e (a.lives n b l h).agree) (λ n l. of_live n l (m n)) (λ n d. of_dead_lem n d (m n))
      where
        of_live :
            (n : ℕ) → Live g v n → (w.mark n ≡ u.mark n) ⊎ ((live u n ≡ true) × (w.mark n ≡ running_mark (u.mark n)))
            → (w.mark n ≡ committing_mark (v.mark n)) ⊎ (w.mark n ≡ committed_mark (v.mark n))
        of_live n l (inl q) = inl (q ∙ a.marks n l)
        of_live n l (inr (t, q)) = inr (q ∙ new_mark n l)

        of_dead_lem :
            (n : ℕ) → live v n ≡ false → (w.mark n ≡ u.mark n) ⊎ ((live u n ≡ true) × (w.mark n ≡ running_mark (u.mark n)))
            → w.mark n ≡ v.mark n
        of_dead_lem n d (inl q) = q ∙ a.dead_marks n d
        of_dead_lem n d (inr (t, q)) = absurd (no_both t (rw (a.dead_marks n d) d))

    closing_via : Via g Cut (CommitEnd g v) u (marks_to g v committed_mark)
    closing_via =
        rw (marks_moved g v u committed_mark running_mark same_live (λ n h t. sym (new_mark n (test_live g v n h t))))
        (via_weaken
        (marks_via g u running_mark Cut
        (λ w e m. record { safe = λ n b l h. rw e (c.safe n b l h); stage = closing_stage w e m }) c)
        (λ w _ m. record {
          entries = λ n b l h. ap (λ f. f n b) m.entries ∙ (a.lives n b l h).entry;
          agree = λ n b l h. rw m.entries ((a.lives n b l h).agree ∙ (c.safe n b l h).forward);
          dead_entries = λ n b l d h. ap (λ f. f n b) m.entries ∙ a.deads n b l d h;
          marks = λ n l. m.new n l.there (same_live n l.there ∙ live_test g v n l) ∙ new_mark n l;
          dead_marks = λ n d. m.dead n (rw (a.dead_marks n d) d) ∙ a.dead_marks n d;
        }))

  pub commit_via : Via g (CommitCut g v) (CommitEnd g v) v (commit_stores g v)
  unfolding commit_stores
  commit_via = via_loosen (via_then (via_then marking_via (λ u c m. changing_via u m)) closing_via) cut_kept
