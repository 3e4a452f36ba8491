-- What a call that stores marks keeps however it is cut: every live entry's recovery copy for a roll back, word forms, frames; and what it does to marks.
use Prim.Native.Nat.{ℕ, ◌≤◌, ◌<◌}
use mathlib.Core.Path.{◌≡◌, refl, sym, ap, ◌∙◌}
use mathlib.Core.Bool.{Bool, true, false, cond}
use mathlib.Core.List.{[], ◌∷◌}
use native.Mathlib.Omega.{arith}
use Rattle.table.specs.declared.geometry.Geometry.{Geometry}
use Rattle.table.specs.Words.{state_form}
use Rattle.table.specs.Stores.{mark_store}
use Rattle.table.proofs.Laws.Stores.{runs_ext}
use Rattle.table.specs.View.{View, live, mark_to, marks_to}
use Rattle.table.specs.Copies.{back_copy}
use Rattle.table.proofs.Laws.MarksPass.{Mixed}
use Rattle.entries.specs.Frames.{sets_of, set_frames, used}
use Rattle.entries.proofs.Laws.SoundFacts.{SoundTable}
use Rattle.homes.proofs.Laws.Kept.{Live, live_test}
use Rattle.homes.proofs.Laws.SoundTells.{formed_at}
use Rattle.homes.proofs.Laws.FramesKept.{uses, used_no_more}
use Rattle.homes.proofs.Laws.Safe.{Safe}

-- v at entry, w at the cut
pub record KeptEntries (g : Geometry) (v w : View) : Type 0 where
  pub back : (n b : ℕ) → Live g v n → b < g.items → back_copy (w.entry n b) ≡ back_copy (v.entry n b)
  pub forms : (n b : ℕ) → Live g v n → b < g.items → state_form (w.entry n b).state ≡ true
  pub frames : (n s : ℕ) → Live g v n → s < sets_of g → used g w n s ≤ set_frames g

-- and each mark as it was, or, of a live node, the word that f gives
pub record KeptMarks (g : Geometry) (v : View) (f : ℕ → ℕ) (w : View) : Type 0 where
  pub entries : KeptEntries g v w
  pub marks : Mixed g v f w

-- ---- entry by entry

module _ (g : Geometry) (v : View) (phase number : ℕ) (good : SoundTable g v phase number) where
  -- where no entry uses more frames the bound holds on
  pub frames_hold : (w : View) (n s : ℕ) → Live g v n → s < sets_of g → ((b : ℕ) → b < g.items → uses g v w n b 0) → used g w n s ≤ set_frames g
  frames_hold w n s l h u =
      let f = used_no_more g v w n s u in
      let m = good.frames n s l.there h (live_test g v n l) in
      omega arith

  pub safe_entries : (w : View) → ((n b : ℕ) → Live g v n → b < g.items → Safe (v.entry n b) 0 (w.entry n b)) → KeptEntries g v w
  safe_entries w s = record {
    back = λ n b l h. (s n b l h).back;
    forms = λ n b l h. (s n b l h).form;
    frames = λ n t l h. frames_hold w n t l h (λ b i. (s n b l i).frames);
  }

  pub safe_begin : (n b : ℕ) → Live g v n → b < g.items → Safe (v.entry n b) 0 (v.entry n b)
  safe_begin n b l h = record { back = refl; form = formed_at g v phase number good n b l h; frames = omega arith }

  -- while only marks have changed
  pub same_entries : (w : View) → w.entry ≡ v.entry → KeptEntries g v w
  same_entries w e = safe_entries w (λ n b l h. rw e (safe_begin n b l h))

-- ---- the same marks, stored from the words of another view

pub marks_moved :
    (g : Geometry) (v u : View) (f h : ℕ → ℕ) → ((n : ℕ) → n < g.nodes → live u n ≡ live v n)
    → ((n : ℕ) → n < g.nodes → live v n ≡ true → f (v.mark n) ≡ h (u.mark n)) → marks_to g v f ≡ marks_to g u h
unfolding marks_to mark_to
marks_moved g v u f h same e =
    runs_ext g.nodes (mark_to v f) (mark_to u h) (λ n l. go n l (live v n) refl ∙ ap (λ b. cond b (mark_store n (h (u.mark n)) ∷ []) []) (sym (same n l)))
  where
    go : (n : ℕ) → n < g.nodes → (b : Bool) → live v n ≡ b → cond b (mark_store n (f (v.mark n)) ∷ []) [] ≡ cond b (mark_store n (h (u.mark n)) ∷ []) []
    go n l true q = ap (λ w. mark_store n w ∷ []) (e n l q)
    go n l false q = refl
