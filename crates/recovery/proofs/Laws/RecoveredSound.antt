-- A whole recovery leaves a sound table, in phase 0, of the number of the point: every item is clean, of the value saved.
use Prim.Native.Nat.{ℕ, ◌^◌, ◌<◌}
use mathlib.Core.Path.{◌≡◌, refl, ap, ◌∙◌}
use mathlib.Core.Logic.{◌⊎◌, inl, inr}
use mathlib.Core.Bool.{true, false, not}
use native.Mathlib.Omega.{arith}
use lib.Dec.{eqb}
use borrow.Author.Tests.{eqb-true, eq-eqb, not-false}
use Rattle.counting.proofs.Laws.Tests.{by_cases}
use Rattle.table.specs.declared.geometry.Geometry.{Geometry}
use Rattle.table.specs.Words.{mark_form, phase_of, number_of, shared_ck1, shared_ck2}
use Rattle.table.proofs.Laws.Words.{phase_mark, number_mark}
use Rattle.table.proofs.Laws.Forms.{mark_form_lem}
use Rattle.table.proofs.Laws.Changes.{checkpoint_code}
use Rattle.table.specs.View.{View, live, current, kept}
use Rattle.entries.proofs.Laws.Kinds.{clean_code, Clean, clean, copy_live, copy_code}
use Rattle.entries.proofs.Laws.SoundFacts.{SoundTable}
use Rattle.homes.proofs.Laws.Kept.{Live, live_test, test_live}
use Rattle.checkpoints.proofs.Laws.MarksSound.{NewMarks, was_live}
use Rattle.homes.proofs.Laws.Serves.{CurrentHave, BackHave}
use Rattle.recovery.proofs.Laws.Ready.{PlainEntry}
use Rattle.recovery.proofs.Laws.PlainSides.{plain_value}
use Rattle.recovery.proofs.Laws.Recovered.{Recovered}

-- "a node is dead if its mark is all zero"
pub dead_mark : (w : View) (n : ℕ) → live w n ≡ false → w.mark n ≡ 0
dead_mark w n d = eqb-true (w.mark n) 0 (not-false (eqb (w.mark n) 0) d)

pub dead_form : (w : View) (n : ℕ) → live w n ≡ false → mark_form (w.mark n) ≡ true
dead_form w n d = ap mark_form (dead_mark w n d)

clean_code_lem : (c : ℕ) → (c ≡ shared_ck1) ⊎ (c ≡ shared_ck2) → clean_code c ≡ true
clean_code_lem c (inl e) = rw e refl
clean_code_lem c (inr e) = rw e refl

module _ (g : Geometry) (saved : ℕ → ℕ) (number : ℕ) (w u : View) (z : Recovered g saved number w u) where
  recovered_marks : NewMarks g w u 0 number
  recovered_marks = record { lives = z.marks; deads = z.dead }

  -- the live nodes are the survivors
  pub survived : (n : ℕ) → n < g.nodes → live u n ≡ true → Live g w n
  survived = was_live g w u 0 number recovered_marks

  pub plain_at : (n b : ℕ) → n < g.nodes → b < g.items → live u n ≡ true → PlainEntry (saved b) (u.entry n b)
  plain_at n b l h t = z.entries n b (survived n l t) h

  pub recovered_clean : (b : ℕ) → b < g.items → Clean u g.nodes b
  recovered_clean b h = record {
    one = (z.pairs b h).one;
    two = (z.pairs b h).two;
    value = saved b;
    first = (z.pairs b h).first;
    second = (z.pairs b h).second;
    others = λ n l t.
        clean_code_lem (current (u.entry n b)) (checkpoint_code _ ((plain_at n b l h (copy_live u b n t)).code (copy_code u b n t)));
    values = λ n l t. (plain_at n b l h (copy_live u b n t)).value (copy_code u b n t);
    nothing = λ n l. by_cases (live u n)
        (λ t. rw t (ap not (eq-eqb (kept (u.entry n b)) 0 (plain_at n b l h t).nothing)))
        (λ t. rw t refl);
  }

  pub recovered_sound : number < 2 ^ 32 → SoundTable g u 0 number
  recovered_sound fits = record {
    marks = λ n l. by_cases (live w n)
        (λ t. ap mark_form (z.marks n (test_live g w n l t)) ∙ mark_form_lem 0 number (omega arith) fits)
        (λ t. ap mark_form (z.dead n t) ∙ dead_form w n t);
    phases = λ n l t. ap phase_of (z.marks n (survived n l t)) ∙ phase_mark 0 number (omega arith) fits;
    numbers = λ n l t. ap number_of (z.marks n (survived n l t)) ∙ number_mark 0 number (omega arith) fits;
    phase_low = omega arith;
    number_room = λ e. absurd (omega arith);
    forms = λ n b l h t. (plain_at n b l h t).form;
    frames = λ n s l h t. z.frames n s (survived n l t) h;
    items = λ b h. clean (recovered_clean b h);
  }

  -- every current copy, and every recovery copy, has the value saved
  pub recovered_current : CurrentHave g u saved
  recovered_current n b l h = (plain_at n b l.there h (live_test g u n l)).value

  pub recovered_back : BackHave g u saved
  recovered_back n b l h = plain_value _ _ (plain_at n b l.there h (live_test g u n l)) false
