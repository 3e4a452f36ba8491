-- However a call that keeps every recovery copy for a roll back is cut, the survivors are ready: for a call that stores no mark, and for one whose marks
-- keep the number and are in phase 0 or 1.
use Rattle.std.specs.Prelude.{Option}
use Prim.Native.Nat.{ℕ, ◌<◌}
use mathlib.Core.Path.{◌≡◌, refl, sym, ap, ◌∙◌}
use mathlib.Core.Logic.{inl, inr, ◌≢◌}
use mathlib.Core.Bool.{true, false, not}
use mathlib.Core.List.{List}
use native.Mathlib.Omega.{arith}
use lib.Dec.{eqb}
use borrow.Author.Tests.{eqb-true, ne_eqb}
use Rattle.counting.proofs.Laws.Tests.{by_cases, both}
use Rattle.counting.proofs.Laws.Counting.{Only}
use Rattle.table.specs.declared.geometry.Geometry.{Geometry}
use Rattle.table.specs.Words.{mark_form, phase_of, number_of}
use Rattle.table.specs.View.{View, view, live}
use Rattle.table.proofs.Laws.MarksPass.{Mixed, marks_live}
use Rattle.entries.proofs.Laws.Back.{has_back, back_number, pair_apart}
use Rattle.entries.proofs.Laws.SoundFacts.{SoundTable, phase_in, number_in}
use Rattle.entries.proofs.Laws.CheckFacts.{Accepted, accepted_facts, sound_pair}
use Rattle.homes.proofs.Laws.Kept.{Live, Kept, live_test, test_live}
use Rattle.checkpoints.proofs.Laws.KeptMarks.{KeptEntries, KeptMarks}
use Rattle.homes.proofs.Laws.Serves.{BackHave, Serves}
use Rattle.counting.proofs.Laws.Exists.{exists_not}
use Rattle.survivors.specs.Survivors.{survivors}
use Rattle.survivors.specs.Direction.{committing, forward_in}
use Rattle.recovery.proofs.Laws.Ready.{Holds, Ready}
use Rattle.restore.proofs.Laws.Surviving.{survivor_mark, survivor_live}
use Rattle.recovery.proofs.Laws.Largest.{largest_is}
use Rattle.restore.proofs.Laws.Standing.{Standing, Chosen, node_survives, standing_ready, live_before, standing_kept}

-- ---- the table at entry

module _ (g : Geometry) (v : View) (phase number : ℕ) (good : SoundTable g v phase number) where
  -- a sound table has its two copies of each item for a roll back
  pub sound_standing : (saved : ℕ → ℕ) → BackHave g v saved → Standing g saved false v
  sound_standing saved have = record {
    forms = λ n b l h. good.forms n b l.there h (live_test g v n l);
    frames = λ n s l h. good.frames n s l.there h (live_test g v n l);
    pairs = λ b h.
        let p = sound_pair g v phase number good b h in
        record {
          one = p.one;
          two = p.two;
          apart = pair_apart v g.nodes b p;
          first = held b 1 p.one (λ z. omega arith) p.first;
          second = held b 2 p.two (λ z. omega arith) p.second;
        };
    values = have;
  }
    where
      held : (b i n : ℕ) → i ≢ 0 → Only g.nodes (has_back v b i) n → Holds g false v b n
      held b i n d o =
          let h = both (live v n) o.holds in
          record { alive = test_live g v n o.within h.0; copied = λ z. d (sym (eqb-true (back_number v b n) i h.1) ∙ z) }

-- ---- marks of survivors that choose a roll back

-- no survivor in phase 2
pub chosen_back :
    (g : Geometry) (number : ℕ) (w : View) → ((n : ℕ) → Live g w n → mark_form (w.mark n) ≡ true)
    → ((n : ℕ) → Live g w n → phase_of (w.mark n) ≢ 2) → ((n : ℕ) → Live g w n → number_of (w.mark n) ≡ number) → (m : ℕ) → Live g w m
    → Chosen g number false w
unfolding forward_in
chosen_back g number w forms phases numbers m l = record {
  marks = forms;
  side = exists_not g.nodes (committing w) (λ n h. by_cases (live w n)
      (λ t. rw (t, ne_eqb (phase_of (w.mark n)) 2 (phases n (test_live g w n h t))) refl)
      (λ t. rw t refl));
  point = largest_is g w number (λ n k. let e = numbers n k in omega arith) m l (numbers m l);
}

-- v at entry, u at the cut: live nodes are the same ones, in phase 0 or 1 and of the number
pub record Running (g : Geometry) (v : View) (number : ℕ) (u : View) : Type 0 where
  pub same : (n : ℕ) → n < g.nodes → live u n ≡ live v n
  pub forms : (n : ℕ) → Live g v n → mark_form (u.mark n) ≡ true
  pub phases : (n : ℕ) → Live g v n → phase_of (u.mark n) < 2
  pub numbers : (n : ℕ) → Live g v n → number_of (u.mark n) ≡ number

module _ (g : Geometry) (v u : View) (number : ℕ) (runs : Running g v number u) where
  pub running_ready : (saved : ℕ → ℕ) → 0 < g.items → Standing g saved false u → (lost : Option ℕ) → Ready g saved number (survivors lost u)
  running_ready saved some stands lost =
      let n = node_survives g saved false u stands lost some in
      standing_ready g saved false u stands lost number
      (chosen_back g number (survivors lost u)
      (λ n l. ap mark_form (survivor_mark g u lost n l) ∙ runs.forms n (before n l))
      (λ n l z. let p = runs.phases n (before n l) in let e = ap phase_of (survivor_mark g u lost n l) in omega arith)
      (λ n l. ap number_of (survivor_mark g u lost n l) ∙ runs.numbers n (before n l))
      n.0 n.1)
    where
      before : (n : ℕ) → Live g (survivors lost u) n → Live g v n
      before n l = live_before g v u runs.same n (survivor_live g u lost n l)

-- ---- a table that serves

module _ (t : List ℕ) (g : Geometry) (values saved : ℕ → ℕ) (number : ℕ) (s : Serves t g values saved number) where
  pub facts : Accepted t g (phase_in g (view g t)) (number_in g (view g t))
  facts = accepted_facts t g s.passed

  pub some_item : 0 < g.items
  some_item = omega (arith, facts.shape.sizes)

  pub serves_standing : Standing g saved false (view g t)
  serves_standing = sound_standing g (view g t) _ _ facts.table saved s.back

  -- its own marks
  live_form : (n : ℕ) → Live g (view g t) n → mark_form ((view g t).mark n) ≡ true
  live_form n l = facts.table.marks n l.there

  live_phase : (n : ℕ) → Live g (view g t) n → phase_of ((view g t).mark n) < 2
  live_phase n l =
      let e = facts.table.phases n l.there (live_test g (view g t) n l) in
      let p = facts.table.phase_low in
      omega arith

  pub same_running : (u : View) → u.mark ≡ (view g t).mark → Running g (view g t) number u
  same_running u e = record {
    same = λ n h. ap (λ f. not (eqb (f n) 0)) e;
    forms = λ n l. ap (λ f. mark_form (f n)) e ∙ live_form n l;
    phases = λ n l. let p = live_phase n l in let q = ap (λ f. phase_of (f n)) e in omega arith;
    numbers = λ n l. ap (λ f. number_of (f n)) e ∙ s.number_is n l;
  }

  -- entries kept, marks as they should be
  entries_ready : (u : View) → KeptEntries g (view g t) u → Running g (view g t) number u → (lost : Option ℕ) → Ready g saved number (survivors lost u)
  entries_ready u k runs =
      running_ready g (view g t) u number runs saved some_item
      (standing_kept g (view g t) u runs.same saved false serves_standing k.back k.forms k.frames)

  -- ---- no mark stored
  pub kept_ready : (u : View) → Kept g (view g t) u → (lost : Option ℕ) → Ready g saved number (survivors lost u)
  kept_ready u k = entries_ready u (record { back = k.back; forms = k.forms; frames = k.frames }) (same_running u k.marks)

  -- ---- marks stored, that keep the number and are in phase 0 or 1
  module _
      (f : ℕ → ℕ) (formed : (x : ℕ) → mark_form (f x) ≡ true) (alive : (x : ℕ) → f x ≡ 0 → ⊥) (low : (x : ℕ) → phase_of (f x) < 2)
      (keeps : (x : ℕ) → number_of (f x) ≡ number_of x) where
    mixed_running : (u : View) → Mixed g (view g t) f u → Running g (view g t) number u
    mixed_running u m = record {
      same = λ n h. marks_live g (view g t) f alive u m n;
      forms = λ n l. elim (m n) [ inl e ↦ ap mark_form e ∙ live_form n l | inr q ↦ ap mark_form q.1 ∙ formed ((view g t).mark n) ];
      phases = λ n l. elim (m n) [
        | inl e ↦ (let p = live_phase n l in let q = ap phase_of e in omega arith)
        | inr q ↦ (let p = low ((view g t).mark n) in let e = ap phase_of q.1 in omega arith)
      ];
      numbers = λ n l. elim (m n) [
        | inl e ↦ ap number_of e ∙ s.number_is n l
        | inr q ↦ ap number_of q.1 ∙ keeps ((view g t).mark n) ∙ s.number_is n l
      ];
    }

    pub marks_ready : (u : View) → KeptMarks g (view g t) f u → (lost : Option ℕ) → Ready g saved number (survivors lost u)
    marks_ready u k = entries_ready u k.entries (mixed_running u k.marks)
