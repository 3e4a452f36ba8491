-- A whole Abandon leaves a sound table, in phase 0: a created item is dirty again, its Owner where Precommit1 stood; every other item is as it was.
use Rattle.std.specs.Prelude.{Ok}
use Prim.Native.Nat.{ℕ, ◌≤◌, ◌<◌}
use mathlib.Core.Path.{◌≡◌, refl, ap, ◌∙◌}
use mathlib.Core.Bool.{Bool, true, false, cond}
use mathlib.Core.List.{List}
use native.Mathlib.Omega.{arith}
use lib.Dec.{eqb}
use lib.ListN.{length}
use borrow.Author.Tests.{eqb-true}
use Rattle.counting.proofs.Laws.Tests.{either}
use Rattle.table.specs.declared.geometry.Geometry.{Geometry}
use Rattle.table.specs.declared.changes.Event.TheVariants.{Abandon}
use Rattle.table.specs.Words.{state_form, shared, owner, precommit1, precommit2, mark_word}
use Rattle.table.proofs.Laws.Words.{current_state, kept_state}
use Rattle.table.proofs.Laws.Forms.{form_facts}
use Rattle.table.specs.Changes.{change_of}
use Rattle.table.specs.Stores.{Store, after}
use Rattle.table.proofs.Laws.Stores.{All, all_then}
use Rattle.table.specs.View.{Entry, View, view, live, current, kept}
use Rattle.table.specs.Answers.{carry}
use Rattle.entries.specs.Check.{fault_of}
use Rattle.entries.proofs.Laws.Kinds.{clean_code, owner_code, Dirty, Created, owner_at, Kind, clean, dirty, created}
use Rattle.entries.proofs.Laws.SoundFacts.{SoundTable, number_in}
use Rattle.entries.proofs.Laws.CheckFacts.{Accepted, facts_accepted}
use Rattle.checkpoints.specs.Checkpoint.{is_precommit, abandon_change}
use Rattle.checkpoints.specs.Commit.{running_mark, abandon_stores, abandon_of}
use Rattle.homes.proofs.Laws.Kept.{live_test, test_live}
use Rattle.checkpoints.proofs.Laws.KeptMarks.{KeptEntries}
use Rattle.homes.proofs.Laws.SoundKept.{Off, shape_after}
use Rattle.checkpoints.proofs.Laws.MarksSound.{marks_off, entries_off, number_fits, NewMarks, new_live, marks_sound}
use Rattle.checkpoints.proofs.Laws.KindMoved.{Moves, created_moves, not_precommit, dirty_code, dirty_codes, saved_moved, clean_moved, dirty_moved, first_moved, codes_moved, values_moved}
use Rattle.checkpoints.proofs.Laws.AbandonEntry.{abandoned_by, abandoned}
use Rattle.checkpoints.proofs.Laws.AbandonTheorem.{AbandonEnd, carried, facts, abandon_keeps, abandon_abandoned}

-- ---- one entry

abbrev abandoned_code : ℕ → ℕ
abandoned_code c = cond (is_precommit c) (change_of c Abandon) c

code_low : (c : ℕ) → is_precommit c ≡ true → change_of c Abandon < 4
unfolding change_of
code_low c h = either (eqb c precommit1) h
    (λ z. let e : change_of c Abandon ≡ 2 = ap (λ x. change_of x Abandon) (eqb-true c precommit1 z) in omega arith)
    (λ z. let e : change_of c Abandon ≡ 1 = ap (λ x. change_of x Abandon) (eqb-true c precommit2 z) in omega arith)

module _ (e : Entry) (form : state_form e.state ≡ true) where
  abandoned_current : current (abandoned e) ≡ abandoned_code (current e)
  abandoned_current = go (is_precommit (current e)) refl
    where
      go : (q : Bool) → is_precommit (current e) ≡ q → current (abandoned_by q e) ≡ cond q (change_of (current e) Abandon) (current e)
      go true h =
          let l = code_low (current e) h in
          let f = (form_facts e.state form).kept_code in
          current_state (change_of (current e) Abandon) (kept e) (omega arith) (omega arith)
      go false h = refl

  abandoned_kept : kept (abandoned e) ≡ kept e
  abandoned_kept = go (is_precommit (current e)) refl
    where
      go : (q : Bool) → is_precommit (current e) ≡ q → kept (abandoned_by q e) ≡ kept e
      go true h =
          let l = code_low (current e) h in
          let f = (form_facts e.state form).kept_code in
          kept_state (change_of (current e) Abandon) (kept e) (omega arith) (omega arith)
      go false h = refl

abandoned_same : (e : Entry) → is_precommit (current e) ≡ false → abandoned e ≡ e
abandoned_same e h = rw h refl

-- ---- the table

module _
    (g : Geometry) (v w : View) (phase number : ℕ) (good : SoundTable g v phase number) (some : 0 < g.items) (keeps : KeptEntries g v w)
    (z : AbandonEnd g v w) where
  abandon_marks : NewMarks g v w 0 number
  abandon_marks = record {
    lives = λ n l. z.marks n l ∙ ap (mark_word 0) (good.numbers n l.there (live_test g v n l));
    deads = z.dead_marks;
  }

  lives : (n : ℕ) → n < g.nodes → live w n ≡ live v n
  lives = new_live g v w 0 number abandon_marks

  module _ (b : ℕ) (h : b < g.items) where
    entry_is : (n : ℕ) → n < g.nodes → live v n ≡ true → w.entry n b ≡ abandoned (v.entry n b)
    entry_is n l t = z.entries n b (test_live g v n l t) h

    pub created_dirty : Created v g.nodes b → Dirty w g.nodes b
    unfolding change_of
    created_dirty k =
        let moves : (n : ℕ) → n < g.nodes → live v n ≡ true → Moves owner shared (current (v.entry n b)) (current (w.entry n b)) =
        λ n l t.
        let e : current (w.entry n b) ≡ abandoned_code (current (v.entry n b)) =
        ap current (entry_is n l t) ∙ abandoned_current (v.entry n b) (good.forms n b l h t) in
        rw e (created_moves owner shared abandoned_code v b n refl refl refl refl t (k.others n l)) in
        record {
          node = k.one;
          value = k.value;
          owned = owner_at (first_moved v w g.nodes b lives owner shared k moves (omega arith) (λ q. omega arith))
              (codes_moved v w g.nodes b lives owner shared k moves owner_code refl refl refl);
          values = values_moved v w g.nodes b lives owner shared k moves (λ n l t. ap (λ e. e.value) (entry_is n l t));
          saved = saved_moved v w g.nodes b lives
              (λ n l t. ap kept (entry_is n l t) ∙ abandoned_kept (v.entry n b) (good.forms n b l h t))
              (λ n l t. ap (λ e. e.kept_value) (entry_is n l t)) k.saved;
        }

    abandoned_kind : Kind phase v g.nodes b → Kind 0 w g.nodes b
    abandoned_kind (clean k) = clean (clean_moved v w g.nodes b lives
        (λ n l t. entry_is n l t ∙ abandoned_same (v.entry n b) (not_precommit clean_code v b n refl refl t (k.others n l))) k)
    abandoned_kind (dirty k) = dirty (dirty_moved v w g.nodes b lives
        (λ n l t. entry_is n l t ∙ abandoned_same (v.entry n b) (not_precommit dirty_code v b n refl refl t (dirty_codes v g.nodes b k n l))) k)
    abandoned_kind (created e k) = dirty (created_dirty k)

  pub abandoned_sound : SoundTable g w 0 number
  abandoned_sound =
      marks_sound g v w 0 number abandon_marks phase number good (omega arith) (number_fits g v phase number good some) (λ e. absurd (omega arith))
      keeps.forms keeps.frames (λ b h. abandoned_kind b h (good.items b h))

pub abandon_off : (g : Geometry) (v : View) → All (Off g) (abandon_stores g v)
unfolding abandon_stores
abandon_off g v = all_then (entries_off g v abandon_change) (marks_off g v running_mark)

module _
    (t : List ℕ) {g : Geometry} {value : ℕ} {ss : List Store} (accepted : abandon_of t ≡ carry g value ss) (limit : ℕ) (whole : length ss ≤ limit) where
  some_item : 0 < g.items
  some_item = omega (arith, (facts t accepted).shape.sizes)

  pub abandon_accepted : Accepted (after g limit ss t) g 0 (number_in g (view g t))
  abandon_accepted = record {
    shape = rw (carried t accepted).stores_are (shape_after g limit t (abandon_off g (view g t)) (facts t accepted).shape);
    table = abandoned_sound g _ _ _ _ (facts t accepted).table some_item (abandon_keeps t accepted limit).entries
        (abandon_abandoned t accepted limit whole);
  }

  -- the table after a whole Abandon passes every check
  pub abandon_sound : fault_of (after g limit ss t) ≡ Ok g
  abandon_sound = facts_accepted (after g limit ss t) g _ _ abandon_accepted
