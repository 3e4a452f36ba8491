-- A whole Open leaves a sound table, in phase 1: every item is of its kind still.
use Rattle.std.specs.Prelude.{Ok}
use Prim.Native.Nat.{ℕ, ◌≤◌, ◌<◌}
use mathlib.Core.Path.{◌≡◌, ap, ◌∙◌}
use mathlib.Core.List.{List}
use native.Mathlib.Omega.{arith}
use lib.ListN.{length}
use Rattle.table.specs.declared.geometry.Geometry.{Geometry}
use Rattle.table.specs.Words.{mark_word}
use Rattle.table.specs.Stores.{Store, after}
use Rattle.table.specs.View.{View, view}
use Rattle.table.proofs.Laws.MarksPass.{Marking}
use Rattle.table.specs.Answers.{carry}
use Rattle.entries.specs.Check.{fault_of}
use Rattle.entries.proofs.Laws.Kinds.{Kind, clean, dirty, created}
use Rattle.entries.proofs.Laws.SoundFacts.{SoundTable, number_in}
use Rattle.entries.proofs.Laws.CheckFacts.{Accepted, facts_accepted}
use Rattle.checkpoints.specs.Open.{creating_mark, start_admission, open_of}
use Rattle.homes.proofs.Laws.Kept.{live_test}
use Rattle.checkpoints.proofs.Laws.KeptMarks.{KeptEntries}
use Rattle.homes.proofs.Laws.SoundKept.{shape_after}
use Rattle.checkpoints.proofs.Laws.MarksSound.{marks_off, started, NewMarks, new_live, marks_sound}
use Rattle.checkpoints.proofs.Laws.KindMoved.{clean_moved, dirty_moved}
use Rattle.checkpoints.proofs.Laws.OpenTheorem.{carried, facts, open_keeps, open_opened}

module _
    (g : Geometry) (v w : View) (phase number : ℕ) (good : SoundTable g v phase number) (some : 0 < g.items)
    (admitted : start_admission g v ≡ (Ok tt)) (kept : KeptEntries g v w) (m : Marking g v creating_mark g.nodes w) where
  pub open_marks : NewMarks g v w 1 number
  open_marks = record {
    lives = λ n l. m.new n l.there (live_test g v n l) ∙ ap (mark_word 1) (good.numbers n l.there (live_test g v n l));
    deads = m.dead;
  }

  -- there is no created item yet
  opened_kind : (b : ℕ) → Kind phase v g.nodes b → Kind 1 w g.nodes b
  opened_kind b (clean k) = clean (clean_moved v w g.nodes b (new_live g v w 1 number open_marks) (λ n l t. ap (λ f. f n b) m.entries) k)
  opened_kind b (dirty k) = dirty (dirty_moved v w g.nodes b (new_live g v w 1 number open_marks) (λ n l t. ap (λ f. f n b) m.entries) k)
  opened_kind b (created e k) = absurd (omega (arith, e, (started g v phase number good some admitted).0))

  pub opened_sound : SoundTable g w 1 number
  opened_sound =
      let s = started g v phase number good some admitted in
      marks_sound g v w 1 number open_marks phase number good (omega arith) (omega (arith, s.1)) (λ e. s.1) kept.forms kept.frames
      (λ b h. opened_kind b (good.items b h))

module _
    (t : List ℕ) {g : Geometry} {value : ℕ} {ss : List Store} (accepted : open_of t ≡ carry g value ss) (limit : ℕ) (whole : length ss ≤ limit) where
  some_item : 0 < g.items
  some_item = omega (arith, (facts t accepted).shape.sizes)

  pub open_accepted : Accepted (after g limit ss t) g 1 (number_in g (view g t))
  open_accepted = record {
    shape = rw (carried t accepted).stores_are (shape_after g limit t (marks_off g (view g t) creating_mark) (facts t accepted).shape);
    table = opened_sound g _ _ _ _ (facts t accepted).table some_item (carried t accepted).admitted (open_keeps t accepted limit).entries
        (open_opened t accepted limit whole);
  }

  -- the table after a whole Open passes every check
  pub open_sound : fault_of (after g limit ss t) ≡ Ok g
  open_sound = facts_accepted (after g limit ss t) g _ _ open_accepted
