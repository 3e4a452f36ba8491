-- A whole Commit leaves a sound table, in phase 0, of the next number: every item is clean, and its value is the current value at entry.
use Rattle.std.specs.Prelude.{Ok}
use Prim.Native.Nat.{ℕ, ◌+◌, ◌-◌, ◌^◌, ◌≤◌, ◌<◌}
use mathlib.Core.Path.{◌≡◌, refl, sym, ap, ◌∙◌}
use mathlib.Core.Bool.{Bool, true, false, not, ◌&&◌, ◌||◌}
use mathlib.Core.List.{List}
use native.Mathlib.Omega.{arith}
use lib.Dec.{eqb, ltb}
use lib.ListN.{length}
use borrow.Author.Tests.{eqb-true, eq-eqb, ltb-true, not-false}
use Rattle.counting.proofs.Laws.Tests.{by_cases, and_no, other_holds, no_both, or_left, or_right, neither}
use Rattle.counting.specs.Counting.{every}
use Rattle.counting.proofs.Laws.Counting.{every_at}
use Rattle.table.specs.declared.geometry.Geometry.{Geometry}
use Rattle.table.specs.declared.changes.Event.TheVariants.{Commit}
use Rattle.table.specs.Words.{state_form, invalid, owner, modified, shared_ck1, shared_ck2, mark_word}
use Rattle.table.proofs.Laws.Words.{current_state, kept_state}
use Rattle.table.proofs.Laws.Forms.{form_facts}
use Rattle.table.specs.Changes.{change_of}
use Rattle.table.specs.Stores.{Store, after}
use Rattle.table.specs.View.{Entry, View, view, live, current, kept}
use Rattle.table.specs.Answers.{carry}
use Rattle.entries.specs.Check.{fault_of}
use Rattle.entries.specs.Tally.{copy, kept_copy}
use Rattle.entries.proofs.Laws.Kinds.{clean_code, Clean, Owned, modified_at, owner_at, Created, Kind, clean, dirty, created, has_live, has_code, no_keep}
use Rattle.entries.proofs.Laws.SoundFacts.{SoundTable, number_in}
use Rattle.entries.proofs.Laws.CheckFacts.{Accepted, facts_accepted}
use Rattle.entries.specs.Dirty.{owns}
use Rattle.checkpoints.specs.Checkpoint.{is_precommit, to_commit}
use Rattle.checkpoints.specs.Commit.{commit_admission, commit_of}
use Rattle.homes.proofs.Laws.Kept.{live_test, test_live}
use Rattle.homes.proofs.Laws.SoundKept.{shape_after}
use Rattle.checkpoints.proofs.Laws.MarksSound.{commit_opened, NewMarks, new_live, marks_sound}
use Rattle.checkpoints.proofs.Laws.KindMoved.{Moves, created_moves, not_precommit, clean_moved, clean_value, first_moved, second_moved, codes_moved, values_moved}
use Rattle.checkpoints.proofs.Laws.NoneOwned.{none_owned}
use Rattle.checkpoints.proofs.Laws.CommitEntry.{committed_by, committed}
use Rattle.checkpoints.proofs.Laws.CommitKept.{KeptForward, CommitEnd}
use Rattle.checkpoints.proofs.Laws.CommitTheorem.{carried, facts, commit_keeps, commit_committed}
use Rattle.checkpoints.proofs.Laws.CommitOff.{commit_off}

-- ---- one entry

-- the column "commit": a state that is neither owned nor Precommit stays
stay_rule : ℕ → Bool
stay_rule c = owns c || (is_precommit c || eqb (change_of c Commit) c)

low_rule : ℕ → Bool
low_rule c = ltb (change_of c Commit) 16

code_stays : (c : ℕ) → c < 8 → owns c ≡ false → is_precommit c ≡ false → change_of c Commit ≡ c
unfolding stay_rule change_of every
code_stays c h p q = eqb-true _ _ (other_holds (is_precommit c) (other_holds (owns c) (every_at 8 stay_rule refl c h) p) q)

code_low : (c : ℕ) → c < 8 → change_of c Commit < 16
unfolding low_rule change_of every
code_low c h = ltb-true _ 16 (every_at 8 low_rule refl c h)

module _ (e : Entry) (form : state_form e.state ≡ true) where
  committed_current : owns (current e) ≡ false → current (committed e) ≡ change_of (current e) Commit
  committed_current plain = go (to_commit e.state) refl
    where
      go : (q : Bool) → to_commit e.state ≡ q → current (committed_by q e) ≡ change_of (current e) Commit
      go true h = current_state (change_of (current e) Commit) 0 (code_low (current e) (form_facts e.state form).code) (omega arith)
      go false h =
          sym (code_stays (current e) (form_facts e.state form).code plain
          (neither (is_precommit (current e)) (not (eqb (kept e) invalid)) h).0)

  committed_kept : kept (committed e) ≡ 0
  committed_kept = go (to_commit e.state) refl
    where
      go : (q : Bool) → to_commit e.state ≡ q → kept (committed_by q e) ≡ 0
      go true h = kept_state (change_of (current e) Commit) 0 (code_low (current e) (form_facts e.state form).code) (omega arith)
      go false h = eqb-true (kept e) 0 (not-false (eqb (kept e) 0) (neither (is_precommit (current e)) (not (eqb (kept e) invalid)) h).1)

committed_same : (e : Entry) → is_precommit (current e) ≡ false → kept e ≡ 0 → committed e ≡ e
committed_same e h k =
    let c : to_commit e.state ≡ false = rw (h, eq-eqb (kept e) 0 k) refl in
    rw c refl

no_keep_at : (v : View) (b n : ℕ) → kept (v.entry n b) ≡ 0 → kept_copy v b n ≡ false
no_keep_at v b n e = and_no (live v n) (ap not (eq-eqb (kept (v.entry n b)) 0 e))

-- "12 a dirty item not created": none is owned
pub not_owned :
    (g : Geometry) (v : View) → commit_admission g v ≡ (Ok tt) → (b : ℕ) → b < g.items → (m : ℕ) → Owned v g.nodes b m → ⊥
not_owned g v admitted b h m (modified_at o q) =
    no_both (or_right (eqb (current (v.entry m b)) owner) (eq-eqb (current (v.entry m b)) modified (has_code v b m modified o.holds)))
    (none_owned g v admitted m b (test_live g v m o.within (has_live v b m modified o.holds)) h)
not_owned g v admitted b h m (owner_at o q) =
    no_both (or_left (eqb (current (v.entry m b)) modified) (eq-eqb (current (v.entry m b)) owner (has_code v b m owner o.holds)))
    (none_owned g v admitted m b (test_live g v m o.within (has_live v b m owner o.holds)) h)

-- ---- the table

-- the item is clean, of the value that every live current copy had at entry
pub record Saves (v w : View) (N b : ℕ) : Type 0 where
  pub clean_after : Clean w N b
  pub value_before : (n : ℕ) → n < N → copy v b n ≡ true → (v.entry n b).value ≡ clean_after.value

module _
    (g : Geometry) (v w : View) (phase number : ℕ) (good : SoundTable g v phase number) (some : 0 < g.items)
    (admitted : commit_admission g v ≡ (Ok tt)) (keeps : KeptForward g v w) (z : CommitEnd g v w) where
  -- "number (under 2^32 − 1 in phase 1)"
  room : number < 2 ^ 32 - 1
  room = good.number_room (commit_opened g v phase number good some admitted)

  commit_marks : NewMarks g v w 0 (number + 1)
  commit_marks = record {
    lives = λ n l. z.marks n l ∙ ap (λ x. mark_word 0 (x + 1)) (good.numbers n l.there (live_test g v n l));
    deads = z.dead_marks;
  }

  lives : (n : ℕ) → n < g.nodes → live w n ≡ live v n
  lives = new_live g v w 0 (number + 1) commit_marks

  module _ (b : ℕ) (h : b < g.items) where
    entry_is : (n : ℕ) → n < g.nodes → live v n ≡ true → w.entry n b ≡ committed (v.entry n b)
    entry_is n l t = z.entries n b (test_live g v n l t) h

    plain_at : (n : ℕ) → n < g.nodes → live v n ≡ true → owns (current (v.entry n b)) ≡ false
    plain_at n l t = none_owned g v admitted n b (test_live g v n l t) h

    kept_at : (n : ℕ) → n < g.nodes → kept_copy w b n ≡ false
    kept_at n l = by_cases (live v n)
        (λ t. no_keep_at w b n (ap kept (entry_is n l t) ∙ committed_kept (v.entry n b) (good.forms n b l h t)))
        (λ t. ap (λ a. a && not (eqb (kept (w.entry n b)) 0)) (lives n l ∙ t))

    created_clean : Created v g.nodes b → Saves v w g.nodes b
    unfolding change_of
    created_clean k =
        let moves : (n : ℕ) → n < g.nodes → live v n ≡ true → Moves shared_ck1 shared_ck2 (current (v.entry n b)) (current (w.entry n b)) =
        λ n l t.
        let e : current (w.entry n b) ≡ change_of (current (v.entry n b)) Commit =
        ap current (entry_is n l t) ∙ committed_current (v.entry n b) (good.forms n b l h t) (plain_at n l t) in
        rw e (created_moves shared_ck1 shared_ck2 (λ c. change_of c Commit) v b n refl refl refl refl t (k.others n l)) in
        record {
          clean_after = record {
            one = k.one;
            two = k.two;
            value = k.value;
            first = first_moved v w g.nodes b lives shared_ck1 shared_ck2 k moves (omega arith) (λ q. omega arith);
            second = second_moved v w g.nodes b lives shared_ck1 shared_ck2 k moves (omega arith) (λ q. omega arith);
            others = codes_moved v w g.nodes b lives shared_ck1 shared_ck2 k moves clean_code refl refl refl;
            values = values_moved v w g.nodes b lives shared_ck1 shared_ck2 k moves (λ n l t. ap (λ e. e.value) (entry_is n l t));
            nothing = kept_at;
          };
          value_before = k.values;
        }

    clean_same : Clean v g.nodes b → (n : ℕ) → n < g.nodes → live v n ≡ true → w.entry n b ≡ v.entry n b
    clean_same k n l t =
        entry_is n l t ∙ committed_same (v.entry n b) (not_precommit clean_code v b n refl refl t (k.others n l)) (no_keep v b n t (k.nothing n l))

    clean_clean : Clean v g.nodes b → Saves v w g.nodes b
    clean_clean k = record {
      clean_after = clean_moved v w g.nodes b lives (clean_same k) k;
      value_before = λ n l t. k.values n l t ∙ sym (clean_value v w g.nodes b lives (clean_same k) k);
    }

    kind_saves : Kind phase v g.nodes b → Saves v w g.nodes b
    kind_saves (clean k) = clean_clean k
    kind_saves (dirty k) = absurd (not_owned g v admitted b h k.node k.owned)
    kind_saves (created e k) = created_clean k

    pub committed_saves : Saves v w g.nodes b
    committed_saves = kind_saves (good.items b h)

  pub committed_sound : SoundTable g w 0 (number + 1)
  committed_sound =
      marks_sound g v w 0 (number + 1) commit_marks phase number good (omega arith) (omega (arith, room)) (λ e. absurd (omega arith))
      keeps.forms keeps.frames (λ b h. clean (committed_saves b h).clean_after)

module _
    (t : List ℕ) {g : Geometry} {value : ℕ} {ss : List Store} (accepted : commit_of t ≡ carry g value ss) (limit : ℕ) (whole : length ss ≤ limit) where
  some_item : 0 < g.items
  some_item = omega (arith, (facts t accepted).shape.sizes)

  -- every item is clean, of its current value at entry
  pub commit_saves : (b : ℕ) → b < g.items → Saves (view g t) (view g (after g limit ss t)) g.nodes b
  commit_saves =
      committed_saves g _ _ _ _ (facts t accepted).table some_item (carried t accepted).admitted (commit_keeps t accepted limit).kept
      (commit_committed t accepted limit whole)

  pub commit_accepted : Accepted (after g limit ss t) g 0 (number_in g (view g t) + 1)
  commit_accepted = record {
    shape = rw (carried t accepted).stores_are (shape_after g limit t (commit_off g (view g t)) (facts t accepted).shape);
    table = committed_sound g _ _ _ _ (facts t accepted).table some_item (carried t accepted).admitted (commit_keeps t accepted limit).kept
        (commit_committed t accepted limit whole);
  }

  -- the table after a whole Commit passes every check
  pub commit_sound : fault_of (after g limit ss t) ≡ Ok g
  commit_sound = facts_accepted (after g limit ss t) g _ _ commit_accepted
