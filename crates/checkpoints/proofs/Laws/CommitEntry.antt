-- One entry under Commit: its forward copy is the same, its state word keeps its form, and it uses no more frames; at the end its back copy is the forward one.
use Prim.Native.Nat.{ℕ, ◌+◌, ◌≤◌, ◌<◌}
use mathlib.Core.Path.{◌≡◌, refl, sym, ap, ap₂, ◌∙◌}
use mathlib.Core.Bool.{Bool, true, false, cond, not, ◌&&◌, ◌||◌}
use mathlib.Core.List.{[], ◌∷◌}
use native.Mathlib.Omega.{arith}
use lib.Dec.{eqb, ltb, leb}
use borrow.Author.Tests.{eqb-true, ltb-true, leb-true, not-false}
use Rattle.counting.proofs.Laws.Tests.{both, other_holds, neither}
use Rattle.counting.specs.Counting.{every}
use Rattle.counting.proofs.Laws.Counting.{every_at}
use Rattle.table.specs.declared.changes.Event.TheVariants.{Commit, RollForward}
use Rattle.table.specs.Words.{state_word, current_of, kept_of, state_form, invalid}
use Rattle.table.proofs.Laws.Words.{current_state, kept_state}
use Rattle.table.proofs.Laws.Forms.{form_facts, alone_form}
use Rattle.table.specs.Changes.{change_of, checkpoint_of}
use Rattle.table.specs.View.{Entry, current, kept}
use Rattle.table.specs.Stores.{state_to}
use Rattle.table.proofs.Laws.Pass.{Steps, last, next}
use Rattle.table.specs.Copies.{back_copy, back_by, forward_copy}
use Rattle.entries.specs.Frames.{frame_of, frames_in}
use Rattle.entries.proofs.Laws.Frames.{frames_state}
use Rattle.entries.specs.Dirty.{owns}
use Rattle.checkpoints.specs.Checkpoint.{is_precommit, to_commit, commit_change}

-- what every single store keeps of an entry e₀ that has become e
pub record SafeForward (e₀ e : Entry) : Type 0 where
  pub forward : forward_copy e ≡ forward_copy e₀
  pub form : state_form e.state ≡ true
  pub frames : frames_in e.state ≤ frames_in e₀.state + 0

-- what Commit leaves of an entry
abbrev pub committed_by : Bool → Entry → Entry
committed_by q e = record { state = cond q (state_word (change_of (current e) Commit) invalid) e.state; value = e.value; kept_value = e.kept_value }

abbrev pub committed : Entry → Entry
committed e = committed_by (to_commit e.state) e

-- at the end the two copies are one
pub record Closed (e₀ e : Entry) : Type 0 where
  pub entry : e ≡ committed e₀
  pub agree : back_copy e ≡ forward_copy e

-- the column "commit", of every state but Owner and Modified
abbrev forwards : ℕ → ℕ
forwards c = checkpoint_of (change_of c RollForward)

commit_rule : ℕ → Bool
commit_rule c =
    owns c
    || (ltb (change_of c Commit) 8
    && (eqb (forwards (change_of c Commit)) (forwards c)
    && (eqb (checkpoint_of (change_of c Commit)) (forwards (change_of c Commit))
    && (leb (frame_of (change_of c Commit)) (frame_of c)
    && (is_precommit c || eqb (checkpoint_of c) (forwards c))))))

record Commits (c : ℕ) : Type 0 where
  code : change_of c Commit < 8
  same : forwards (change_of c Commit) ≡ forwards c
  agree : checkpoint_of (change_of c Commit) ≡ forwards (change_of c Commit)
  frame : frame_of (change_of c Commit) ≤ frame_of c
  stays : is_precommit c ≡ false → checkpoint_of c ≡ forwards c

commits_facts : (c : ℕ) → c < 8 → owns c ≡ false → Commits c
unfolding commit_rule change_of every
commits_facts c h q =
    let r = other_holds (owns c) (every_at 8 commit_rule refl c h) q in
    let r₁ = both (ltb (change_of c Commit) 8) r in
    let r₂ = both (eqb (forwards (change_of c Commit)) (forwards c)) r₁.1 in
    let r₃ = both (eqb (checkpoint_of (change_of c Commit)) (forwards (change_of c Commit))) r₂.1 in
    let r₄ = both (leb (frame_of (change_of c Commit)) (frame_of c)) r₃.1 in
    record {
      code = ltb-true _ 8 r₁.0;
      same = eqb-true _ _ r₂.0;
      agree = eqb-true _ _ r₃.0;
      frame = leb-true _ _ r₄.0;
      stays = λ p. eqb-true _ _ (other_holds (is_precommit c) r₄.1 p);
    }

module _ (e : Entry) (form : state_form e.state ≡ true) (plain : owns (current e) ≡ false) where
  facts : Commits (current e)
  facts = commits_facts (current e) (form_facts e.state form).code plain

  abbrev next_code : ℕ
  next_code = change_of (current e) Commit

  code_is : current_of (state_word next_code 0) ≡ next_code
  code_is = let l = facts.code in current_state next_code 0 (omega arith) (omega arith)

  kept_is : kept_of (state_word next_code 0) ≡ 0
  kept_is = let l = facts.code in kept_state next_code 0 (omega arith) (omega arith)

  commit_safe : SafeForward e (committed_by true e)
  unfolding frames_in
  commit_safe =
      let l = facts.code in
      let fr = frames_state next_code 0 (omega arith) (omega arith) in
      let fc = facts.frame in
      record {
        forward = ap (λ i. back_by i 0 e.value e.kept_value) (ap forwards code_is ∙ facts.same);
        form = alone_form next_code l;
        frames = rw fr (omega arith);
      }

  changed_agrees : back_copy (committed_by true e) ≡ forward_copy (committed_by true e)
  changed_agrees =
      ap₂ (λ i j. back_by i j e.value e.kept_value) (ap checkpoint_of code_is ∙ facts.agree ∙ sym (ap forwards code_is)) kept_is

  stays_agrees : to_commit e.state ≡ false → back_copy e ≡ forward_copy e
  stays_agrees h =
      let (p, q) = neither (is_precommit (current e)) (not (eqb (kept e) invalid)) h in
      ap₂ (λ i j. back_by i j e.value e.kept_value) (facts.stays p) (eqb-true (kept e) 0 (not-false (eqb (kept e) 0) q))

  pub commit_steps : Steps (SafeForward e) (Closed e) e (commit_change e)
  unfolding commit_change
  commit_steps = go (to_commit e.state) refl
    where
      begin : SafeForward e e
      begin = record { forward = refl; form = form; frames = omega arith }

      go : (q : Bool) → to_commit e.state ≡ q → Steps (SafeForward e) (Closed e) e (cond q (state_to next_code invalid ∷ []) [])
      go true h = next begin (last commit_safe (record { entry = rw h refl; agree = changed_agrees }))
      go false h = last begin (record { entry = rw h refl; agree = stays_agrees h })
