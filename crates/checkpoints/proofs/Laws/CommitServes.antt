-- A whole Commit: every value is as it was, and is now the value saved; the point's number is the next one.
use Prim.Native.Nat.{ℕ, ◌+◌, ◌≤◌}
use mathlib.Core.Path.{◌≡◌, refl, ap, ◌∙◌}
use mathlib.Core.Logic.{◌≢◌}
use mathlib.Core.Bool.{Bool, true, false}
use mathlib.Core.List.{List}
use native.Mathlib.Omega.{arith}
use lib.ListN.{length}
use Rattle.table.specs.declared.geometry.Geometry.{Geometry}
use Rattle.table.specs.declared.changes.Event.TheVariants.{Commit}
use Rattle.table.proofs.Laws.Words.{current_state}
use Rattle.table.specs.Changes.{change_of}
use Rattle.table.specs.Stores.{Store, after}
use Rattle.table.specs.View.{Entry, View, view, current}
use Rattle.table.specs.Copies.{copy_number, copy_value, forward_copy}
use Rattle.table.specs.Answers.{carry}
use Rattle.entries.proofs.Laws.CheckFacts.{Accepted}
use Rattle.checkpoints.specs.Checkpoint.{to_commit}
use Rattle.checkpoints.specs.Commit.{commit_of}
use Rattle.homes.proofs.Laws.Kept.{Live}
use Rattle.checkpoints.proofs.Laws.Forward.{forward_number_lem, forward_value}
use Rattle.checkpoints.proofs.Laws.CommitEntry.{committed_by, committed}
use Rattle.checkpoints.proofs.Laws.CommitKept.{CommitEnd}
use Rattle.checkpoints.proofs.Laws.CommitTheorem.{carried, commit_committed}
use Rattle.checkpoints.proofs.Laws.CommitSound.{commit_accepted}
use Rattle.homes.proofs.Laws.Serves.{CurrentHave, BackHave, Serves, same_geometry, serves_number, serves_by, live_marked}

-- ---- an Invalid place stays Invalid, and is no forward copy

module _ (e : Entry) (z : current e ≡ 0) where
  still_invalid : current (committed e) ≡ 0
  unfolding change_of
  still_invalid = go (to_commit e.state)
    where
      code : change_of (current e) Commit ≡ 0
      code = rw z refl

      go : (q : Bool) → current (committed_by q e) ≡ 0
      go true = let l = code in current_state (change_of (current e) Commit) 0 (omega arith) (omega arith) ∙ code
      go false = z

  pub no_forward : copy_number (forward_copy e) ≡ 0
  no_forward = forward_number_lem e (omega arith) ∙ rw z refl

module _ (g : Geometry) (v w : View) (values : ℕ → ℕ) (lives : (n : ℕ) → Live g w n → Live g v n) (z : CommitEnd g v w) (h : CurrentHave g v values) where
  committed_current : CurrentHave g w values
  committed_current n b l i d =
      let e = z.entries n b (lives n l) i in
      ap (λ e. e.value) e ∙ h n b (lives n l) i (λ y. d (ap current e ∙ still_invalid (v.entry n b) y))

  -- what it saves is what was current
  committed_back : BackHave g w values
  committed_back n b l i d =
      let e = z.agree n b (lives n l) i in
      let f : copy_number (forward_copy (v.entry n b)) ≢ 0 = λ y. d (ap copy_number e ∙ y) in
      ap copy_value e ∙ forward_value (v.entry n b) f ∙ h n b (lives n l) i (λ y. f (no_forward (v.entry n b) y))

module _ (t : List ℕ) (g : Geometry) (values saved : ℕ → ℕ) (number : ℕ) (s : Serves t g values saved number) where
  serves_here :
      {value : ℕ} {ss : List Store} → commit_of t ≡ carry g value ss → (limit : ℕ) → length ss ≤ limit
      → Serves (after g limit ss t) g values values (number + 1)
  serves_here {value} {ss} accepted limit whole =
      let z = commit_committed t accepted limit whole in
      let lives = live_marked g (view g t) (view g (after g limit ss t)) z.dead_marks in
      let a : Accepted (after g limit ss t) g 0 (number + 1) =
      rw (serves_number t g values saved number s) at (commit_accepted t accepted limit whole) in
      serves_by (after g limit ss t) g values values 0 (number + 1) a
      (committed_current g (view g t) _ values lives z s.current) (committed_back g (view g t) _ values lives z s.current)

  pub commit_serves :
      {g' : Geometry} {value : ℕ} {ss : List Store} → commit_of t ≡ carry g' value ss → (limit : ℕ) → length ss ≤ limit
      → Serves (after g' limit ss t) g values values (number + 1)
  commit_serves accepted limit whole =
      let e = same_geometry t s.passed (carried t accepted).passed in
      rw e (serves_here (rw e at accepted) limit whole)
