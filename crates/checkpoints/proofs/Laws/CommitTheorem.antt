-- THE THEOREM of Commit: however it is cut, a roll forward finds every recovery copy as it was; until its first entry store a roll back too, and from its
-- first closing mark on the two find the same. And what a whole one leaves.
use Prim.Native.Nat.{ℕ, ◌≤◌}
use mathlib.Core.Path.{◌≡◌}
use mathlib.Core.List.{List}
use lib.ListN.{length}
use Rattle.table.specs.declared.geometry.Geometry.{Geometry}
use Rattle.table.specs.Stores.{Store, after}
use Rattle.table.specs.View.{view}
use Rattle.table.proofs.Laws.Via.{via_cut, via_whole}
use Rattle.table.specs.Answers.{carry}
use Rattle.entries.proofs.Laws.SoundFacts.{phase_in, number_in}
use Rattle.entries.proofs.Laws.CheckFacts.{Accepted, accepted_facts}
use Rattle.homes.proofs.Laws.Plans.{Carried, acted_carried}
use Rattle.checkpoints.specs.Commit.{commit_admission, commit_stores, commit_of}
use Rattle.checkpoints.proofs.Laws.CommitKept.{CommitCut, CommitEnd}
use Rattle.checkpoints.proofs.Laws.CommitVia.{commit_via}

module _ (t : List ℕ) {g : Geometry} {value : ℕ} {ss : List Store} (accepted : commit_of t ≡ carry g value ss) where
  pub carried : Carried commit_admission commit_stores t g ss
  carried = acted_carried commit_admission (λ g v. 0) commit_stores t accepted

  pub facts : Accepted t g (phase_in g (view g t)) (number_in g (view g t))
  facts = accepted_facts t g carried.passed

  -- after any number of its stores
  pub commit_keeps : (limit : ℕ) → CommitCut g (view g t) (view g (after g limit ss t))
  commit_keeps limit =
      rw carried.stores_are
      (via_cut t facts.shape.long (commit_via g (view g t) _ _ facts.table carried.admitted) limit)

  -- after all of them
  pub commit_committed : (limit : ℕ) → length ss ≤ limit → CommitEnd g (view g t) (view g (after g limit ss t))
  commit_committed limit all =
      let l = rw carried.stores_are at all in
      rw carried.stores_are (via_whole t facts.shape.long (commit_via g (view g t) _ _ facts.table carried.admitted) limit l)
