-- THE THEOREM of Write: however an accepted write is cut, a roll back finds every recovery copy as it was. And what a whole write leaves.
use Prim.Native.Nat.{ℕ, ◌≤◌}
use mathlib.Core.Path.{◌≡◌}
use mathlib.Core.List.{List}
use lib.ListN.{length}
use Rattle.table.specs.declared.geometry.Geometry.{Geometry}
use Rattle.table.specs.Stores.{Store, after}
use Rattle.table.specs.View.{view}
use Rattle.table.proofs.Laws.Via.{via_cut, via_whole}
use Rattle.table.specs.Answers.{carry}
use Rattle.entries.proofs.Laws.SoundFacts.{phase_in, number_in}
use Rattle.entries.proofs.Laws.CheckFacts.{Accepted, accepted_facts}
use Rattle.homes.proofs.Laws.Admission.{FrameAdmits, frame_admits}
use Rattle.homes.proofs.Laws.Plans.{Carried, acted_carried}
use Rattle.calls.specs.Write.{write_needs, write_admission, write_stores, write_of}
use Rattle.homes.proofs.Laws.Kept.{Kept}
use Rattle.calls.proofs.Laws.Written.{Written}
use Rattle.calls.proofs.Laws.WriteVia.{write_via, safe_kept}

module _ (t : List ℕ) (n b x : ℕ) {g : Geometry} {value : ℕ} {ss : List Store} (accepted : write_of t n b x ≡ carry g value ss) where
  pub carried : Carried (λ g v. write_admission g v n b) (λ g v. write_stores g v n b x) t g ss
  carried = acted_carried (λ g v. write_admission g v n b) (λ g v. 0) (λ g v. write_stores g v n b x) t accepted

  pub facts : Accepted t g (phase_in g (view g t)) (number_in g (view g t))
  facts = accepted_facts t g carried.passed

  pub admits : FrameAdmits g (view g t) n b (write_needs (view g t) n b)
  admits = frame_admits g (view g t) n b (write_needs (view g t) n b) carried.admitted

  -- after any number of its stores
  pub write_keeps : (limit : ℕ) → Kept g (view g t) (view g (after g limit ss t))
  write_keeps limit =
      rw carried.stores_are
      (safe_kept g (view g t) _ _ n b x facts.table admits _
      (via_cut t facts.shape.long (write_via g (view g t) _ _ n b x facts.table admits) limit))

  -- after all of them
  pub write_written : (limit : ℕ) → length ss ≤ limit → Written g n b x (view g t) (view g (after g limit ss t))
  write_written limit all =
      let l = rw carried.stores_are at all in
      rw carried.stores_are (via_whole t facts.shape.long (write_via g (view g t) _ _ n b x facts.table admits) limit l)
