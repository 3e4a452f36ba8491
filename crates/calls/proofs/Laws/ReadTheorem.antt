-- THE THEOREM of Read: however an accepted read is cut, a roll back finds every recovery copy as it was. It answers the value that all live
-- current copies have. And what a whole read leaves.
use Prim.Native.Nat.{ℕ, ◌≤◌}
use mathlib.Core.Path.{◌≡◌, sym, subst}
use mathlib.Core.List.{List}
use lib.ListN.{length}
use Rattle.table.specs.declared.geometry.Geometry.{Geometry}
use Rattle.table.specs.Stores.{Store, after}
use Rattle.table.specs.View.{view}
use Rattle.table.proofs.Laws.Via.{via_cut, via_whole}
use Rattle.table.specs.Answers.{carry}
use Rattle.entries.proofs.Laws.SoundFacts.{phase_in, number_in}
use Rattle.entries.proofs.Laws.CheckFacts.{Accepted, accepted_facts}
use Rattle.homes.proofs.Laws.Admission.{FrameAdmits, frame_admits}
use Rattle.homes.proofs.Laws.Plans.{Carried, acted_carried, acted_value}
use Rattle.calls.specs.Read.{fetches, read_admission, read_stores, read_value, read_of}
use Rattle.homes.proofs.Laws.Kept.{Kept}
use Rattle.calls.proofs.Laws.ReadDone.{Answered, ReadDone}
use Rattle.calls.proofs.Laws.ReadVia.{value_answered, read_via, safe_kept}

module _ (t : List ℕ) (n b : ℕ) {g : Geometry} {value : ℕ} {ss : List Store} (accepted : read_of t n b ≡ carry g value ss) where
  pub carried : Carried (λ g v. read_admission g v n b) (λ g v. read_stores g v n b) t g ss
  carried = acted_carried (λ g v. read_admission g v n b) (λ g v. read_value g v n b) (λ g v. read_stores g v n b) t accepted

  value_is : value ≡ read_value g (view g t) n b
  value_is = acted_value (λ g v. read_admission g v n b) (λ g v. read_value g v n b) (λ g v. read_stores g v n b) t accepted

  facts : Accepted t g (phase_in g (view g t)) (number_in g (view g t))
  facts = accepted_facts t g carried.passed

  admits : FrameAdmits g (view g t) n b (fetches ((view g t).entry n b))
  admits = frame_admits g (view g t) n b (fetches ((view g t).entry n b)) carried.admitted

  -- after any number of its stores
  pub read_keeps : (limit : ℕ) → Kept g (view g t) (view g (after g limit ss t))
  read_keeps limit =
      rw carried.stores_are
      (safe_kept g (view g t) _ _ n b facts.table admits _
      (via_cut t facts.shape.long (read_via g (view g t) _ _ n b facts.table admits) limit))

  -- what it answers
  pub read_value_lem : Answered g n b (view g t) value
  read_value_lem = subst (Answered g n b (view g t)) (sym value_is) (value_answered g (view g t) _ _ n b facts.table admits)

  -- after all of them
  pub read_read : (limit : ℕ) → length ss ≤ limit → ReadDone g n b (view g t) (view g (after g limit ss t))
  read_read limit all =
      let l = rw carried.stores_are at all in
      rw carried.stores_are (via_whole t facts.shape.long (read_via g (view g t) _ _ n b facts.table admits) limit l)
