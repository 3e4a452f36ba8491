-- THE THEOREM of Open: however it is cut, every entry is as it was, and each mark as it was or, of a live node, in phase 1.
use Prim.Native.Nat.{ℕ, ◌≤◌}
use mathlib.Core.Path.{◌≡◌, refl}
use mathlib.Core.Logic.{inl}
use mathlib.Core.List.{List}
use lib.ListN.{length}
use Rattle.table.specs.declared.geometry.Geometry.{Geometry}
use Rattle.table.specs.Stores.{Store, after}
use Rattle.table.specs.View.{View, view}
use Rattle.table.proofs.Laws.Via.{Via, via_cut, via_whole}
use Rattle.table.proofs.Laws.MarksPass.{Mixed, Marking, marks_via}
use Rattle.table.specs.Answers.{carry}
use Rattle.entries.proofs.Laws.SoundFacts.{phase_in, number_in}
use Rattle.entries.proofs.Laws.CheckFacts.{Accepted, accepted_facts}
use Rattle.homes.proofs.Laws.Plans.{Carried, acted_carried}
use Rattle.checkpoints.specs.Open.{creating_mark, open_stores, start_admission, open_of}
use Rattle.checkpoints.proofs.Laws.KeptMarks.{KeptMarks, same_entries}

-- v at entry, w at the cut
pub record OpenCut (g : Geometry) (v w : View) : Type 0 where
  pub entries : w.entry ≡ v.entry
  pub marks : Mixed g v creating_mark w

pub open_via : (g : Geometry) (v : View) → Via g (OpenCut g v) (Marking g v creating_mark g.nodes) v (open_stores g v)
open_via g v =
    marks_via g v creating_mark (OpenCut g v) (λ w e m. record { entries = e; marks = m }) (record { entries = refl; marks = λ n. inl refl })

module _ (t : List ℕ) {g : Geometry} {value : ℕ} {ss : List Store} (accepted : open_of t ≡ carry g value ss) where
  pub carried : Carried start_admission open_stores t g ss
  carried = acted_carried start_admission (λ g v. 0) open_stores t accepted

  pub facts : Accepted t g (phase_in g (view g t)) (number_in g (view g t))
  facts = accepted_facts t g carried.passed

  -- after any number of its stores
  pub open_cut : (limit : ℕ) → OpenCut g (view g t) (view g (after g limit ss t))
  open_cut limit = rw carried.stores_are (via_cut t facts.shape.long (open_via g (view g t)) limit)

  pub open_keeps : (limit : ℕ) → KeptMarks g (view g t) creating_mark (view g (after g limit ss t))
  open_keeps limit =
      let c = open_cut limit in
      record { entries = same_entries g (view g t) _ _ facts.table _ c.entries; marks = c.marks }

  -- after all of them
  pub open_opened : (limit : ℕ) → length ss ≤ limit → Marking g (view g t) creating_mark g.nodes (view g (after g limit ss t))
  open_opened limit all =
      let l = rw carried.stores_are at all in
      rw carried.stores_are (via_whole t facts.shape.long (open_via g (view g t)) limit l)
