-- THE THEOREM of Recover, where the survivors are ready and there are enough: it is accepted; however it is cut the survivors stay ready, so it can be
-- made again; and a whole one brings back the save, of the number of the point.
use Rattle.std.specs.Prelude.{Ok, Option}
use Prim.Native.Nat.{ℕ, ◌≤◌}
use mathlib.Core.Path.{◌≡◌, refl, ap, ◌∙◌}
use mathlib.Core.Bool.{false}
use mathlib.Core.List.{List}
use lib.ListN.{length}
use borrow.Author.Tests.{le-ltb}
use Rattle.counting.proofs.Laws.Counting.{count_ext}
use Rattle.table.specs.declared.geometry.Geometry.{Geometry}
use Rattle.table.specs.Stores.{after}
use Rattle.table.specs.View.{View, view, live}
use Rattle.table.proofs.Laws.Via.{Via, via_cut, via_whole}
use Rattle.table.specs.Answers.{carry}
use Rattle.entries.specs.Check.{sizes_of}
use Rattle.entries.proofs.Laws.CheckFacts.{Shape, sizes_facts}
use Rattle.homes.proofs.Laws.SoundKept.{shape_after}
use Rattle.homes.proofs.Laws.Serves.{Serves, serves_by}
use Rattle.homes.specs.Admission.{plan_admitted}
use Rattle.survivors.specs.Survivors.{survivors, survivor_count, lost_outside, too_few_with, too_few}
use Rattle.recovery.specs.Recover.{scratch_words, recover_stores, recover_admission, recover_checked, recover_of}
use Rattle.recovery.proofs.Laws.Ready.{Ready, Going}
use Rattle.recovery.proofs.Laws.Recovered.{Recovered}
use Rattle.recovery.proofs.Laws.ReadyAccepts.{ready_formed, ready_fit}
use Rattle.recovery.proofs.Laws.ClosingVia.{ready_fits}
use Rattle.recovery.proofs.Laws.LostVia.{recover_via}
use Rattle.recovery.proofs.Laws.RecoverOff.{recover_off}
use Rattle.recovery.proofs.Laws.RecoveredSound.{recovered_sound, recovered_current, recovered_back}

-- the survivors are as many, however a recovery is cut
pub going_few : (g : Geometry) (saved : ℕ → ℕ) (number : ℕ) (w u : View) → Going g saved number w u → too_few g u ≡ too_few g w
unfolding too_few survivor_count
going_few g saved number w u k = ap (too_few_with g) (count_ext g.nodes (live u) (live w) (λ n l. k.same n))

module _ (t : List ℕ) (g : Geometry) (saved : ℕ → ℕ) (number : ℕ) (lost : Option ℕ) (passed : sizes_of t ≡ Ok g) (inside : lost_outside g lost ≡ false)
    (ready : Ready g saved number (survivors lost (view g t))) (room : too_few g (survivors lost (view g t)) ≡ false) where
  abbrev w : View
  w = survivors lost (view g t)

  shape : Shape t g
  shape = sizes_facts t g passed

  -- never 2, never 15
  pub recover_accepts : (scratch : ℕ) → scratch_words g ≤ scratch → recover_of t lost scratch ≡ carry g 0 (recover_stores g lost (view g t))
  unfolding recover_of recover_checked recover_admission plan_admitted
  recover_accepts scratch h =
      ap (recover_checked t lost scratch) passed
      ∙ rw (inside, le-ltb scratch (scratch_words g) h, ready_formed g saved number w ready, room, ready_fit g saved number w ready) refl

  all_along : Via g (λ u. Going g saved number w (survivors lost u)) (Recovered g saved number w) (view g t) (recover_stores g lost (view g t))
  all_along = recover_via g saved number lost (view g t) inside ready room

  -- after any number of its stores
  pub recover_keeps : (limit : ℕ) → Going g saved number w (survivors lost (view g (after g limit (recover_stores g lost (view g t)) t)))
  recover_keeps = via_cut t shape.long all_along

  -- after all of them
  module _ (limit : ℕ) (whole : length (recover_stores g lost (view g t)) ≤ limit) where
    pub recover_leaves : Recovered g saved number w (view g (after g limit (recover_stores g lost (view g t)) t))
    recover_leaves = via_whole t shape.long all_along limit whole

    pub recover_serves : Serves (after g limit (recover_stores g lost (view g t)) t) g saved saved number
    recover_serves =
        serves_by (after g limit (recover_stores g lost (view g t)) t) g saved saved 0 number
        (record {
          shape = shape_after g limit t (recover_off g lost (view g t)) shape;
          table = recovered_sound g saved number w _ recover_leaves (ready_fits g saved number w ready);
        })
        (recovered_current g saved number w _ recover_leaves) (recovered_back g saved number w _ recover_leaves)
