-- A rehearsal worked out: its conditions can be met, and what the plain memory has then saved.
use Rattle.std.specs.Prelude.{Some}
use Prim.Native.Nat.{ℕ}
use mathlib.Core.Path.{◌≡◌, refl}
use mathlib.Core.Bool.{false}
use mathlib.Core.List.{List, [], ◌∷◌}
use native.Mathlib.Omega.{arith}
use lib.ListN.{replicate}
use Rattle.layout.specs.Formatted.{Formatted}
use Rattle.restore.specs.declared.call.Call.TheVariants.{Format, Write, Open, Create, Commit}
use Rattle.restore.specs.Memory.{saved_in}
use Rattle.restore.specs.Run.{commits_from, memory_from, table_by, run}
use Rattle.restore.specs.Rehearsal.{call_at, steps_to, node_word_at, put_to, hit_node, hit_sized, hit_by, Script, whole_calls, Demanded, strike, too_few_left}
use Rattle.restore.specs.Operations.{call_by}
use Rattle.restore.proofs.Laws.RehearsalHit.{hit_struck}
use Rattle.restore.specs.Demand3.{memory}
use Rattle.counting.specs.Counting.{every, sum, count, first, first_or, exists}
use Rattle.counting.specs.Cyclic.{node_after, test_after, first_after}
use Rattle.counting.specs.Values.{values_of}
use Rattle.table.specs.Geometry.{geometry_of}
use Rattle.table.specs.Changes.{change_of}
use Rattle.table.specs.Stores.{runs, after}
use Rattle.table.specs.View.{view, mark_to, marks_to}
use Rattle.table.specs.Copies.{back_by}
use Rattle.layout.specs.Format.{first_entries, format_stores, format_made}
use Rattle.entries.specs.Frames.{frames_in, frames_at, used, frames_fit}
use Rattle.entries.specs.Tally.{item_test}
use Rattle.entries.specs.Sound.{marks_form, phases_of, points_of, states_form, node_sound, nodes_sound, item_sound, items_sound, sound}
use Rattle.entries.specs.Check.{length_of, sizes_of, sound_of, fault_of}
use Rattle.homes.specs.Admission.{plan_admitted, plan_checked, plan_by, admission_of, frame_full, frame_admission}
use Rattle.homes.specs.Places.{place_by}
use Rattle.calls.specs.Transitions.{change_to}
use Rattle.entries.specs.Dirty.{owns_at, owner_of, dirty, dirty_item}
use Rattle.checkpoints.specs.Checkpoint.{common_mark, is_open, open_admission, live_changes, entries_before, commit_change}
use Rattle.homes.specs.Home.{shared_at, shared_item, has_room, place_fits, fits, home_of, dropped_item, current_left}
use Rattle.homes.specs.Home.{arrival_of, drop_stores, arrival_changes, home_stores_by, home_stores}
use Rattle.calls.specs.Read.{serves_at, server_of, fetch_from, read_stores, read_value}
use Rattle.calls.specs.Write.{other_changes, other_stores, own_keep, kept_after, own_changes, write_stores}
use Rattle.homes.specs.Evict.{source_stores, moved_to, evict_stores, place_admission}
use Rattle.checkpoints.specs.Open.{start_admission}
use Rattle.checkpoints.specs.Create.{shares_at, sharer_of, precommit2_stores, create_item, no_partner, create_plan}
use Rattle.checkpoints.specs.Commit.{commit_stores, created_admission}
use Rattle.survivors.specs.Survivors.{lost_by, survivor_count, too_few_with, too_few, largest, largest_number, closing_stores}
use Rattle.recovery.specs.Sides.{copies_on, item_fits, items_fit, bring_back, settled, roll_change, roll_stores}
use Rattle.survivors.specs.Direction.{forward_in}
use Rattle.recovery.specs.Numbering.{holders, number_after, number_change, number_stores, single, holder_of, takes}
use Rattle.recovery.specs.Numbering.{partner_of, partner_changes, partner_from, partner_stores, staged, partners_stores}
use Rattle.recovery.specs.Recover.{followed, survivor_stores, recover_stores, survivors_formed, recover_admission, recover_checked, recover_of}
use Rattle.restore.specs.Call.{plan_of}

-- 3 nodes, 1 item, 2 frames
abbrev pub formatted_table : List ℕ
formatted_table = table_by (replicate 13 0) (record { call = Format 3 1 2; scratch = 4 })

-- write node 2 item 0 value 7; open; create
abbrev pub written : List ℕ
written = 2 ∷ 2 ∷ 0 ∷ 7 ∷ 0 ∷ 4 ∷ 0 ∷ 0 ∷ 0 ∷ 0 ∷ 5 ∷ 0 ∷ 0 ∷ 0 ∷ 0 ∷ []

-- then a commit, cut after so many stores; node 0 is hit in its mark and two words of its entry; a recovery is broken off after 3 stores
abbrev pub script : ℕ → Script
script limit = record {
  calls = written;
  call = Commit;
  limit = limit;
  lost = Some 0;
  words = 5 ∷ 6 ∷ 7 ∷ [];
  limits = 3 ∷ [];
  scratch = 4;
}

pub calls_are :
    whole_calls formatted_table (script 1)
    ≡ (record { call = Write 2 0 7; scratch = 4 } ∷ record { call = Open; scratch = 4 } ∷ record { call = Create; scratch = 4 } ∷ [])
unfolding call_by call_at steps_to
calls_are = refl

-- what the definitions give, by computation
pub record Shown : Type 0 where
  pub formatted : Formatted formatted_table
  -- cut after 1 store and after 2: both are strikes, and 14 does not apply
  pub sooner : Demanded formatted_table (script 1)
  pub later : Demanded formatted_table (script 2)
  pub room_sooner : too_few_left formatted_table (script 1) ≡ false
  pub room_later : too_few_left formatted_table (script 2) ≡ false
  -- "that commit cut after 1 store: lost node 0 gives 0"
  pub saved_sooner :
      saved_in (memory formatted_table formatted (whole_calls formatted_table (script 1))
      (strike formatted_table (script 1) sooner (hit_struck formatted_table (script 1) sooner))) 0 ≡ 0
  -- "cut after 2 stores: lost node 0 gives 7"
  pub saved_later :
      saved_in (memory formatted_table formatted (whole_calls formatted_table (script 2))
      (strike formatted_table (script 2) later (hit_struck formatted_table (script 2) later))) 0 ≡ 7

pub shown : Shown
unfolding every sum count first first_or values_of geometry_of change_of runs after view mark_to marks_to back_by
    first_entries format_stores format_made frames_in frames_at used frames_fit item_test marks_form phases_of points_of
    states_form node_sound nodes_sound item_sound items_sound sound length_of sizes_of sound_of fault_of plan_admitted
    plan_checked plan_by admission_of frame_full frame_admission change_to common_mark is_open open_admission owns_at owner_of
    dirty dirty_item live_changes entries_before commit_change shared_at shared_item has_room place_fits fits
    node_after test_after first_after home_of dropped_item current_left arrival_of drop_stores arrival_changes home_stores_by
    home_stores serves_at server_of fetch_from read_stores read_value other_changes other_stores own_keep kept_after
    own_changes write_stores source_stores moved_to evict_stores place_admission start_admission shares_at sharer_of
    precommit2_stores create_item no_partner create_plan commit_stores created_admission exists survivor_count forward_in
    copies_on item_fits items_fit bring_back settled roll_change roll_stores holders number_after number_change number_stores
    single holder_of takes partner_of partner_changes partner_from partner_stores staged partners_stores
    largest largest_number closing_stores followed survivor_stores recover_stores survivors_formed too_few_with too_few
    recover_admission recover_checked recover_of plan_of run place_by lost_by call_by call_at steps_to node_word_at put_to
    hit_node hit_sized hit_by commits_from memory_from
shown =
    let formatted : Formatted formatted_table =
    record { geometry = record { nodes = 3; items = 1; frames = 2 }; fair = refl; long = omega arith; holds = refl } in
    record {
      formatted = formatted;
      sooner = record { formatted = formatted; cuttable = refl; one = refl; enough = omega arith };
      later = record { formatted = formatted; cuttable = refl; one = refl; enough = omega arith };
      room_sooner = refl;
      room_later = refl;
      saved_sooner = refl;
      saved_later = refl;
    }
