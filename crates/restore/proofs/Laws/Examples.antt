-- The laws of `specs/Examples.antt`.
use mathlib.Core.Path.{refl}
use Rattle.counting.specs.Counting.{every, sum, count, exists, first, first_or}
use Rattle.counting.specs.Cyclic.{node_after, test_after, first_after}
use Rattle.counting.specs.Values.{values_of}
use Rattle.table.specs.Geometry.{geometry_of}
use Rattle.table.specs.Changes.{change_of}
use Rattle.table.specs.Stores.{runs, after}
use Rattle.table.specs.View.{view, mark_to, marks_to}
use Rattle.table.specs.Copies.{back_by}
use Rattle.layout.specs.Format.{first_entries, format_stores, format_made}
use Rattle.entries.specs.Frames.{frames_in, frames_at, used, frames_fit}
use Rattle.entries.specs.Tally.{item_test}
use Rattle.entries.specs.Sound.{marks_form, phases_of, points_of, states_form, node_sound, nodes_sound, item_sound, items_sound, sound}
use Rattle.entries.specs.Check.{length_of, sizes_of, sound_of, fault_of}
use Rattle.homes.specs.Admission.{plan_admitted, plan_checked, plan_by, admission_of, frame_full, frame_admission}
use Rattle.calls.specs.Transitions.{change_to}
use Rattle.entries.specs.Dirty.{owns_at, owner_of, dirty, dirty_item}
use Rattle.checkpoints.specs.Checkpoint.{common_mark, is_open, open_admission, live_changes, entries_before, commit_change}
use Rattle.homes.specs.Home.{shared_at, shared_item, has_room, place_fits, fits, home_of, dropped_item, current_left}
use Rattle.homes.specs.Home.{arrival_of, drop_stores, arrival_changes, home_stores_by, home_stores}
use Rattle.calls.specs.Read.{serves_at, server_of, fetch_from, read_stores, read_value}
use Rattle.calls.specs.Write.{other_changes, other_stores, own_keep, kept_after, own_changes, write_stores}
use Rattle.homes.specs.Evict.{source_stores, moved_to, evict_stores, place_admission}
use Rattle.checkpoints.specs.Open.{start_admission}
use Rattle.checkpoints.specs.Create.{shares_at, sharer_of, precommit2_stores, create_item, no_partner, create_plan}
use Rattle.checkpoints.specs.Commit.{commit_stores, created_admission}
use Rattle.survivors.specs.Survivors.{survivor_count, too_few_with, too_few, largest, largest_number, closing_stores}
use Rattle.recovery.specs.Sides.{copies_on, item_fits, items_fit, bring_back, settled, roll_change, roll_stores}
use Rattle.survivors.specs.Direction.{forward_in}
use Rattle.recovery.specs.Numbering.{holders, number_after, number_change, number_stores, single, holder_of, takes}
use Rattle.recovery.specs.Numbering.{partner_of, partner_changes, partner_from, partner_stores, staged, partners_stores}
use Rattle.recovery.specs.Recover.{followed, survivor_stores, recover_stores, survivors_formed, recover_admission, recover_checked, recover_of}
use Rattle.restore.specs.Call.{plan_of}
use Rattle.restore.specs.Run.{run}
use Rattle.restore.specs.Examples.{examples, Given}

-- ---- the proof, by computation

pub examples_given : Given examples
unfolding every sum count first first_or values_of geometry_of change_of runs after view mark_to marks_to back_by
    first_entries format_stores format_made frames_in frames_at used frames_fit item_test marks_form phases_of points_of
    states_form node_sound nodes_sound item_sound items_sound sound length_of sizes_of sound_of fault_of plan_admitted
    plan_checked plan_by admission_of frame_full frame_admission change_to common_mark is_open open_admission owns_at owner_of
    dirty dirty_item live_changes entries_before commit_change shared_at shared_item has_room place_fits fits
    node_after test_after first_after home_of dropped_item current_left arrival_of drop_stores arrival_changes home_stores_by
    home_stores serves_at server_of fetch_from read_stores read_value other_changes other_stores own_keep kept_after
    own_changes write_stores source_stores moved_to evict_stores place_admission start_admission shares_at sharer_of
    precommit2_stores create_item no_partner create_plan commit_stores created_admission exists survivor_count forward_in
    copies_on item_fits items_fit bring_back settled roll_change roll_stores holders number_after number_change number_stores
    single holder_of takes partner_of partner_changes partner_from partner_stores staged partners_stores largest
    largest_number closing_stores followed survivor_stores recover_stores survivors_formed too_few_with too_few
    recover_admission recover_checked recover_of plan_of run Given
examples_given = (refl, (refl, (refl, (refl, (refl, (refl, (refl, (refl, (refl, (refl, (refl, (refl, (refl, (refl, (refl, (refl, (refl, (refl, (refl, (refl, (refl, (refl, (refl, (refl, (refl, (refl, (refl, (refl, (refl, (refl, (refl, (refl, (refl, (refl, (refl, (refl, (refl, tt)))))))))))))))))))))))))))))))))))))
