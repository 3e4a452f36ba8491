-- `note_row` meets its contract: the items up to the last entry met are noted. Assumes nothing.
use Prim.Native.Nat.{ℕ, ◌+◌}
use mathlib.Core.Path.{refl}
use native.Mathlib.Omega.{arith}
use lib.ListN.{get_or}
use Rattle.entries.proofs.Laws.SurveyNoting.{Turning, row_asks, row_set, row_starts, row_turns, row_ends, turn_fits, turn_asks, turn_frames, turn_noted}
use Rattle.entries.proofs.survey.note_row.Goals as goal
use Rattle.entries.proofs.survey.note_row.Goals.{In-loop-offset}

-- the item of the turn
turning :
    (c : In-loop-offset) → let a = c.args in let o = c.loop-offset in
    (b : ℕ) × Turning a.g a.table.now a.node c.entry_at-start.result (get_or c.occupied-offset-items.result.now o.offset-index 0) o.offset-index o.notes o.frames o.differ b
turning c = row_turns (row_set c.requires c.entry_at-start.ensures c.occupied-offset-items.ensures) c.loop-offset.invariant.1 c.loop-offset-test.true refl

pub occupied-offset-items-requires : goal.occupied-offset-items-requires
occupied-offset-items-requires c = row_asks c.requires c.entry_at-start.ensures

pub loop-offset-init : goal.loop-offset-init
loop-offset-init c = (0, row_starts (row_set c.requires c.entry_at-start.ensures c.occupied-offset-items.ensures))

pub overflow_add-start : goal.overflow_add-start
overflow_add-start c =
    record { fits = turn_fits (row_set c.requires c.entry_at-start.ensures c.occupied-offset-items.ensures) (turning (goal.at.overflow_add-start c).In-loop-offset).1 }

pub note_entry-turn-requires : goal.note_entry-turn-requires
note_entry-turn-requires c =
    turn_asks (row_set c.requires c.entry_at-start.ensures c.occupied-offset-items.ensures) (turning (goal.at.note_entry-turn-requires c).In-loop-offset).1 (λ i. omega (arith, c.type_inv.table i))

pub overflow_add-frames : goal.overflow_add-frames
overflow_add-frames c =
    record { fits = turn_frames (row_set c.requires c.entry_at-start.ensures c.occupied-offset-items.ensures) (turning (goal.at.overflow_add-frames c).In-loop-offset).1 (λ i. omega (arith, c.type_inv.table i)) c.note_entry-turn.ensures }

pub loop-offset-preserved : goal.loop-offset-preserved
loop-offset-preserved c =
    let b = turning (goal.at.loop-offset-preserved c).In-loop-offset in
    (b.0 + 1, turn_noted (row_set c.requires c.entry_at-start.ensures c.occupied-offset-items.ensures) b.1 (λ i. omega (arith, c.type_inv.table i)) c.note_entry-turn.ensures)

pub returns : goal.returns
returns c = row_ends (row_set c.requires c.entry_at-start.ensures c.occupied-offset-items.ensures) c.loop-offset.invariant.1 c.loop-offset-test.false
