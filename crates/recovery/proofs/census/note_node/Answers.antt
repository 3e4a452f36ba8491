-- `note_node` meets its contract: no survivor, or one whose row is noted. Assumes nothing.
use Rattle.table.specs.View.{view}
use Rattle.recovery.proofs.Laws.CensusLaws.{row_ready, node_noted_dead, node_noted_live}
use borrow.Author.Rules.{rules}
use Rattle.recovery.proofs.census.note_node.Goals as goal

pub returns-then-mark-eq0 : goal.returns-then-mark-eq0
returns-then-mark-eq0 c = node_noted_dead _ c.args.forward c.args.lost (view c.args.g c.args.table.now) _ c.survivor_mark-mark.ensures c.mark_form-form.ensures c.requires c.if-mark-eq0.true

pub note_row-turn-requires : goal.note_row-turn-requires
note_row-turn-requires c = row_ready _ _ _ _ (search rules) c.requires

pub returns : goal.returns
returns c = node_noted_live _ c.args.forward c.args.lost (view c.args.g c.args.table.now) _ c.survivor_mark-mark.ensures c.mark_form-form.ensures c.requires c.if-mark-eq0.false c.note_row-turn.ensures c.set_frames-frames.ensures
