-- `row_sound` meets its contract: a dead node, or the row of a live one. Assumes nothing.
use Rattle.entries.proofs.Laws.SurveySound.{row_dead, row_ready, row_frames_lem, row_live}
use Rattle.entries.proofs.survey.row_sound.Goals as goal

pub returns-then-mark-eq0 : goal.returns-then-mark-eq0
returns-then-mark-eq0 c = row_dead c.requires c.mark_at-mark.ensures c.if-mark-eq0.true

pub note_row-turn-requires : goal.note_row-turn-requires
note_row-turn-requires c = row_ready c.requires c.mark_at-mark.ensures c.if-mark-eq0.false

pub node_fits-requires : goal.node_fits-requires
node_fits-requires c = row_frames_lem c.requires c.mark_at-mark.ensures c.if-mark-eq0.false c.note_row-turn.ensures

pub returns : goal.returns
returns c = row_live c.requires c.mark_at-mark.ensures c.if-mark-eq0.false c.note_row-turn.ensures c.node_fits.ensures
