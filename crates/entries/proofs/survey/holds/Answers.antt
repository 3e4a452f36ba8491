-- `holds` meets its contract: the constant has the definition at each of the 64 values. Assumes nothing.
use Rattle.std.proofs.Common.{◌∙◌}
use Rattle.entries.proofs.Laws.SurveyFields.{held_bit}
use Rattle.entries.proofs.survey.holds.Goals as goal

pub returns : goal.returns
returns c = c.bit_at.ensures ∙ held_bit c.args.top c.requires
