-- `weight` meets its contract: the table has the definition at each of the 64 values. Assumes nothing.
use Rattle.std.proofs.Common.{arith}
use Rattle.std.proofs.lemmas.List.FromFn.{get_or-map-range_with_len}
use Rattle.entries.specs.code.Survey.{codes_form, holds, holds_at, keeps_at, frames_by, weight_of}
use Rattle.entries.proofs.survey.weight.Goals as goal

pub returns : goal.returns
unfolding weight_of codes_form holds holds_at keeps_at frames_by
returns c = get_or-map-range_with_len weight_of 0 64 c.args.top c.args.top 0 c.requires (omega arith)
