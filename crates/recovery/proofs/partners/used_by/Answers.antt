-- `used_by` meets its contract: no survivor, or the frames of its row. Assumes nothing.
use Rattle.table.specs.View.{view}
use Rattle.recovery.proofs.Laws.PartnersCode.{used_live}
use Rattle.recovery.proofs.partners.used_by.Goals as goal

pub returns : goal.returns
returns c = used_live c.args.g c.args.lost (view c.args.g c.args.table.now) _ c.used_in.ensures
