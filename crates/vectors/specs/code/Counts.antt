-- The tally of vectors, whether another one may follow or not.
use Rattle.std.specs.declared.ops.ControlFlow.{ControlFlow}
use Rattle.std.specs.declared.ops.ControlFlow.TheVariants.{Continue, Break}
use Rattle.vectors.specs.declared.run.Tally.{Tally}

abbrev pub tally_of : ControlFlow Tally Tally → Tally
tally_of (Continue next) = next
tally_of (Break last) = last
