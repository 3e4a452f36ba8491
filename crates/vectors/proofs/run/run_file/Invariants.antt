-- `run_file` is safe: a vector counts at most one.
use Rattle.std.proofs.Common.{◌≤◌}
use Rattle.vectors.proofs.run.run_file.Given as goal

abbrev pub invariant-loop : goal.invariant-loop
invariant-loop g l = (l.tally.vectors ≤ l.counter) × (l.tally.different ≤ l.counter)
