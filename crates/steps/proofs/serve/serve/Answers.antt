-- `serve` meets its contract: a call, or a malformed record. Assumes nothing.
use Rattle.steps.proofs.Laws.Serving.{step_served, malformed_served}
use Rattle.steps.proofs.serve.serve.Goals as goal

pub returns-in-Some : goal.returns-in-Some
returns-in-Some c = search step_served

pub returns-in-None : goal.returns-in-None
returns-in-None c = search malformed_served
