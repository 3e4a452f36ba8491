-- `serve_call` meets its contract: the call that is lent the table or an empty one. Assumes nothing.
use Rattle.steps.proofs.Laws.Serving.{call_served}
use Rattle.steps.proofs.serve.serve_call.Goals as goal

pub returns : goal.returns
returns c = search call_served
