-- `span_of` meets its contract: a refusal, or where the entries lie. Assumes nothing.
use Rattle.std.proofs.lemmas.Result.{err_from_is_err_and}
use Rattle.layout.proofs.Laws.Stretch.{span_failed, span_no_node, span_found}
use Rattle.layout.proofs.stretch.span_of.Goals as goal

pub returns-in_err-g : goal.returns-in_err-g
returns-in_err-g c = let p = err_from_is_err_and c.from_residual.result c.from_residual.ensures.1 in rw (p.1, p.2) (span_failed _ _ c.in_err-g.ensures)

pub returns-then-g-node : goal.returns-then-g-node
returns-then-g-node c = span_no_node _ _ c.in_ok-g.ensures c.if-g-node.true

pub returns : goal.returns
returns c = span_found _ _ c.in_ok-g.ensures c.if-g-node.false c.entry_at-start.ensures.at
