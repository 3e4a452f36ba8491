-- `put_field` meets its contract: the digits, and the byte after them. Assumes nothing.
use Rattle.std.proofs.Common.{arith, rules}
use Rattle.steps.proofs.Laws.Lines.{few_digits, field_put}
use Rattle.steps.proofs.lines.put_field.Goals as goal

pub put-to-requires : goal.put-to-requires
put-to-requires c =
    let d = c.decimal-k.ensures in
    let few = few_digits c.args.n _ (search rules) d.len in
    omega (arith, d.in_bounds.0, d.in_bounds.1)

pub bounds-out-to : goal.bounds-out-to
bounds-out-to c =
    let d = c.decimal-k.ensures in
    let few = few_digits c.args.n _ (search rules) d.len in
    omega (arith, d.in_bounds.0, d.in_bounds.1, c.put-to.ensures.end, c.put-to.ensures.size)

pub overflow_add-result : goal.overflow_add-result
overflow_add-result c =
    let d = c.decimal-k.ensures in
    let few = few_digits c.args.n _ (search rules) d.len in
    omega (arith, d.in_bounds.0, d.in_bounds.1, c.put-to.ensures.end)

pub returns-clause-put_at : goal.returns-clause-put_at
returns-clause-put_at c =
    let d = c.decimal-k.ensures in
    let few = few_digits c.args.n _ (search rules) d.len in
    field_put _ _ _ d.len few d.digits c.put-to.ensures (bounds-out-to c)

pub returns-clause-upper_bound : goal.returns-clause-upper_bound
returns-clause-upper_bound c =
    let d = c.decimal-k.ensures in
    let few = few_digits c.args.n _ (search rules) d.len in
    omega (arith, d.in_bounds.0, d.in_bounds.1, c.put-to.ensures.end)
