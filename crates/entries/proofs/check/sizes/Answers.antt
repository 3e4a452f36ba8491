-- `sizes` meets its contract: a way of `sizes_of` for each way out. Assumes nothing.
use mathlib.Core.Path.{◌≡◌, sym, ◌∙◌}
use native.Mathlib.Omega.{arith}
use Rattle.std.proofs.lemmas.Result.{err_from_is_err_and}
use Rattle.entries.specs.Check.{made_of}
use Rattle.entries.proofs.Laws.Check.{sizes_empty, sizes_form, sizes_refused, sizes_short, sizes_passed}
use Rattle.entries.proofs.check.sizes.Goals as goal
use Rattle.entries.proofs.check.sizes.Goals.{After-new-made}

made : (c : After-new-made) → c.new-made.result ≡ made_of c.args.table.now
made c = c.new-made.ensures ∙ rw (c.frames_of.ensures, c.items_of.ensures, c.nodes_of.ensures)

pub returns-in_default : goal.returns-in_default
returns-in_default c = sizes_empty _ c.in_default.len_below

pub returns-then-not-size_form : goal.returns-then-not-size_form
returns-then-not-size_form c = sizes_form _ c.in-len1-up.len_at_least (sym c.size_form.ensures ∙ c.if-not-size_form.true)

pub returns-in_err-g : goal.returns-in_err-g
returns-in_err-g c =
    let p = err_from_is_err_and c.from_residual.result c.from_residual.ensures.1 in
    let e = c.in_err-g.ensures in
    let m = made (goal.at.returns-in_err-g c).After-new-made in
    rw (p.1, p.2) (sizes_refused _ c.in-len1-up.len_at_least (sym c.size_form.ensures ∙ c.if-not-size_form.false) m e.ok_part e.value)

pub returns-then-table-words : goal.returns-then-table-words
returns-then-table-words c =
    let m = made (goal.at.returns-then-table-words c).After-new-made in
    sizes_short _ c.in-len1-up.len_at_least (sym c.size_form.ensures ∙ c.if-not-size_form.false) _ (sym m ∙ c.in_ok-g.ensures.ok_part) (omega (arith, c.words.ensures))

pub returns : goal.returns
returns c =
    let m = made (goal.at.returns c).After-new-made in
    sizes_passed _ c.in-len1-up.len_at_least (sym c.size_form.ensures ∙ c.if-not-size_form.false) _ (sym m ∙ c.in_ok-g.ensures.ok_part) (omega (arith, c.words.ensures))
