-- `record` meets its contract: too few bytes, or the step of the two words. Assumes nothing.
use Rattle.std.proofs.Common.{◌∙◌, arith, length-drop, le_refl}
use Rattle.std.proofs.lemmas.Slice.{between_to_end}
use Rattle.steps.proofs.Laws.Records.{record_short, record_whole}
use Rattle.steps.proofs.records.record.Goals as goal

pub returns-in_err-get : goal.returns-in_err-get
returns-in_err-get c = rw c.from_residual.ensures (record_short _ (rw length-drop (grind (arith, c.in_err-get.ensures.lookup))))

pub returns-in_err-first : goal.returns-in_err-first
returns-in_err-first c =
    let all = c.in_ok-get.ensures.lookup.0.3 in
    let few = c.in_err-first.ensures.cases in
    rw c.from_residual-in_err-first.ensures (record_short _ (rw length-drop (omega arith)))

pub returns-in_err-second : goal.returns-in_err-second
returns-in_err-second c =
    let all = c.in_ok-get.ensures.lookup.0.3 in
    let rest = c.in_ok-first.ensures.cases.2 in
    let few = c.in_err-second.ensures.cases in
    rw c.from_residual-in_err-second.ensures (record_short _ (rw length-drop (omega arith)))

pub returns : goal.returns
returns c =
    let part = c.in_ok-get.ensures.lookup.0.2 ∙ between_to_end c.args.bytes.now c.args.at _ (le_refl _) in
    let front = rw part at c.in_ok-first.ensures.cases in
    let second = c.in_ok-second.ensures.cases in
    record_whole _ front.0 front.1 second.enough second.same (rw (c.from_be_bytes.ensures, c.from_be_bytes-2.ensures) at c.decode.ensures)
