-- `note_entry` meets its contract. Assumes nothing.
use Prim.Native.Nat.{◌+◌, ◌/◌, ◌^◌, ◌<◌}
use native.Mathlib.Omega.{arith}
use lib.ListN.{get_or, length-set}
use Rattle.entries.proofs.Laws.SurveyNoting.{entry_noted, met_held, met_kept}
use Rattle.entries.proofs.survey.note_entry.Goals as goal

pub weight-weight-requires : goal.weight-weight-requires
weight-weight-requires c = omega (arith, c.type_inv.table c.args.at)

pub bounds-notes-j-5 : goal.bounds-notes-j-5
bounds-notes-j-5 c =
    let a = c.args in
    omega (arith, length-set a.notes.now a.j (get_or a.notes.now a.j 0 + c.weight-weight.result))

pub returns : goal.returns
returns c =
    let w = c.weight-weight in
    let small : get_or c.args.table.now c.args.at 0 / 2 ^ 58 < 64 = omega (arith, c.type_inv.table c.args.at) in
    let met = met_held _ _ small w.ensures c.either-met.ensures c.holds.ensures in
    let kept = met_kept _ _ small w.ensures c.either-kept_met.ensures c.keeps.ensures in
    entry_noted _ _ _ _ _ w.ensures c.either-first.ensures c.either-kept_first.ensures met kept
