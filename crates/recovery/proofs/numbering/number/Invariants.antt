use Rattle.table.specs.Made.{Made, shown}
use Rattle.survivors.specs.Survivors.{survivors}
use Rattle.recovery.proofs.Laws.NumberingCode.{numbers_before}
use Rattle.recovery.proofs.numbering.number.Given as goal

abbrev pub invariant-loop-item : goal.invariant-loop-item
invariant-loop-item l =
    let s = l.initial.stores in
    Made s (numbers_before s.g (survivors l.lost (shown s)) l.item) l.stores
