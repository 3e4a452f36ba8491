use Rattle.table.specs.Made.{Made, shown}
use Rattle.table.specs.View.{pass}
use Rattle.survivors.specs.Survivors.{survivors}
use Rattle.recovery.specs.Numbering.{number_change}
use Rattle.recovery.specs.code.NumberingCode.{HoldersTo}
use Rattle.recovery.proofs.numbering.number_item.Given as goal

abbrev pub invariant-loop-node : goal.invariant-loop-node
invariant-loop-node l =
    let s = l.initial.stores in
    let w = survivors l.lost (shown s) in
    Made s (pass (λ d. d) (λ d. l.item) (λ d. number_change s.g w d l.item) l.node) l.stores
    × HoldersTo w l.item l.node l.lower
