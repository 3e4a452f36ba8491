-- `pair` meets its contract: nothing to number, or numbering and then the frames counted anew. Assumes nothing.
use Rattle.recovery.proofs.Laws.PairsCode.{plain_counted, surplus_counted, counted_all, counted_pairs}
use Rattle.recovery.proofs.recover.pair.Goals as goal
use Rattle.recovery.proofs.recover.pair.Goals.{then-plain, else-plain}

pub partner_items-requires : goal.partner_items-requires
partner_items-requires c = elim c.if-plain.branch [
  | then-plain w ↦
      rw (w.stores-is, w.scratch-is) (counted_all (plain_counted c.args.lost c.requires w.if-plain.true w.fill_counted.ensures))
  | else-plain w ↦
      rw (w.stores-is, w.scratch-is) (counted_all (surplus_counted c.args.lost c.requires w.number.ensures w.fill_used.ensures))
]

pub returns : goal.returns
returns c =
    let r = c.partner_items.ensures in
    elim c.if-plain.branch [
      | then-plain w ↦
          counted_pairs (plain_counted c.args.lost c.requires w.if-plain.true w.fill_counted.ensures)
          (rw (w.stores-is, w.scratch-is) at r)
      | else-plain w ↦
          counted_pairs (surplus_counted c.args.lost c.requires w.number.ensures w.fill_used.ensures)
          (rw (w.stores-is, w.scratch-is) at r)
    ]
