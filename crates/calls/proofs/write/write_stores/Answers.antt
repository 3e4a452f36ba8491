-- `write_stores` meets its contract: the others, then the writer's own entry. Assumes nothing.
use Rattle.table.proofs.Laws.Made.{made_more}
use Rattle.calls.proofs.Laws.WriteCode.{write_then}
use Rattle.calls.proofs.write.write_stores.Goals as goal

pub returns : goal.returns
returns c =
    let p = c.requires in
    let a = c.other_nodes.ensures in
    let b = c.own_entry.ensures in
    made_more a b (write_then _ _ _ _ p.0 p.1 a.stored (rw a.same_geometry at b.stored))
