-- `format_words` meets its contract: word 0, marks, entries. Assumes nothing.
use mathlib.Core.Path.{◌∙◌}
use Rattle.table.proofs.Laws.Made.{made_three}
use Rattle.layout.proofs.Laws.Format.{format_then}
use Rattle.layout.proofs.format.format_words.Goals as goal

pub format_nodes-requires : goal.format_nodes-requires
format_nodes-requires c = rw (c.format_marks.ensures.same_geometry ∙ c.store_size.ensures.same_geometry) c.requires

pub returns : goal.returns
returns c =
    let a = c.store_size.ensures in
    let m = c.format_marks.ensures in
    let e = c.format_nodes.ensures in
    let marks = rw a.same_geometry at m.stored in
    let entries = rw (m.same_geometry ∙ a.same_geometry) at e.stored in
    made_three a m e (format_then a.stored marks entries)
