-- `format` meets its contract: a refusal, or all its stores. Assumes nothing.
use Rattle.table.proofs.Laws.Answers.{meets_refused, meets_done}
use borrow.Author.Rules.{rules}
use Rattle.layout.proofs.Laws.Format.{format_refused, format_carried, format_nodes}
use Rattle.layout.proofs.format.format.Goals as goal

pub format_words-requires : goal.format_words-requires
format_words-requires c = format_nodes _ _ _ _ c.in-Ok.ensures

pub returns-in-Err : goal.returns-in-Err
returns-in-Err c = meets_refused _ _ (format_refused _ _ _ _ c.in-Err.ensures)

pub returns-in-Ok : goal.returns-in-Ok
returns-in-Ok c =
    let m = meets_done _ (format_carried _ _ _ _ c.in-Ok.ensures) c.format_words.ensures.stored in
    search rules
