-- `read_admitted` meets its contract: its own copy, or one fetched. Assumes nothing.
use borrow.Author.Rules.{rules}
use Rattle.calls.proofs.Laws.ReadCode.{read_here, read_fetched}
use Rattle.calls.proofs.read.read_admitted.Goals as goal

pub returns-then-current-ne-INVALID : goal.returns-then-current-ne-INVALID
returns-then-current-ne-INVALID c =
    read_here _ _ _ _ c.state_at-state.ensures c.current_of-current.ensures c.if-current-ne-INVALID.true
    c.value_at-value.ensures

pub returns : goal.returns
returns c =
    let s = c.state_at-state.ensures in
    let r = c.current_of-current.ensures in
    let h = c.first_holder-server.ensures in
    let m = read_fetched _ _ _ _ s r c.if-current-ne-INVALID.false h c.value_at-value-2.ensures c.fetch.ensures.stored in
    search rules
