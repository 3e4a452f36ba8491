-- `way_admitted` meets its contract: 10, dropped, 11, or home. Assumes nothing.
use Rattle.homes.proofs.Laws.EvictCode.{way_invalid, way_drops, way_none, way_goes}
use Rattle.homes.proofs.evict.way_admitted.Goals as goal

pub returns-then-code-eq-INVALID : goal.returns-then-code-eq-INVALID
returns-then-code-eq-INVALID c =
    way_invalid _ _ _ _ _ c.state_at-state.ensures c.code_of-code.ensures c.if-code-eq-INVALID.true

pub returns-then-shared : goal.returns-then-shared
returns-then-shared c =
    way_drops _ _ _ _ _ c.state_at-state.ensures c.code_of-code.ensures c.if-code-eq-INVALID.false
    c.shared_in-shared.ensures c.if-shared.true

pub returns-then-home-node : goal.returns-then-home-node
returns-then-home-node c =
    way_none _ _ _ _ _ c.state_at-state.ensures c.code_of-code.ensures
    c.if-code-eq-INVALID.false c.shared_in-shared.ensures
    c.if-shared.false c.home_of-home.ensures c.if-home-node.true

pub returns : goal.returns
returns c =
    way_goes _ _ _ _ _ c.state_at-state.ensures c.code_of-code.ensures
    c.if-code-eq-INVALID.false c.shared_in-shared.ensures
    c.if-shared.false c.home_of-home.ensures c.if-home-node.false
