-- `bring_back` meets its contract: state, value and state, as `bring_back` lists them. Assumes nothing.
use mathlib.Core.Path.{◌∙◌}
use Rattle.table.proofs.Laws.Made.{made_three, stored_in, stored_next}
use Rattle.recovery.proofs.Laws.RollingCode.{back_all}
use Rattle.recovery.proofs.rolling.bring_back.Goals as goal

pub returns : goal.returns
returns c =
    let a = c.clear_current.ensures in
    let b = c.store_value.ensures in
    let d = c.store_state.ensures in
    made_three a b d
    (back_all _ _ _ c.requires c.current_of-current.ensures c.kept_of-kept.ensures c.kept_value-value.ensures
    c.shared_ck-code.ensures a.stored (stored_next a b) (stored_in (b.same_geometry ∙ a.same_geometry) d))
