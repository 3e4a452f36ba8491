-- The side that a recovery takes: "Roll forward if a survivor has phase 2, else roll back".
use Rattle.std.specs.Prelude.{ℕ, Bool, true, false, cond, not, ◌&&◌, eqb, List, [], ◌∷◌, ◌++◌}
use Rattle.counting.specs.Counting.{every}
use Rattle.counting.specs.Values.{Values, values_of}
use Rattle.table.specs.declared.geometry.Geometry.{Geometry}
use Rattle.table.specs.declared.changes.Event.{Event}
use Rattle.table.specs.declared.changes.Event.TheVariants.{RollBack, RollForward}
use Rattle.table.specs.View.{Entry, View, live, current, kept}
use Rattle.table.specs.Copies.{Copy, back_copy, copy_number, copy_value, forward_copy}
use Rattle.survivors.specs.Direction.{forward_in}
use Rattle.table.specs.Words.{invalid, shared_ck}
use Rattle.table.specs.Changes.{change_of}
use Rattle.table.specs.Stores.{Store, Change, state_to, value_to}
use Rattle.checkpoints.specs.Checkpoint.{entries_to}

-- the column of the state table
abbrev pub side_event : Bool → Event
side_event true = RollForward
side_event false = RollBack

-- the recovery copy of an entry on a side
abbrev pub copy_on : Bool → Entry → Copy
copy_on forward e = cond forward (forward_copy e) (back_copy e)

-- node n is live and has a recovery copy of item b on a side
abbrev pub has_copy : Bool → View → ℕ → ℕ → Bool
has_copy forward w b n = live w n && not (eqb (copy_number (copy_on forward (w.entry n b))) 0)

-- the recovery copies of an item among the survivors
unfoldable pub copies_on : Geometry → Bool → View → ℕ → Values
copies_on g forward w b = values_of g.nodes (has_copy forward w b) (λ n. copy_value (copy_on forward (w.entry n b)))

-- 15: "an item without a recovery copy on the chosen side, or two that differ"
unfoldable pub item_fits : Geometry → Bool → View → ℕ → Bool
item_fits g forward w b = (copies_on g forward w b).seen && (copies_on g forward w b).equal

unfoldable pub items_fit : Geometry → View → Bool
items_fit g w = every (item_fits g (forward_in g w) w) g.items

-- ---- "Roll forward .., else roll back, by node, then item. Rolling back an Inv-CK: state with current Invalid if it was not; current value; state. Other
-- entries: one state store where it changes."

-- "Rolling back an Inv-CK: state with current Invalid if it was not; current value; state."
unfoldable pub bring_back : Entry → List Change
bring_back e =
    cond (eqb (current e) invalid) [] (state_to invalid (kept e) ∷ [])
    ++ (value_to e.kept_value ∷ state_to (shared_ck (kept e)) invalid ∷ [])

-- "one state store where it changes": to this code, with nothing kept
unfoldable pub settled : ℕ → Entry → List Change
settled next e = cond (eqb next (current e) && eqb (kept e) invalid) [] (state_to next invalid ∷ [])

unfoldable pub roll_change : Bool → Entry → List Change
roll_change forward e =
    cond (not forward && not (eqb (kept e) invalid)) (bring_back e) (settled (change_of (current e) (side_event forward)) e)

-- "by node, then item"
unfoldable pub roll_stores : Geometry → View → List Store
roll_stores g w = entries_to g w (roll_change (forward_in g w))
