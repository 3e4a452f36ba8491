-- A row of fresh entries: the entries of one node, items ascending, all values 0, with a copy at some items. How far the node is ahead of an
-- item's first copy says which: 0 has the first copy, 1 the second, more has none.
use Rattle.std.specs.Prelude.{ℕ, zero, suc, ◌+◌, ◌-◌, cond, List, [], ◌∷◌, map, eqb, ltb}
use Rattle.table.specs.Words.{invalid}
use Rattle.table.specs.Stores.{Change, state_to, value_to, kept_to, Store, entry_store}

-- the distance at the item after: two less, or around the nodes
unfoldable pub next_ahead : ℕ → ℕ → ℕ
next_ahead around ahead = cond (ltb ahead 2) (ahead + around) (ahead - 2)

-- the distance at an item
unfoldable pub ahead_at : ℕ → ℕ → ℕ → ℕ
ahead_at around ahead zero = ahead
ahead_at around ahead (suc b) = next_ahead around (ahead_at around ahead b)

unfoldable pub place_ahead : ℕ → ℕ → ℕ → ℕ
place_ahead first second ahead = cond (eqb ahead 0) first (cond (eqb ahead 1) second invalid)

-- an entry with values 0
abbrev pub fresh_entry : ℕ → List Change
fresh_entry place = state_to place invalid ∷ value_to 0 ∷ kept_to 0 ∷ []

-- the stores of an item in the row of node n, which is n ahead of item 0
abbrev pub row_entry : ℕ → ℕ → ℕ → ℕ → ℕ → List Store
row_entry n first second around b = map (entry_store n b) (fresh_entry (place_ahead first second (ahead_at around n b)))
