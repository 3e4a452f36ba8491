-- The state table: what the current place of a copy becomes, by event.
use Rattle.std.specs.Prelude.{ℕ, ◌%◌, cond, List, [], ◌∷◌, eqb, get_or}
use Rattle.table.specs.declared.changes.Event.{Event}
use Rattle.table.specs.declared.changes.Event.TheVariants.{OtherReads, OtherWrites, Commit, Abandon, RollBack, RollForward}

-- "it moves to the kept place as the Inv-CK of its number"
abbrev pub keep : ℕ
keep = 8

-- "– is never met"
abbrev pub never : ℕ
never = 9

--   other reads, other writes, commit, abandon, roll back, roll forward
abbrev pub changes : List (List ℕ)
changes =
    (0 ∷ 0 ∷ 0 ∷ 0 ∷ 0 ∷ 0 ∷ [])
    ∷ (1 ∷ 0 ∷ 1 ∷ 1 ∷ 0 ∷ 0 ∷ [])
    ∷ (2 ∷ 0 ∷ never ∷ 2 ∷ 0 ∷ 0 ∷ [])
    ∷ (2 ∷ 0 ∷ never ∷ 3 ∷ 0 ∷ 0 ∷ [])
    ∷ (4 ∷ keep ∷ 4 ∷ 4 ∷ 4 ∷ 4 ∷ [])
    ∷ (5 ∷ keep ∷ 5 ∷ 5 ∷ 5 ∷ 5 ∷ [])
    ∷ (never ∷ never ∷ 4 ∷ 2 ∷ 0 ∷ 4 ∷ [])
    ∷ (never ∷ never ∷ 5 ∷ 1 ∷ 0 ∷ 5 ∷ [])
    ∷ []

abbrev pub column_of : Event → ℕ
column_of OtherReads = 0
column_of OtherWrites = 1
column_of Commit = 2
column_of Abandon = 3
column_of RollBack = 4
column_of RollForward = 5

-- a row per state code, a column per event
unfoldable pub change_of : ℕ → Event → ℕ
change_of state event = get_or (get_or changes (state % 8) []) (column_of event) 0

-- the number of a Shared-CK copy, or 0
abbrev pub checkpoint_of : ℕ → ℕ
checkpoint_of current = cond (eqb current 4) 1 (cond (eqb current 5) 2 0)
