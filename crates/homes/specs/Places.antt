-- The two places of an entry: a current copy or a kept one.
use Rattle.std.specs.Prelude.{ℕ, Bool, false, cond, eqb}
use Rattle.table.specs.Words.{current_of, kept_of, shared}
use Rattle.table.specs.View.{Entry}
use Rattle.homes.specs.declared.places.Place.{Place}
use Rattle.homes.specs.declared.places.Place.TheVariants.{Current, Kept}

-- the place that a number names: "0 current, 1 kept". Who takes no third number says so before.
unfoldable pub place_by : ℕ → Place
place_by number = cond (eqb number 0) Current Kept

-- the state code there, by the state word
abbrev pub code_of : Place → ℕ → ℕ
code_of Current w = current_of w
code_of Kept w = kept_of w

-- whether the copy there is Shared: only a current copy is
abbrev pub shared_in : Place → ℕ → Bool
shared_in Current w = eqb (current_of w) shared
shared_in Kept w = false

abbrev pub code_in : Place → Entry → ℕ
code_in place e = code_of place e.state

abbrev pub value_in : Place → Entry → ℕ
value_in Current e = e.value
value_in Kept e = e.kept_value
