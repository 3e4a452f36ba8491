-- What the code has met of the marks below n: the live ones are one word exactly if they have their form and agree in phase and number.
use Rattle.std.specs.Prelude.{Bool, cond, Option, Some, None, not, ◌&&◌, ◌||◌, ℕ, ◌-◌, ◌^◌, eqb, ltb}
use Rattle.table.specs.Words.{mark_form, phase_of, number_of}
use Rattle.table.specs.View.{View, live}
use Rattle.counting.specs.Values.{Values, values_of}

-- the live marks below n
unfoldable pub marks_of : View → ℕ → Values
marks_of v n = values_of n (live v) v.mark

-- the word that they all are, 0 where there is none; None where two differ
unfoldable pub mark_met : View → ℕ → Option ℕ
mark_met v n = cond (marks_of v n).equal (Some (marks_of v n).first) None

-- of good form, its phase 0 or 1, its number under 2^32 − 1 in phase 1
abbrev pub marks_test : ℕ → Bool
marks_test mark = mark_form mark && (ltb (phase_of mark) 2 && (not (eqb (phase_of mark) 1) || ltb (number_of mark) (2 ^ 32 - 1)))
