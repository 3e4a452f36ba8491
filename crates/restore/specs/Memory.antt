-- The plain memory: M values and M saved ones. It is fed calls, their arguments and whether each was refused; nothing of a table.
use Rattle.std.specs.Prelude.{ℕ, Bool, true, false, List, get_or, set, replicate}
use Rattle.restore.specs.declared.call.Call.{Call}
use Rattle.restore.specs.declared.call.Call.TheVariants.{Format, Check, Stretch, Read, Write, Evict, Open, Create, Commit, Abandon, Recover}

pub record Memory : Type 0 where
  pub values : List ℕ
  pub saved : List ℕ

-- "Its state is M values and M saved ones, all 0 on a formatted table."
abbrev pub zeros : ℕ → Memory
zeros m = record { values = replicate m 0; saved = replicate m 0 }

-- a call that was not refused: "Format makes all 0, with M as asked. Read answers the item's value; Write sets it. Commit copies the values to the
-- saved ones, Recover the saved ones to the values. Any other call .. changes nothing."
abbrev pub carried : Call → Memory → Memory
carried (Format n m f) memory = zeros m
carried Check memory = memory
carried (Stretch n) memory = memory
carried (Read n b) memory = memory
carried (Write n b x) memory = record { values = set memory.values b x; saved = memory.saved }
carried (Evict n b place) memory = memory
carried Open memory = memory
carried Create memory = memory
carried Commit memory = record { values = memory.values; saved = memory.values }
carried Abandon memory = memory
carried (Recover lost) memory = record { values = memory.saved; saved = memory.saved }

-- a call and whether it was refused: "a refused one, changes nothing"
abbrev pub fed : Call → Bool → Memory → Memory
fed call true memory = memory
fed call false memory = carried call memory

-- "Read answers the item's value"
abbrev pub value_of : Memory → ℕ → ℕ
value_of memory b = get_or memory.values b 0

abbrev pub saved_in : Memory → ℕ → ℕ
saved_in memory b = get_or memory.saved b 0
