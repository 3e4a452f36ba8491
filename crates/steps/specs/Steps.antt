-- What the two words of a record ask for.
use Rattle.std.specs.Prelude.{ℕ, ◌+◌, ◌*◌, ◌/◌, ◌%◌, ◌^◌, Bool, cond, ◌&&◌, ◌||◌, List, length, ◌==◌, nat_lt, slice_index, None, Option}
use Rattle.table.specs.Words.{size_form, nodes_of, items_of, frames_of}
use Rattle.restore.specs.declared.call.Call.{Call}
use Rattle.restore.specs.Operations.{call_by}

-- "First word: operation 4 bits, node 4, item 8, place 1"; "Fields are packed most significant bit first"
abbrev pub operation_of : ℕ → ℕ
operation_of first = first / 2 ^ 60

abbrev pub node_of : ℕ → ℕ
node_of first = first / 2 ^ 56 % 2 ^ 4

abbrev pub item_of : ℕ → ℕ
item_of first = first / 2 ^ 48 % 2 ^ 8

abbrev pub place_of : ℕ → ℕ
place_of first = first / 2 ^ 47 % 2

-- "the bits after the last field"
abbrev pub rest_of : ℕ → ℕ
rest_of first = first % 2 ^ 47

-- "A field not used is zero": node n, item b, place p and value x of an operation. "1 read" uses a node and an item,
-- "2 write" a node, an item and a value, "3 evict" a node, an item and a place, "8 recover" a node and a place, where
-- "a Recover of none does not use the node"; "4 open, 5 create, 6 commit, 7 abandon" use none.
unfoldable pub unused_zero : ℕ → ℕ → ℕ → ℕ → ℕ → Bool
unused_zero operation n b p x =
    cond (operation == 1) (p == 0 && x == 0)
    (cond (operation == 2) (p == 0)
    (cond (operation == 3) (x == 0)
    (cond (operation == 8) (b == 0 && (x == 0 && (p == 0 || n == 0)))
    (n == 0 && (b == 0 && (p == 0 && x == 0))))))

-- "0 format (its first word has the layout of the table's word 0, its second is zero)"
unfoldable pub format_step : ℕ → ℕ → Option Call
format_step first second =
    cond (size_form first && second == 0) (call_by 0 (nodes_of first) (items_of first) (frames_of first) 0) None

-- "A field not used is zero, as are the bits after the last field"; "any other operation .. gives answer 18"
unfoldable pub call_step : ℕ → ℕ → Option Call
call_step first second =
    cond
    (rest_of first == 0 && unused_zero (operation_of first) (node_of first) (item_of first) (place_of first) second)
    (call_by (operation_of first) (node_of first) (item_of first) second (place_of first))
    None

unfoldable pub step_of : ℕ → ℕ → Option Call
step_of first second = cond (operation_of first == 0) (format_step first second) (call_step first second)

-- ---- what the bytes of a record ask for

-- "big-endian": the word of the eight bytes from a place
abbrev pub word_at : List ℕ → ℕ → ℕ
word_at b at =
    slice_index b at * 2 ^ 56
    + slice_index b (at + 1) * 2 ^ 48
    + slice_index b (at + 2) * 2 ^ 40
    + slice_index b (at + 3) * 2 ^ 32
    + slice_index b (at + 4) * 2 ^ 24
    + slice_index b (at + 5) * 2 ^ 16
    + slice_index b (at + 6) * 2 ^ 8
    + slice_index b (at + 7)

-- "16 bytes a record": the step of the first 16 bytes; of fewer, ".. or a cut-off last record gives answer 18"
unfoldable pub record_of : List ℕ → Option Call
record_of bytes = cond (nat_lt (length bytes) 16) None (step_of (word_at bytes 0) (word_at bytes 8))
