-- The words of the table: "Fields are packed most significant bit first; unused bits are zero."
use Rattle.std.specs.Prelude.{ℕ, ◌+◌, ◌*◌, ◌/◌, ◌%◌, ◌^◌, Bool, ◌&&◌, ◌||◌, ltb, eqb}

-- "Current: 0 Invalid, 1 Shared, 2 Owner (nonexclusive), 3 Modified (exclusive), 4 Shared-CK1, 5 Shared-CK2, 6 Precommit1, 7 Precommit2."
abbrev pub invalid : ℕ
invalid = 0

abbrev pub shared : ℕ
shared = 1

abbrev pub owner : ℕ
owner = 2

abbrev pub modified : ℕ
modified = 3

abbrev pub shared_ck1 : ℕ
shared_ck1 = 4

abbrev pub shared_ck2 : ℕ
shared_ck2 = 5

abbrev pub precommit1 : ℕ
precommit1 = 6

abbrev pub precommit2 : ℕ
precommit2 = 7

-- the Shared-CK of a number
abbrev pub shared_ck : ℕ → ℕ
shared_ck number = 3 + number

-- "Kept: 0 Invalid, 1 Inv-CK1, 2 Inv-CK2."
abbrev pub inv_ck1 : ℕ
inv_ck1 = 1

abbrev pub inv_ck2 : ℕ
inv_ck2 = 2

-- ---- state words

-- "A state word is 4 bits for the current place and 2 for the kept place."
abbrev pub state_word : ℕ → ℕ → ℕ
state_word current kept = current % 16 * 2 ^ 60 + kept % 4 * 2 ^ 58

abbrev pub current_of : ℕ → ℕ
current_of w = w / 2 ^ 60

abbrev pub kept_of : ℕ → ℕ
kept_of w = w / 2 ^ 58 % 4

-- "Other codes are bad form, as is Shared-CK beside Inv-CK in one entry."
abbrev pub state_form : ℕ → Bool
state_form w =
    eqb (w % 2 ^ 58) 0
    && (ltb (current_of w) 8 && (ltb (kept_of w) 3 && (eqb (kept_of w) 0 || (ltb (current_of w) 4 || ltb 5 (current_of w)))))

-- ---- marks

-- "a mark per node: live 1 bit, phase 2 bits (0 running, 1 creating, 2 committing), point number 32 bits": the mark of a live node
abbrev pub mark_word : ℕ → ℕ → ℕ
mark_word phase number = 2 ^ 63 + phase % 4 * 2 ^ 61 + number % 2 ^ 32 * 2 ^ 29

abbrev pub live_of : ℕ → ℕ
live_of w = w / 2 ^ 63

abbrev pub phase_of : ℕ → ℕ
phase_of w = w / 2 ^ 61 % 4

abbrev pub number_of : ℕ → ℕ
number_of w = w / 2 ^ 29 % 2 ^ 32

-- "A mark has its live bit set and phase 0, 1 or 2, or is all zero"
abbrev pub mark_form : ℕ → Bool
mark_form w = eqb w 0 || (eqb (live_of w) 1 && (ltb (phase_of w) 3 && eqb (w % 2 ^ 29) 0))

-- ---- word 0

-- "Word 0, outside every node: 4 zero bits, N in 5, M in 9, F in 10."
abbrev pub size_word : ℕ → ℕ → ℕ → ℕ
size_word nodes items frames = nodes % 2 ^ 5 * 2 ^ 55 + items % 2 ^ 9 * 2 ^ 46 + frames % 2 ^ 10 * 2 ^ 36

abbrev pub nodes_of : ℕ → ℕ
nodes_of w = w / 2 ^ 55 % 2 ^ 5

abbrev pub items_of : ℕ → ℕ
items_of w = w / 2 ^ 46 % 2 ^ 9

abbrev pub frames_of : ℕ → ℕ
frames_of w = w / 2 ^ 36 % 2 ^ 10

abbrev pub size_form : ℕ → Bool
size_form w = eqb (w / 2 ^ 60) 0 && eqb (w % 2 ^ 36) 0
