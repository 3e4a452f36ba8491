-- The tally of an item: how many survivors hold it as Shared-CK1, 1024 times how many as Shared-CK2, and 2^20 times the holders' node numbers, those of
-- Shared-CK2 times 1024. An item with at most one holder of each number, with nothing kept, has no copy that numbering changes; of a single copy the tally
-- tells the holder.
use Rattle.std.specs.Prelude.{ℕ, ◌+◌, ◌*◌, ◌/◌, ◌%◌, ◌^◌, ◌<◌, ◌≡◌, Bool, ◌&&◌, List, ltb, get_or}
use Rattle.counting.specs.Counting.{one, sum, count}
use Rattle.table.specs.declared.geometry.Geometry.{Geometry}
use Rattle.table.specs.Words.{shared_ck1, shared_ck2}
use Rattle.table.specs.View.{View}
use Rattle.entries.specs.Tally.{has}

-- what a recovery copy of this number adds to its item's tally: 1 for the first, 1024 for the second
abbrev pub number_weight : ℕ → ℕ
number_weight k = k % 2 + 1024 * (k / 2 % 2)

-- what node n's copies are taken times, so that the tally of a single copy tells its holder
abbrev pub step_of : ℕ → ℕ
step_of n = 1 + 2 ^ 20 * n

-- the digits of node n's copy
abbrev pub copy_weight : View → ℕ → ℕ → ℕ
copy_weight w b n = one (has w b shared_ck1 n) + 1024 * one (has w b shared_ck2 n)

unfoldable pub nodes_of : Geometry → View → ℕ → ℕ
nodes_of g w b = sum (λ n. copy_weight w b n * n) g.nodes

unfoldable pub tally_of : Geometry → View → ℕ → ℕ
tally_of g w b = count (has w b shared_ck1) g.nodes + 1024 * count (has w b shared_ck2) g.nodes + 2 ^ 20 * nodes_of g w b

-- a tally for each item
abbrev pub Tallied : Geometry → View → List ℕ → Type 0
Tallied g w s = (b : ℕ) → b < g.items → get_or s b 0 ≡ tally_of g w b

-- by its tally an item has at most one holder of each number
abbrev pub plain : ℕ → Bool
plain tally = ltb (tally % 1024) 2 && ltb (tally / 1024 % 1024) 2

-- how many hold it, by its tally, and the holder of a single copy
abbrev pub holders_by : ℕ → ℕ
holders_by tally = tally % 1024 + tally / 1024 % 1024

abbrev pub holder_by : ℕ → ℕ
holder_by tally = tally / 2 ^ 20 % 1024 + tally / 2 ^ 30
