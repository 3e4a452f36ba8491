-- A store writes one word of the table. A call is described by the list of its stores, and cut by a limit.
use Rattle.std.specs.Prelude.{ℕ, zero, suc, ◌+◌, ◌-◌, ◌≡◌, List, [], ◌∷◌, ◌++◌, length, set}
use Rattle.table.specs.declared.geometry.Geometry.{Geometry}
use Rattle.table.specs.Words.{state_word, size_word}
use Rattle.table.specs.Geometry.{mark_at, entry_at}

-- what is stored in an entry: "state word, current value, kept value"
pub data Change : Type 0 where
  state_to : ℕ → ℕ → Change
  value_to : ℕ → Change
  kept_to : ℕ → Change

-- word 0 of a geometry, a mark of a node, or a change of a node's entry of an item
pub data Store : Type 0 where
  size_store : Geometry → Store
  mark_store : ℕ → ℕ → Store
  entry_store : ℕ → ℕ → Change → Store

-- ---- the encoding: which word, and what is written

abbrev pub part_of : Change → ℕ
part_of (state_to c k) = 0
part_of (value_to x) = 1
part_of (kept_to x) = 2

abbrev pub change_word : Change → ℕ
change_word (state_to c k) = state_word c k
change_word (value_to x) = x
change_word (kept_to x) = x

abbrev pub address_of : Geometry → Store → ℕ
address_of g (size_store h) = 0
address_of g (mark_store n w) = mark_at n
address_of g (entry_store n b c) = entry_at g n b + part_of c

abbrev pub word_of : Store → ℕ
word_of (size_store h) = size_word h.nodes h.items h.frames
word_of (mark_store n w) = w
word_of (entry_store n b c) = change_word c

-- "it makes only the first that many stores of its list"
unfoldable pub after : Geometry → ℕ → List Store → List ℕ → List ℕ
after g zero [] t = t
after g zero (s ∷ ss) t = t
after g (suc limit) [] t = t
after g (suc limit) (s ∷ ss) t = after g limit ss (set t (address_of g s) (word_of s))

-- f 0, f 1, .. and f (n − 1), one after the other
unfoldable pub runs : (ℕ → List Store) → ℕ → List Store
runs f zero = []
runs f (suc n) = runs f n ++ f n

-- a list of stores, carried out by code: the table and what is left of the limit, before and after
pub record Stored (g : Geometry) (left : ℕ) (ss : List Store) (t t' : List ℕ) (left' : ℕ) : Type 0 where
  pub table : t' ≡ after g left ss t
  pub rest : left' ≡ left - length ss
  pub size : length t' ≡ length t

-- one word, as `store` writes it
unfoldable pub written : ℕ → ℕ → ℕ → List ℕ → List ℕ
written zero at word t = t
written (suc left) at word t = set t at word

pub record Wrote (left at word : ℕ) (t t' : List ℕ) (left' : ℕ) : Type 0 where
  pub table : t' ≡ written left at word t
  pub rest : left' ≡ left - 1
  pub size : length t' ≡ length t
