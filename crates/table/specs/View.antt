-- What a table shows: a mark for each node, an entry for each node and item. Nodes and items that are not there show zeros.
use Rattle.std.specs.Prelude.{ℕ, ◌+◌, Bool, not, cond, ◌&&◌, List, [], ◌∷◌, map, eqb, ltb, get_or}
use Rattle.table.specs.declared.geometry.Geometry.{Geometry}
use Rattle.table.specs.Words.{current_of, kept_of, state_word}
use Rattle.table.specs.Geometry.{mark_at, entry_at}
use Rattle.table.specs.Stores.{Change, state_to, value_to, kept_to, Store, size_store, mark_store, entry_store, runs}

pub record Entry : Type 0 where
  pub state : ℕ
  pub value : ℕ
  pub kept_value : ℕ

pub record View : Type 0 where
  pub mark : ℕ → ℕ
  pub entry : ℕ → ℕ → Entry

-- the places of an entry
abbrev pub current : Entry → ℕ
current e = current_of e.state

abbrev pub kept : Entry → ℕ
kept e = kept_of e.state

-- "a node is dead if its mark is all zero, else live"
abbrev pub live : View → ℕ → Bool
live v n = not (eqb (v.mark n) 0)

-- ---- the view of a table

abbrev pub blank : Entry
blank = record { state = 0; value = 0; kept_value = 0 }

abbrev pub entry_in : List ℕ → ℕ → Entry
entry_in t at = record { state = get_or t at 0; value = get_or t (at + 1) 0; kept_value = get_or t (at + 2) 0 }

abbrev pub there : Geometry → ℕ → ℕ → Bool
there g n b = ltb n g.nodes && ltb b g.items

unfoldable pub view : Geometry → List ℕ → View
view g t = record {
  mark = λ n. cond (ltb n g.nodes) (get_or t (mark_at n) 0) 0;
  entry = λ n b. cond (there g n b) (entry_in t (entry_at g n b)) blank;
}

-- ---- stores on a view

abbrev pub changed : Change → Entry → Entry
changed (state_to c k) e = record { state = state_word c k; value = e.value; kept_value = e.kept_value }
changed (value_to x) e = record { state = e.state; value = x; kept_value = e.kept_value }
changed (kept_to x) e = record { state = e.state; value = e.value; kept_value = x }

-- a function, set at one place
abbrev pub put₁ : (ℕ → ℕ) → ℕ → ℕ → ℕ → ℕ
put₁ f n x n' = cond (eqb n' n) x (f n')

abbrev pub put₂ : (ℕ → ℕ → Entry) → ℕ → ℕ → Entry → ℕ → ℕ → Entry
put₂ f n b x n' b' = cond (eqb n' n && eqb b' b) x (f n' b')

abbrev pub update : Store → View → View
update (size_store h) v = v
update (mark_store n w) v = record { mark = put₁ v.mark n w; entry = v.entry }
update (entry_store n b c) v = record { mark = v.mark; entry = put₂ v.entry n b (changed c (v.entry n b)) }

-- all stores of a list
abbrev pub updates : List Store → View → View
updates [] v = v
updates (s ∷ ss) v = updates ss (update s v)

-- ---- a pass over entries in any order that meets none twice: place k is the entry of node `nd k` and item `it k`, changed by a list of its own.
-- A column (one item): nd k = k, it k = b. By node, then item: nd k = k / M, it k = k % M. By item, then node: nd k = k % N, it k = k / N.

abbrev pub pass : (ℕ → ℕ) → (ℕ → ℕ) → (ℕ → List Change) → ℕ → List Store
pass nd it changes = runs (λ k. map (entry_store (nd k) (it k)) (changes k))

-- ---- live marks, ascending

-- a live node's mark w becomes f w
unfoldable pub mark_to : View → (ℕ → ℕ) → ℕ → List Store
mark_to v f n = cond (live v n) (mark_store n (f (v.mark n)) ∷ []) []

-- "each live mark, .. ascending"
unfoldable pub marks_to : Geometry → View → (ℕ → ℕ) → List Store
marks_to g v f = runs (mark_to v f) g.nodes
