-- What the functions that number the copies promise.
use Rattle.std.specs.Prelude.{ℕ, ◌+◌, ◌-◌, ◌≤◌, ◌<◌, ◌≡◌, true, cond, List, [], eqb, length, Option}
use Rattle.counting.specs.Counting.{one}
use Rattle.table.specs.declared.geometry.Geometry.{Geometry}
use Rattle.table.specs.Geometry.{words_of}
use Rattle.table.specs.Words.{invalid, shared_ck1, shared_ck2}
use Rattle.table.specs.Changes.{checkpoint_of}
use Rattle.table.specs.Stores.{Change}
use Rattle.table.specs.View.{Entry, View, view, live, current, kept}
use Rattle.recovery.specs.declared.numbering.Holders.{Holders}
use Rattle.survivors.specs.Survivors.{survivors}
use Rattle.recovery.specs.Sides.{settled}
use Rattle.recovery.specs.Numbering.{holders, number_after, number_change}
use Rattle.recovery.specs.code.Tallies.{Tallied, plain}

-- ---- the copy of one node

-- the code of node n's copy of item b, 0 for a dead node
unfoldable pub survivor_code : View → ℕ → ℕ → ℕ
survivor_code w b n = cond (live w n) (current (w.entry n b)) invalid

-- ---- the holders of an item

abbrev pub of_number : Holders → ℕ → ℕ
of_number h number = cond (eqb number 1) h.first h.second

-- one copy more, of any code
pub record Met (c : ℕ) (h r : Holders) : Type 0 where
  pub first : r.first ≡ h.first + one (eqb c shared_ck1)
  pub second : r.second ≡ h.second + one (eqb c shared_ck2)

-- those below node n
pub record HoldersTo (w : View) (b n : ℕ) (h : Holders) : Type 0 where
  pub first : h.first ≡ holders w b 1 n
  pub second : h.second ≡ holders w b 2 n
  pub few : h.first ≤ n
  pub fewer : h.second ≤ n

-- ---- the turn of one entry

-- the changes of entry e whose copy has code c, after these lower holders, of all these
unfoldable pub number_by : ℕ → Holders → Holders → Entry → List Change
number_by c lower all e =
    cond (eqb (checkpoint_of c) 0) []
    (settled (number_after (checkpoint_of c) (of_number lower (checkpoint_of c)) (of_number all (3 - checkpoint_of c))) e)

-- ---- one item: a turn finds its entry as it was at the item's start, whatever the limit

-- what an item's turn needs: by its tally there may be nothing to do, while anything is left of the limit
pub record Numberable (g : Geometry) (lost : Option ℕ) (left : ℕ) (t : List ℕ) (b tally : ℕ) : Type 0 where
  pub there : b < g.items
  pub long : words_of g ≤ length t
  pub nothing : (left ≡ 0 → ⊥) → plain tally ≡ true → (n : ℕ) → n < g.nodes → number_change g (survivors lost (view g t)) n b ≡ []

-- nothing is kept by a survivor
abbrev pub Unkept : Geometry → View → Type 0
Unkept g w = (n b : ℕ) → n < g.nodes → b < g.items → live w n ≡ true → kept (w.entry n b) ≡ 0

-- what all of them need
pub record Numbering (g : Geometry) (lost : Option ℕ) (left : ℕ) (t s : List ℕ) : Type 0 where
  pub long : words_of g ≤ length t
  pub room : g.items ≤ length s
  pub tallied : (left ≡ 0 → ⊥) → Tallied g (survivors lost (view g t)) s
  pub unkept : (left ≡ 0 → ⊥) → Unkept g (survivors lost (view g t))
