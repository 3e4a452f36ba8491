-- The frames in use of each survivor, as the partner stage holds them in the first words of the scratch: they agree with the table while anything is
-- left of the limit.
use Rattle.std.specs.Prelude.{ℕ, ◌+◌, ◌<◌, ◌≤◌, ◌≡◌, true, cond, Bool, ◌&&◌, List, eqb, ltb, get_or, length, drop, Option}
use Rattle.table.specs.declared.geometry.Geometry.{Geometry}
use Rattle.table.specs.Words.{kept_of, invalid}
use Rattle.table.specs.View.{View, live, current}
use Rattle.table.specs.declared.stores.Stores.{Stores}
use Rattle.table.specs.Made.{Made, shown}
use Rattle.entries.specs.Frames.{used, set_frames}
use Rattle.survivors.specs.Survivors.{survivors}
use Rattle.counting.specs.Counting.{count}
use Rattle.counting.specs.Cyclic.{first_after}
use Rattle.table.specs.Geometry.{words_of}
use Rattle.table.specs.Stores.{Store}
use Rattle.entries.specs.Tally.{copy}
use Rattle.recovery.specs.Numbering.{holder_of}
use Rattle.recovery.specs.code.Tallies.{holders_by, holder_by}

-- word n of the scratch is what node n uses, for each survivor below k
pub record AgreesTo (g : Geometry) (w : View) (s : List ℕ) (k : ℕ) : Type 0 where
  pub at : (n : ℕ) → n < k → live w n ≡ true → get_or s n 0 ≡ used g w n 0

-- while anything is left of the limit
pub record Counts (lost : Option ℕ) (a : Stores) (s : List ℕ) : Type 0 where
  pub known : (a.left ≡ 0 → ⊥) → AgreesTo a.g (survivors lost (shown a)) s a.g.nodes

-- what a node uses once its entry with this state word, Invalid, takes a partner: one more, unless a kept copy gives way to it
unfoldable pub used_with : ℕ → ℕ → ℕ
used_with n state = cond (eqb (kept_of state) invalid) (n + 1) n

-- ---- what the functions of the partner stage promise. The frames in use are read from the scratch.

-- a node that can take the partner of item b's copy, by the scratch
unfoldable pub takes_by : Geometry → View → List ℕ → ℕ → ℕ → Bool
takes_by g w s b n = live w n && (eqb (current (w.entry n b)) invalid && ltb (get_or s n 0) (set_frames g))

-- the partner of node n's copy, by the scratch; n itself if none can take it
unfoldable pub partner_by : Geometry → View → List ℕ → ℕ → ℕ → ℕ
partner_by g w s b n = first_after (takes_by g w s b) g.nodes n

-- what a survivor uses
pub record UsedBy (g : Geometry) (w : View) (n r : ℕ) : Type 0 where
  pub is : live w n ≡ true → r ≡ used g w n 0

-- the scratch is filled for the nodes below k; its words from N on are as they were
pub record Filled (g : Geometry) (w : View) (k : ℕ) (s s' : List ℕ) : Type 0 where
  pub agrees : AgreesTo g w s' k
  pub rest : drop g.nodes s' ≡ drop g.nodes s
  pub size : length s' ≡ length s

-- what a part of the stage needs
pub record Ready (lost : Option ℕ) (a : Stores) (s : List ℕ) : Type 0 where
  pub long : words_of a.g ≤ length a.table.now
  pub room : a.g.nodes ≤ length s
  pub counts : Counts lost a s

-- a part of the stage: its stores, a function of the survivors' view, and the scratch, whose words from N on are as they were
pub record Turned (lost : Option ℕ) (f : View → List Store) (a a' : Stores) (s s' : List ℕ) : Type 0 where
  pub made : Made a (f (survivors lost (shown a))) a'
  pub counts : Counts lost a' s'
  pub rest : drop a.g.nodes s' ≡ drop a.g.nodes s
  pub size : length s' ≡ length s

-- ---- the frames in use, before the first item

-- the first k words of the scratch are those of u; its words from n on are as they were
pub record FilledFrom (n k : ℕ) (u s s' : List ℕ) : Type 0 where
  pub same : (i : ℕ) → i < k → get_or s' i 0 ≡ get_or u i 0
  pub rest : drop n s' ≡ drop n s
  pub size : length s' ≡ length s

-- ---- an item's turn in the partner stage finds its copies as they were at the stage's start; one with a holder of each number has no single copy.

-- while anything is left of the limit: an item has one copy, and this holder
pub record Single (lost : Option ℕ) (a : Stores) (b holder : ℕ) : Type 0 where
  pub one : (a.left ≡ 0 → ⊥) → count (copy (survivors lost (shown a)) b) a.g.nodes ≡ 1
  pub is : (a.left ≡ 0 → ⊥) → holder ≡ holder_of a.g (survivors lost (shown a)) b

-- how the items stand by their tallies: with two holders and more an item has not one copy, else it has one, and the tally tells its holder
pub record Stands (g : Geometry) (w : View) (b tally : ℕ) : Type 0 where
  pub skip : 1 < holders_by tally → count (copy w b) g.nodes ≡ 1 → ⊥
  pub single : holders_by tally ≤ 1 → count (copy w b) g.nodes ≡ 1
  pub holder : holders_by tally ≤ 1 → holder_by tally ≡ holder_of g w b

abbrev pub Settled : Geometry → View → List ℕ → Type 0
Settled g w s = (b : ℕ) → b < g.items → Stands g w b (get_or s b 0)

pub record Settles (lost : Option ℕ) (a : Stores) (s : List ℕ) : Type 0 where
  pub settled : (a.left ≡ 0 → ⊥) → Settled a.g (survivors lost (shown a)) s

-- what an item's turn needs
pub record Passable (lost : Option ℕ) (a : Stores) (s : List ℕ) (b tally : ℕ) : Type 0 where
  pub ready : Ready lost a s
  pub there : b < a.g.items
  pub stands : (a.left ≡ 0 → ⊥) → Stands a.g (survivors lost (shown a)) b tally
