-- What the functions of Recover ask and promise, stage by stage.
use Rattle.std.specs.Prelude.{ℕ, ◌≤◌, ◌<◌, ◌≡◌, Bool, false, List, ◌++◌, length, replicate, drop, get_or, Option}
use Rattle.table.specs.declared.geometry.Geometry.{Geometry}
use Rattle.table.specs.Geometry.{words_of}
use Rattle.table.specs.declared.stores.Stores.{Stores}
use Rattle.table.specs.Made.{Made, shown}
use Rattle.survivors.specs.Survivors.{survivors, lost_outside}
use Rattle.recovery.specs.code.PairsCode.{Restorable}
use Rattle.recovery.specs.Recover.{survivor_stores, recover_stores, scratch_words}

-- ---- definitions

-- what carrying it out owes: the stores, and the scratch cleared
pub record Recovers (lost : Option ℕ) (a a' : Stores) (s s' : List ℕ) : Type 0 where
  pub made : Made a (recover_stores a.g lost (shown a)) a'
  pub cleared : s' ≡ replicate (scratch_words a.g) 0 ++ drop (scratch_words a.g) s

-- what it needs
pub record Carriable (lost : Option ℕ) (a : Stores) (s : List ℕ) : Type 0 where
  pub long : words_of a.g ≤ length a.table.now
  pub room : scratch_words a.g ≤ length s
  pub inside : lost_outside a.g lost ≡ false

-- a list, tallies and first values that are long enough, the latter two zero
pub record Roomy (g : Geometry) (l s f : List ℕ) : Type 0 where
  pub list_room : g.items ≤ length l
  pub tallies_room : g.items ≤ length s
  pub firsts_room : g.items ≤ length f
  pub tallies_zero : (j : ℕ) → j < g.items → get_or s j 0 ≡ 0
  pub firsts_zero : (j : ℕ) → j < g.items → get_or f j 0 ≡ 0

-- what the stores need, and what those on the survivors need: room, and what the census told
pub record StoresReady (lost : Option ℕ) (forward plain : Bool) (a : Stores) (s l tallies u : List ℕ) : Type 0 where
  pub carriable : Carriable lost a s
  pub list_room : a.g.items ≤ length l
  pub used_room : a.g.nodes ≤ length u
  pub known : Restorable a.g forward plain (survivors lost (shown a)) tallies u

pub record RestoreReady (lost : Option ℕ) (forward plain : Bool) (a : Stores) (s l tallies u : List ℕ) : Type 0 where
  pub long : words_of a.g ≤ length a.table.now
  pub room : a.g.nodes ≤ length s
  pub list_room : a.g.items ≤ length l
  pub used_room : a.g.nodes ≤ length u
  pub known : Restorable a.g forward plain (survivors lost (shown a)) tallies u

-- ---- carried out

-- the survivors' stages: their stores, and of the scratch only the first words, one a node
pub record StagesStored (lost : Option ℕ) (a a' : Stores) (s s' : List ℕ) : Type 0 where
  pub made : Made a (survivor_stores a.g (survivors lost (shown a))) a'
  pub rest : drop a.g.nodes s' ≡ drop a.g.nodes s
  pub size : length s' ≡ length s
