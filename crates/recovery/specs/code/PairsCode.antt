-- Numbering and partners on the rolled survivors, as the code goes: by what the census told of them before they rolled.
use Rattle.std.specs.Prelude.{ℕ, ◌≤◌, ◌<◌, ◌≡◌, Bool, true, List, [], length, get_or, Option}
use Rattle.counting.specs.Counting.{every, sum}
use Rattle.table.specs.declared.geometry.Geometry.{Geometry}
use Rattle.table.specs.declared.stores.Stores.{Stores}
use Rattle.table.specs.Made.{Made, shown}
use Rattle.table.specs.View.{View, updates, live}
use Rattle.survivors.specs.Survivors.{survivors}
use Rattle.recovery.specs.Sides.{items_fit}
use Rattle.survivors.specs.Direction.{forward_in}
use Rattle.recovery.specs.Numbering.{number_stores, partners_stores}
use Rattle.recovery.specs.Recover.{survivors_formed}
use Rattle.recovery.specs.code.Tallies.{plain}
use Rattle.recovery.specs.code.NumberingCode.{Numbering}
use Rattle.recovery.specs.code.PartnersCode.{AgreesTo, Turned, Settled}
use Rattle.recovery.specs.code.Census.{side_weight, held_on}

-- ---- what the code needs

pub record Pairable (lost : Option ℕ) (plain : Bool) (a : Stores) (s tallies u : List ℕ) : Type 0 where
  pub room : a.g.nodes ≤ length s
  pub used_room : a.g.nodes ≤ length u
  pub numbering : Numbering a.g lost a.left a.table.now tallies
  -- while anything is left of the limit: numbering leaves each item a pair or a single copy; where no item has two recovery copies of one number it has
  -- nothing to do, and the frames in use are those of the census
  pub settled :
      (a.left ≡ 0 → ⊥) → Settled a.g (updates (number_stores a.g (survivors lost (shown a))) (survivors lost (shown a))) tallies
  pub nothing : plain ≡ true → (a.left ≡ 0 → ⊥) → number_stores a.g (survivors lost (shown a)) ≡ []
  pub agrees : plain ≡ true → (a.left ≡ 0 → ⊥) → AgreesTo a.g (survivors lost (shown a)) u a.g.nodes

-- what it owes: the stores of both stages, and the scratch
pub record Pairs (lost : Option ℕ) (a a' : Stores) (s s' : List ℕ) : Type 0 where
  pub between : Stores
  pub numbered : Made a (number_stores a.g (survivors lost (shown a))) between
  pub partnered : Turned lost (partners_stores between.g) between a' s s'

-- ---- after the rolling

-- what the census told of the survivors' view w, which was admitted
pub record Restorable (g : Geometry) (forward simple : Bool) (w : View) (tallies u : List ℕ) : Type 0 where
  pub way : forward ≡ forward_in g w
  pub formed : survivors_formed g w ≡ true
  pub fit : items_fit g w ≡ true
  pub tally : (j : ℕ) → j < g.items → get_or tallies j 0 ≡ sum (side_weight forward w j) g.nodes
  pub tallies_room : g.items ≤ length tallies
  pub held : (n : ℕ) → n < g.nodes → live w n ≡ true → get_or u n 0 ≡ held_on g forward w n
  pub plain_told : simple ≡ every (λ j. plain (get_or tallies j 0)) g.items
