-- Recover as its code goes: what making the pairs asks of the rolling before it.
use Rattle.std.specs.Prelude.{Option}
use Prim.Native.Nat.{ℕ, ◌<◌}
use mathlib.Core.Bool.{Bool}
use mathlib.Core.List.{List}
use Rattle.table.specs.declared.stores.Stores.{Stores}
use Rattle.table.specs.Made.{Made, shown}
use Rattle.checkpoints.specs.Checkpoint.{entries_to}
use Rattle.survivors.specs.Survivors.{survivors}
use Rattle.recovery.specs.Sides.{roll_change}
use Rattle.recovery.specs.code.PairsCode.{Pairable}
use Rattle.recovery.proofs.Laws.PairsCode.{rolled_pairable}
use Rattle.recovery.specs.code.RecoverCode.{RestoreReady}

pub restore_pairable :
    (lost : Option ℕ) {forward plain : Bool} {a a₁ : Stores} {s l tallies u : List ℕ} → RestoreReady lost forward plain a s l tallies u
    → Made a (entries_to a.g (survivors lost (shown a)) (roll_change forward)) a₁ → a.g.nodes < 256 → Pairable lost plain a₁ s tallies u
restore_pairable lost r m small = rolled_pairable lost r.long r.room r.used_room small r.known m
