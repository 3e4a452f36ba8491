-- Recover of a dead node's name: its one store more changes no word, and the rest is what Recover of none does.
use Rattle.std.specs.Prelude.{None, Some}
use Prim.Native.Nat.{ℕ, suc, ◌<◌}
use mathlib.Core.Path.{◌≡◌, refl, sym, ap, ◌∙◌}
use mathlib.Core.Bool.{false}
use mathlib.Core.List.{List, ◌∷◌}
use lib.ListN.{get_or, set}
use lib.Seq.{set-get_or}
use Rattle.table.specs.declared.geometry.Geometry.{Geometry}
use Rattle.table.specs.Geometry.{mark_at}
use Rattle.table.specs.Stores.{after, mark_store}
use Rattle.table.specs.View.{view, live}
use Rattle.table.proofs.Laws.View.{mark_read}
use Rattle.recovery.specs.Recover.{survivor_stores, recover_stores}
use Rattle.recovery.proofs.Laws.RecoveredSound.{dead_mark}
use Rattle.recovery.proofs.Laws.LostVia.{lost_again}

module _ (g : Geometry) (t : List ℕ) (n : ℕ) (inside : n < g.nodes) (dead : live (view g t) n ≡ false) where
  -- one store more
  pub dead_stores : recover_stores g (Some n) (view g t) ≡ mark_store n 0 ∷ recover_stores g None (view g t)
  unfolding recover_stores
  dead_stores = ap (λ w. mark_store n 0 ∷ survivor_stores g w) (lost_again n (view g t) (dead_mark (view g t) n dead))

  -- of a word that is 0 already
  zero_stays : set t (mark_at n) 0 ≡ t
  zero_stays =
      let z : get_or t (mark_at n) 0 ≡ 0 = mark_read g t n inside refl ∙ dead_mark (view g t) n dead in
      ap (set t (mark_at n)) (sym z) ∙ set-get_or t (mark_at n) 0

  pub dead_name :
      (limit : ℕ) → after g (suc limit) (recover_stores g (Some n) (view g t)) t ≡ after g limit (recover_stores g None (view g t)) t
  unfolding after
  dead_name limit = ap (λ ss. after g (suc limit) ss t) dead_stores ∙ ap (after g limit (recover_stores g None (view g t))) zero_stays
