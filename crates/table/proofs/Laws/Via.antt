-- Every cut of a list of stores: P holds before each store and at the end, where B holds too.
use Prim.Native.Nat.{ℕ, zero, suc, ◌≤◌, ◌<◌}
use mathlib.Core.Path.{sym, ap, ◌∙◌, subst}
use mathlib.Core.List.{List, [], ◌∷◌, ◌++◌}
use native.Mathlib.Omega.{arith}
use lib.ListN.{length, take}
use lib.Seq.{take_all}
use Rattle.table.specs.declared.geometry.Geometry.{Geometry}
use Rattle.table.specs.Geometry.{words_of}
use Rattle.table.specs.Stores.{Store, after, runs}
use Rattle.table.proofs.Laws.Stores.{All, none, more}
use Rattle.table.specs.View.{View, view, update, updates}
use Rattle.table.proofs.Laws.ViewAfter.{Within, view_after}

pub data Via (g : Geometry) (P B : View → Type 0) : View → List Store → Type 0 where
  done : {v : View} → P v → B v → Via g P B v []
  step : {v : View} {s : Store} {ss : List Store} → P v → Within g s → Via g P B (update s v) ss → Via g P B v (s ∷ ss)

module _ {g : Geometry} {P : View → Type 0} where
  pub via_within : {B : View → Type 0} {v : View} {ss : List Store} → Via g P B v ss → All (Within g) ss
  via_within (done p b) = none
  via_within (step p w h) = more w (via_within h)

  via_take : {B : View → Type 0} {v : View} {ss : List Store} → Via g P B v ss → (limit : ℕ) → P (updates (take limit ss) v)
  via_take (done p b) zero = p
  via_take (done p b) (suc limit) = p
  via_take (step p w h) zero = p
  via_take (step p w h) (suc limit) = via_take h limit

  via_last : {B : View → Type 0} {v : View} {ss : List Store} → Via g P B v ss → B (updates ss v)
  via_last (done p b) = b
  via_last (step p w h) = via_last h

  -- THE USE: P holds of the table after any number of the stores
  pub via_cut :
      {B : View → Type 0} {ss : List Store} (t : List ℕ) → words_of g ≤ length t → Via g P B (view g t) ss → (limit : ℕ)
      → P (view g (after g limit ss t))
  via_cut t long h limit = subst P (sym (view_after g limit t long (via_within h))) (via_take h limit)

  -- and B after all of them
  pub via_whole :
      {B : View → Type 0} {ss : List Store} (t : List ℕ) → words_of g ≤ length t → Via g P B (view g t) ss → (limit : ℕ) → length ss ≤ limit
      → B (view g (after g limit ss t))
  via_whole {B} {ss} t long h limit all =
      subst B (sym (view_after g limit t long (via_within h) ∙ ap (λ l. updates l (view g t)) (take_all limit ss all))) (via_last h)

  -- one list after the other, a weaker end, and a loop with I before f i
  pub via_then :
      {B C : View → Type 0} {v : View} {xs ys : List Store} → Via g P B v xs → ((w : View) → P w → B w → Via g P C w ys)
      → Via g P C v (xs ++ ys)
  via_then {v = v} (done p b) k = k v p b
  via_then (step p w h) k = step p w (via_then h k)

  pub via_weaken : {B C : View → Type 0} {v : View} {ss : List Store} → Via g P B v ss → ((w : View) → P w → B w → C w) → Via g P C v ss
  via_weaken {v = v} (done p b) k = done p (k v p b)
  via_weaken (step p w h) k = step p w (via_weaken h k)

  pub via_runs :
      (I : ℕ → View → Type 0) (n : ℕ) (f : ℕ → List Store) → ((i : ℕ) → i < n → (w : View) → P w → I i w → Via g P (I (suc i)) w (f i))
      → {v : View} → P v → I 0 v → Via g P (I n) v (runs f n)
  unfolding runs
  via_runs I zero f h p b = done p b
  via_runs I (suc n) f h p b = via_then (via_runs I n f (λ i l. h i (omega arith)) p b) (h n (omega arith))

-- a weaker P
pub via_loosen :
    {g : Geometry} {P Q B : View → Type 0} {v : View} {ss : List Store} → Via g P B v ss → ((w : View) → P w → Q w) → Via g Q B v ss
via_loosen {v = v} (done p b) k = done (k v p) b
via_loosen {v = v} (step p w h) k = step (k v p) w (via_loosen h k)
