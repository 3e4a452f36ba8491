-- A formatted table: every value and every value saved is 0, and so is the point's number.
use Prim.Native.Nat.{ℕ}
use mathlib.Core.Path.{◌≡◌, refl, ap, ◌∙◌}
use mathlib.Core.Bool.{Bool, true, false, cond}
use mathlib.Core.List.{List}
use lib.Dec.{eqb}
use Rattle.table.specs.Words.{number_of}
use Rattle.table.specs.Copies.{no_copy, copy_of, back_by, back_copy, copy_value}
use Rattle.layout.specs.Formatted.{Formatted}
use Rattle.layout.proofs.Laws.Formatted.{formatted_shows, formatted_passes}
use Rattle.homes.proofs.Laws.Serves.{Serves}

-- a recovery copy where both values are 0
zero_copy : (i k : ℕ) → copy_value (back_by i k 0 0) ≡ 0
unfolding back_by
zero_copy i k = go (eqb i 0) (eqb k 0)
  where
    go : (p q : Bool) → copy_value (cond p (cond q no_copy (copy_of k 0)) (copy_of i 0)) ≡ 0
    go true true = refl
    go true false = refl
    go false q = refl

pub formatted_serves : (t : List ℕ) (f : Formatted t) → Serves t f.geometry (λ b. 0) (λ b. 0) 0
formatted_serves t f =
    let z = formatted_shows t f in
    record {
      passed = formatted_passes t f;
      number_is = λ n l. ap number_of (z.mark n l.there);
      current = λ n b l i d. ap (λ e. e.value) (z.entry n b l.there i);
      back = λ n b l i d. ap (λ e. copy_value (back_copy e)) (z.entry n b l.there i) ∙ zero_copy _ _;
    }
