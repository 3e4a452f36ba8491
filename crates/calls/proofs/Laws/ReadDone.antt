-- What a read answers, and what a whole read leaves in every entry.
use Prim.Native.Nat.{ℕ}
use mathlib.Core.Path.{◌≡◌}
use mathlib.Core.Logic.{◌≢◌}
use mathlib.Core.Bool.{true, cond}
use lib.Dec.{eqb}
use Rattle.table.specs.declared.geometry.Geometry.{Geometry}
use Rattle.table.specs.Words.{invalid, shared, owner, modified}
use Rattle.table.specs.View.{Entry, View, current}
use Rattle.calls.specs.Read.{serves, server_of}
use Rattle.homes.proofs.Laws.Placed.{placed}
use Rattle.homes.proofs.Laws.Kept.{Live}

-- "a Modified owner turns Owner"
abbrev pub served_after : Entry → Entry
served_after e = cond (eqb (current e) modified) (placed e owner e.value) e

-- s serves item b: a live node, with a current place that serves
pub record Serving (g : Geometry) (v : View) (b s : ℕ) : Type 0 where
  pub node : Live g v s
  pub place : serves (current (v.entry s b)) ≡ true

-- the value answered by a read at node n, item b: its own copy's, or the server's; and that of all live current copies
pub record Answered (g : Geometry) (n b : ℕ) (v : View) (value : ℕ) : Type 0 where
  pub own : current (v.entry n b) ≢ invalid → value ≡ (v.entry n b).value
  pub serving : current (v.entry n b) ≡ invalid → Serving g v b (server_of g v b)
  pub served : current (v.entry n b) ≡ invalid → value ≡ (v.entry (server_of g v b) b).value
  pub other : current (v.entry n b) ≡ invalid → server_of g v b ≢ n
  pub agreed : (m : ℕ) → Live g v m → current (v.entry m b) ≢ invalid → (v.entry m b).value ≡ value

-- value x of item b fetched from node s by node n: v at entry, w at the end
pub record Fetched (s n b x : ℕ) (v w : View) : Type 0 where
  pub reader : w.entry n b ≡ placed (v.entry n b) shared x
  pub server : w.entry s b ≡ served_after (v.entry s b)
  pub others : (k : ℕ) → k ≢ n → k ≢ s → w.entry k b ≡ v.entry k b
  pub rest : (k c : ℕ) → c ≢ b → w.entry k c ≡ v.entry k c
  pub marks : w.mark ≡ v.mark

-- a copy that is there is read where it is; else the server's value is fetched
pub record ReadDone (g : Geometry) (n b : ℕ) (v w : View) : Type 0 where
  pub here : current (v.entry n b) ≢ invalid → w ≡ v
  pub fetched : current (v.entry n b) ≡ invalid → Fetched (server_of g v b) n b (v.entry (server_of g v b) b).value v w
