-- Format's entries of a node are a row of fresh entries: the node is (n − 2b) mod N ahead of the first copy of item b.
use Prim.Native.Nat.{ℕ, zero, suc, ◌+◌, ◌-◌, ◌*◌, ◌%◌, ◌<◌, ◌≤◌}
use mathlib.Core.Path.{◌≡◌, refl, sym, ap, ◌∙◌}
use mathlib.Core.Logic.{◌≢◌}
use mathlib.Core.List.{List, map}
use native.Mathlib.Omega.{arith}
use native.Mathlib.Decide.{dec_lt}
use lib.Arith.{digits_mod}
use borrow.Author.Tests.{eq-eqb, ne_eqb}
use Rattle.table.specs.declared.geometry.Geometry.{Geometry}
use Rattle.table.specs.Words.{shared_ck1, shared_ck2}
use Rattle.table.specs.Stores.{entry_store, runs, Stored}
use Rattle.table.proofs.Laws.Stores.{runs_ext, stored_as}
use Rattle.layout.specs.code.Rows.{next_ahead, ahead_at, place_ahead, fresh_entry, row_entry}
use Rattle.layout.proofs.Laws.Rows.{next_near, next_far, place_first, place_second, place_none}
use Rattle.layout.specs.Format.{first_place, first_entry}

-- the place of an item's second copy
abbrev second : ℕ
second = shared_ck2

-- the distance, whole turns around the nodes apart
record Ahead (N n b ahead : ℕ) : Type 0 where
  pub less : ahead < N
  pub turns : ℕ
  pub meets : 2 * b + ahead ≡ turns * N + n

ahead_turn : (N n b ahead : ℕ) → 2 ≤ N → Ahead N n b ahead → Ahead N n (suc b) (next_ahead (N - 2) ahead)
ahead_turn N n b ahead h a = elim (dec_lt ahead 2) [
  | yes l ↦ rw (sym (next_near (N - 2) ahead l)) (record { less = omega arith; turns = suc a.turns; meets = omega (arith, a.meets) })
  | no l ↦ rw (sym (next_far (N - 2) ahead (omega arith))) (record { less = omega (arith, a.less); turns = a.turns; meets = omega (arith, a.meets) })
]

ahead_at_lem : (N n : ℕ) → 2 ≤ N → n < N → (b : ℕ) → Ahead N n b (ahead_at (N - 2) n b)
unfolding ahead_at
ahead_at_lem N n h l zero = record { less = l; turns = 0; meets = omega arith }
ahead_at_lem N n h l (suc b) = ahead_turn N n b (ahead_at (N - 2) n b) h (ahead_at_lem N n h l b)

-- a number less than a turn behind is on another node
behind : (N n x k q : ℕ) → n < N → 0 < k → k < N → x + k ≡ q * N + n → n ≢ x % N
behind N n x k q l z m e f = elim (dec_lt n k) [
  | yes s ↦ over q s e
  | no s ↦ (let p : x ≡ q * N + (n - k) = omega arith in
      let r : x % N ≡ n - k = ap (λ y. y % N) p ∙ digits_mod q (omega arith) in
      omega arith)
]
  where
    over : (q : ℕ) → n < k → x + k ≡ q * N + n → ⊥
    over zero s e = omega arith
    over (suc q) s e =
        let p : x ≡ q * N + (N + n - k) = omega arith in
        let r : x % N ≡ N + n - k = ap (λ y. y % N) p ∙ digits_mod q (omega arith) in
        omega arith

-- what the distance says is Format's place
first_ahead : (N n b ahead : ℕ) → n < N → Ahead N n b ahead → place_ahead shared_ck1 second ahead ≡ first_place N n b
first_ahead N n b zero l a =
    let p : 2 * b ≡ a.turns * N + n = omega (arith, a.meets) in
    let e : 2 * b % N ≡ n = ap (λ y. y % N) p ∙ digits_mod a.turns l in
    sym (place_first shared_ck1 second zero refl) ∙ rw (eq-eqb n (2 * b % N) (sym e)) refl
first_ahead N n b (suc zero) l a =
    let p : 2 * b + 1 ≡ a.turns * N + n = omega (arith, a.meets) in
    let e : (2 * b + 1) % N ≡ n = ap (λ y. y % N) p ∙ digits_mod a.turns l in
    let d : n ≢ 2 * b % N = behind N n (2 * b) 1 a.turns l (omega arith) a.less p in
    sym (place_second shared_ck1 second (suc zero) refl) ∙ rw (ne_eqb n (2 * b % N) d, eq-eqb n ((2 * b + 1) % N) (sym e)) refl
first_ahead N n b (suc (suc k)) l a =
    let d : n ≢ 2 * b % N = behind N n (2 * b) (suc (suc k)) a.turns l (omega arith) a.less a.meets in
    let f : n ≢ (2 * b + 1) % N = behind N n (2 * b + 1) (suc k) a.turns l (omega arith) (omega (arith, a.less)) (omega (arith, a.meets)) in
    sym (place_none shared_ck1 second (suc (suc k)) (omega arith)) ∙ rw (ne_eqb n (2 * b % N) d, ne_eqb n ((2 * b + 1) % N) f) refl

-- the entries of a node
pub row_first :
    {g : Geometry} {n left left' : ℕ} {t t' : List ℕ} → 2 ≤ g.nodes → n < g.nodes
    → Stored g left (runs (row_entry n shared_ck1 second (g.nodes - 2)) g.items) t t' left'
    → Stored g left (runs (λ b. map (entry_store n b) (first_entry g n b)) g.items) t t' left'
row_first {g} {n} h l =
    stored_as
    (runs_ext g.items (λ b. map (entry_store n b) (first_entry g n b)) (row_entry n shared_ck1 second (g.nodes - 2))
    (λ b k. ap (λ x. map (entry_store n b) (fresh_entry x)) (sym (first_ahead g.nodes n b (ahead_at (g.nodes - 2) n b) l (ahead_at_lem g.nodes n h l b)))))
