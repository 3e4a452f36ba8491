-- The laws of `specs/code/Tallies.antt`.
use Prim.Native.Nat.{ℕ, ◌+◌, ◌*◌, ◌/◌, ◌%◌, ◌^◌, ◌<◌}
use mathlib.Core.Path.{◌≡◌, refl, ap, ◌∙◌}
use mathlib.Core.Bool.{Bool, true, false, ◌||◌}
use mathlib.Core.List.{[]}
use native.Mathlib.Omega.{arith}
use native.Mathlib.Decide.{ℕ_discrete}
use lib.Dec.{ltb}
use borrow.Author.Tests.{eq-eqb, ne_eqb, ltb-true}
use Rattle.counting.proofs.Laws.Tests.{both, by_cases}
use Rattle.counting.specs.Counting.{count}
use Rattle.counting.proofs.Laws.Counting.{count_le, none_counted, only}
use Rattle.counting.proofs.Laws.Ranks.{count_above}
use Rattle.counting.proofs.Laws.Crowded.{sum_only}
use Rattle.table.specs.Words.{shared_ck}
use Rattle.table.specs.declared.geometry.Geometry.{Geometry}
use Rattle.table.specs.View.{View, live, current, kept}
use Rattle.entries.specs.Tally.{has}
use Rattle.entries.proofs.Laws.Kinds.{has_at_lem}
use Rattle.recovery.specs.Sides.{settled}
use Rattle.recovery.specs.Numbering.{holders, number_after, number_at, number_change}
use Rattle.recovery.specs.code.Tallies.{copy_weight, nodes_of, tally_of, plain, holders_by, holder_by}

-- how many hold it
abbrev pub holders_of : Geometry → View → ℕ → ℕ
holders_of g w b = count (has w b 4) g.nodes + count (has w b 5) g.nodes

-- item b's only copy: node m's, where the others have none
only_nodes :
    (g : Geometry) (w : View) (b m : ℕ) → m < g.nodes
    → ((k : ℕ) → k < g.nodes → (k ≡ m → ⊥) → (has w b 4 k ≡ false) × (has w b 5 k ≡ false)) → nodes_of g w b ≡ copy_weight w b m * m
unfolding nodes_of
only_nodes g w b m l h = sum_only g.nodes (λ n. copy_weight w b n * n) m l (λ k q d. let (p, r) = h k q d in let z : 0 * k ≡ 0 = omega arith in rw (p, r) z)

-- the tally of a single copy
first_holder_lem : (m : ℕ) → m < 256 → holder_by (1 + 2 ^ 20 * m) ≡ m
first_holder_lem m h =
    let a : (1 + 2 ^ 20 * m) / 2 ^ 20 ≡ m = omega arith in
    let b : (1 + 2 ^ 20 * m) / 2 ^ 30 ≡ 0 = omega arith in
    rw (a, b) (omega arith)

second_holder : (m : ℕ) → m < 256 → holder_by (1024 + 2 ^ 30 * m) ≡ m
second_holder m h =
    let a : (1024 + 2 ^ 30 * m) / 2 ^ 20 ≡ 1024 * m = omega arith in
    let b : (1024 + 2 ^ 30 * m) / 2 ^ 30 ≡ m = omega arith in
    rw (a, b) (omega arith)

-- a single holder, as the tally tells it
pub record Holder (g : Geometry) (w : View) (b holder : ℕ) : Type 0 where
  pub within : holder < g.nodes
  pub held : (has w b 4 holder || has w b 5 holder) ≡ true

module _ (g : Geometry) (w : View) (b : ℕ) {tally : ℕ} (small : g.nodes < 256) (e : tally ≡ tally_of g w b) where
  firsts_told : tally % 1024 ≡ count (has w b 4) g.nodes
  unfolding tally_of
  firsts_told = omega (arith, e, count_le g.nodes (has w b 4), count_le g.nodes (has w b 5))

  seconds_told : tally / 1024 % 1024 ≡ count (has w b 5) g.nodes
  unfolding tally_of
  seconds_told = omega (arith, e, count_le g.nodes (has w b 4), count_le g.nodes (has w b 5))

  pub holders_told : holders_by tally ≡ holders_of g w b
  holders_told = omega (arith, firsts_told, seconds_told)

  pub holder_told : holders_of g w b ≡ 1 → Holder g w b (holder_by tally)
  unfolding tally_of
  holder_told h = elim (ℕ_discrete (count (has w b 5) g.nodes) 0) [
    | yes z ↦
        (let (m, o) = only g.nodes (has w b 4) (omega arith) in
        let none = none_counted g.nodes (has w b 5) z in
        let q = only_nodes g w b m o.within (λ k l d. (other (has w b 4 k) (λ t. d (o.alone k l t)), none k l)) in
        let q' : nodes_of g w b ≡ m = q ∙ rw (o.holds, none m o.within) (let f : 1 * m ≡ m = omega arith in f) in
        let v : tally ≡ 1 + 2 ^ 20 * m = omega (arith, e, q', h, z) in
        told m o.within (ap holder_by v ∙ first_holder_lem m (omega (arith, o.within))) (rw o.holds refl))
    | no z ↦
        (let (m, o) = only g.nodes (has w b 5) (omega arith) in
        let none = none_counted g.nodes (has w b 4) (omega arith) in
        let q = only_nodes g w b m o.within (λ k l d. (none k l, other (has w b 5 k) (λ t. d (o.alone k l t)))) in
        let q' : nodes_of g w b ≡ 1024 * m = q ∙ rw (o.holds, none m o.within) (let f : 1024 * m ≡ 1024 * m = refl in f) in
        let v : tally ≡ 1024 + 2 ^ 30 * m = omega (arith, e, q', h) in
        told m o.within (ap holder_by v ∙ second_holder m (omega (arith, o.within))) (rw (o.holds, none m o.within) refl))
  ]
    where
      other : (p : Bool) → (p ≡ true → ⊥) → p ≡ false
      other true d = absurd (d refl)
      other false d = refl

      told : (m : ℕ) → m < g.nodes → holder_by tally ≡ m → (has w b 4 m || has w b 5 m) ≡ true → Holder g w b (holder_by tally)
      told m l q k = rw q (record { within = l; held = k })

  -- the only holder of a number, with nothing kept, stays
  module _ (n number : ℕ) (l : n < g.nodes) (a : live w n ≡ true) (c : current (w.entry n b) ≡ shared_ck number) (k : kept (w.entry n b) ≡ 0)
      (few : count (has w b (shared_ck number)) g.nodes < 2) where
    lowest : holders w b number n ≡ 0
    unfolding holders
    lowest = omega (arith, few, count_above g.nodes (has w b (shared_ck number)) n l (has_at_lem w b n (shared_ck number) a c))

    plain_copy : (others : ℕ) → settled (number_after number (holders w b number n) others) (w.entry n b) ≡ []
    unfolding settled number_after
    plain_copy others = rw (lowest, c, k, eq-eqb (shared_ck number) (shared_ck number) refl) refl

  pub plain_nothing : (n : ℕ) → n < g.nodes → (live w n ≡ true → kept (w.entry n b) ≡ 0) → plain tally ≡ true → number_change g w n b ≡ []
  unfolding number_change
  plain_nothing n l k h =
      by_cases (live w n)
      (λ a. elim (ℕ_discrete (current (w.entry n b)) 4) [
        | yes c ↦ (let m : number_at w n b ≡ 1 = rw c refl in rw (a, m) (plain_copy n 1 l a c (k a) first_few (holders w b 2 g.nodes)))
        | no c ↦ elim (ℕ_discrete (current (w.entry n b)) 5) [
          | yes d ↦ (let m : number_at w n b ≡ 2 = rw d refl in rw (a, m) (plain_copy n 2 l a d (k a) second_few (holders w b 1 g.nodes)))
          | no d ↦ (let m : number_at w n b ≡ 0 = rw (ne_eqb _ 4 c, ne_eqb _ 5 d) refl in rw (a, m) refl)
        ]
      ])
      (λ a. rw a refl)
    where
      tests : (ltb (tally % 1024) 2 ≡ true) × (ltb (tally / 1024 % 1024) 2 ≡ true)
      tests = both (ltb (tally % 1024) 2) h

      first_few : count (has w b 4) g.nodes < 2
      first_few = omega (arith, firsts_told, ltb-true (tally % 1024) 2 tests.0)

      second_few : count (has w b 5) g.nodes < 2
      second_few = omega (arith, seconds_told, ltb-true (tally / 1024 % 1024) 2 tests.1)
