-- The laws of `specs/code/SurveyGather.antt`.
use Prim.Native.Nat.{ℕ, zero, suc, ◌+◌, ◌*◌, ◌^◌, ◌<◌, ◌≤◌}
use mathlib.Core.Path.{◌≡◌, refl, ap, subst, ◌∙◌}
use mathlib.Core.Bool.{Bool, not}
use mathlib.Core.List.{List}
use native.Mathlib.Omega.{arith}
use native.Mathlib.Decide.{ℕ_discrete}
use mir.Val.{bool_byte}
use lib.Dec.{eqb, ltb}
use lib.ListN.{length, get_or, set, take, length-set, length-take}
use Rattle.std.proofs.lemmas.List.{get_or-take}
use lib.Seq.{get_or-set_same, get_or-set_other}
use borrow.Author.Tests.{eq-eqb, ne_eqb, ltb-true, ltb-false}
use Rattle.counting.proofs.Laws.Tests.{by_cases}
use Rattle.counting.specs.Counting.{count, one}
use Rattle.counting.specs.code.Counting.{Counted}
use Rattle.counting.proofs.Laws.Counting.{count_none, count_next, count_up, below, bit_counted}
use Rattle.entries.specs.code.Row.{row_state}
use Rattle.entries.proofs.Laws.Row.{row_read}
use Rattle.entries.specs.code.SurveyRow.{occupies, Gathered}
use Rattle.entries.specs.code.SurveyGather.{Gathering, GatheredMore}

-- one more
pub count_occupied : (s : ℕ → ℕ) (b : ℕ) → (s b ≡ 0 → ⊥) → count (occupies s) (b + 1) ≡ count (occupies s) b + 1
count_occupied s b d = omega (arith, count_next (occupies s) b, ap (λ q. one (not q)) (ne_eqb (s b) 0 d))

pub bit_fits : (a : ℕ) (q : Bool) → a ≤ 256 → a + bool_byte q < 2 ^ 64
bit_fits a q h = omega (arith, (bit_counted q).small)

-- ---- gathering

pub gathering_none : (s : ℕ → ℕ) (list : List ℕ) → Gathering s 0 list list 0
gathering_none s list = record { row = record { counted = count_none _; lists = λ b l. absurd (omega arith) }; few = omega arith; size = refl }

module _ {s : ℕ → ℕ} {b r : ℕ} {list₀ list : List ℕ} (q : Gathering s b list₀ list r) where
  module _ (room : b < length list₀) {w d x : ℕ} (e : w ≡ s b) (n : Counted (not (eqb w 0)) d) (a : x ≡ 3 * b) where
    pub gathering_next : Gathering s (b + 1) list₀ (set list r x) (r + d)
    gathering_next = record {
      row = record {
        counted = omega (arith, q.row.counted, n.is, count_next (occupies s) b, ap (λ y. one (not (eqb y 0))) e);
        lists = λ i l d. below (λ i. (s i ≡ 0 → ⊥) → get_or (set list r x) (count (occupies s) i) 0 ≡ 3 * i) (let z : i < suc b = omega arith in z) earlier here d;
      };
      few = omega (arith, q.few, n.small);
      size = length-set list r x ∙ q.size;
    }
      where
        earlier : {i : ℕ} → i < b → (s i ≡ 0 → ⊥) → get_or (set list r x) (count (occupies s) i) 0 ≡ 3 * i
        earlier {i} l d =
            get_or-set_other list r (count (occupies s) i) x 0
            (λ (z : count (occupies s) i ≡ r). omega (arith, q.row.counted, count_occupied s i d, count_up b (occupies s) (i + 1) (omega arith)))
            ∙ q.row.lists i l d

        here : (s b ≡ 0 → ⊥) → get_or (set list r x) (count (occupies s) b) 0 ≡ 3 * b
        here d = rw (← q.row.counted) (get_or-set_same list r x 0 (omega (arith, q.few, q.size)) ∙ a)

  pub gathering_at : {m : ℕ} → b ≡ m → Gathering s m list₀ list r
  gathering_at e = subst (λ k. Gathering s k list₀ list r) e q

  pub gathering_on : Gathering s b list list r
  gathering_on = record { row = q.row; few = q.few; size = refl }

  -- the part of the list that is filled
  pub gathering_ends : {m : ℕ} → b ≤ m → m ≤ b → m ≤ length list₀ → Gathered s m (take r list) (length (take r list))
  gathering_ends {m} h k room =
      let e : b ≡ m = omega arith in
      let g : Gathered s m list r = (rw e at q).row in
      let l : r ≤ length list = omega (arith, q.few, q.size) in
      record {
        counted = omega (arith, length-take r list, g.counted);
        lists = λ i j d. get_or-take r list (count (occupies s) i) 0 (omega (arith, g.counted, count_occupied s i d, count_up m (occupies s) (i + 1) (omega arith))) ∙ g.lists i j d;
      }

pub gathered_one :
    (t : List ℕ) (start offset : ℕ) {list : List ℕ} {count w d : ℕ} → w ≡ get_or t (start + offset) 0 → Counted (not (eqb w 0)) d
    → GatheredMore (row_state t start) offset 1 list (set list count offset) count (count + d)
gathered_one t start offset {list} {count} e n = record {
  gathers = λ {b} a l q. gathering_next q (omega arith) (row_read t start b (omega arith) e) n a;
  few = omega (arith, n.small);
  size = length-set list count offset;
}

pub gathered_then :
    {s : ℕ → ℕ} {offset offset' n m : ℕ} {list list' list'' : List ℕ} {count r r' : ℕ} → GatheredMore s offset n list list' count r → offset' ≡ offset + 3 * n
    → GatheredMore s offset' m list' list'' r r' → GatheredMore s offset (n + m) list list'' count r'
gathered_then p e q = record {
  gathers = λ a l g. gathering_at (q.gathers (omega arith) (omega arith) (p.gathers a (omega arith) g)) (omega arith);
  few = omega (arith, p.few, q.few);
  size = q.size ∙ p.size;
}

-- ---- the next one

-- b is the next entry from p on, and below m, that holds something
pub record Next (s : ℕ → ℕ) (p m b : ℕ) : Type 0 where
  pub from : p ≤ b
  pub within : b < m
  pub blank : (i : ℕ) → p ≤ i → i < b → s i ≡ 0
  pub holds : s b ≡ 0 → ⊥
  pub counted : count (occupies s) b ≡ count (occupies s) p

module _ (s : ℕ → ℕ) where
  -- the entries from p to m hold nothing
  pub all_blank : (p m : ℕ) → count (occupies s) m ≤ count (occupies s) p → (i : ℕ) → p ≤ i → i < m → s i ≡ 0
  all_blank p m h i k l = elim (ℕ_discrete (s i) 0) [
    | yes e ↦ e
    | no d ↦ absurd (omega (arith, count_occupied s i d, count_up i (occupies s) p k, count_up m (occupies s) (i + 1) (omega arith)))
  ]

  pub next_occupied : (m p : ℕ) → p ≤ m → count (occupies s) p < count (occupies s) m → (b : ℕ) × Next s p m b
  unfolding count
  next_occupied zero p h k = absurd (omega (arith, ap (count (occupies s)) (let e : p ≡ 0 = omega arith in e)))
  next_occupied (suc m) p h k =
      let l : p ≤ m = elim (ℕ_discrete p (suc m)) [ yes e ↦ absurd (omega (arith, ap (count (occupies s)) e)) | no e ↦ omega arith ] in
      by_cases (ltb (count (occupies s) p) (count (occupies s) m))
      (λ t. let r = next_occupied m p l (ltb-true (count (occupies s) p) (count (occupies s) m) t) in (
        r.0,
        record { from = r.1.from; within = omega (arith, r.1.within); blank = r.1.blank; holds = r.1.holds; counted = r.1.counted },
      ))
      (λ t. (
        m,
        record {
          from = l;
          within = omega arith;
          blank = all_blank p m (ltb-false (count (occupies s) p) (count (occupies s) m) t);
          holds = λ e. omega (arith, ltb-false (count (occupies s) p) (count (occupies s) m) t, ap (λ q. one (not q)) (eq-eqb (s m) 0 e));
          counted = omega (arith, ltb-false (count (occupies s) p) (count (occupies s) m) t, count_up m (occupies s) p l);
        },
      ))
