-- A single copy finds its partner: with k survivors, (k − 1) × F ≥ 2 × M − 1, while one copy is single all copies together are at most 2 × M − 1,
-- and the copy's own node holds one of them.
use Prim.Native.Nat.{ℕ, ◌+◌, ◌-◌, ◌*◌, ◌≤◌, ◌<◌}
use mathlib.Core.Path.{◌≡◌, refl, sym, ap, subst}
use mathlib.Core.Logic.{◌⊎◌, inl, inr, ◌≢◌}
use mathlib.Core.Bool.{Bool, true, false, not, cond, ◌||◌}
use native.Mathlib.Omega.{arith}
use lib.Dec.{eqb, ltb}
use borrow.Author.Tests.{eqb-true, eq-eqb, ltb-true, ltb-false}
use Rattle.counting.proofs.Laws.Tests.{both, no_both, by_cases, or_left, or_right, and_no_right}
use Rattle.counting.specs.Counting.{one, sum, count}
use Rattle.counting.proofs.Laws.Counting.{sum_ext, Only, only_counts, sum_count}
use Rattle.counting.proofs.Laws.Cyclic.{FoundAfter, after_found, after_none}
use Rattle.table.specs.declared.geometry.Geometry.{Geometry}
use Rattle.table.specs.Words.{invalid, shared_ck1, shared_ck2}
use Rattle.table.proofs.Laws.Changes.{checkpoint_code}
use Rattle.table.specs.View.{View, live, current}
use Rattle.entries.specs.Frames.{set_of, set_frames, frames_in, frames_at, used}
use Rattle.entries.specs.Tally.{has, copy}
use Rattle.entries.proofs.Laws.Kinds.{copy_code, copy_live, no_copy_lem}
use Rattle.entries.proofs.Laws.Codes.{two_codes, all_codes}
use Rattle.homes.proofs.Laws.Kept.{Live, live_test, test_live}
use Rattle.counting.proofs.Laws.Crowded.{not_all_full}
use Rattle.survivors.specs.Survivors.{survivor_count, too_few_with, too_few}
use Rattle.recovery.specs.Numbering.{takes, partner_of}
use Rattle.recovery.proofs.Laws.Ready.{Plain, Paired, Numbered, pair, alone}

-- 14 is not met: the other survivors have frames for every copy but one
pub room_of : (g : Geometry) (k : ℕ) → too_few_with g k ≡ false → 2 * g.items - 1 ≤ (k - 1) * g.frames
unfolding too_few_with
room_of g k h =
    by_cases (ltb ((k - 1) * g.frames) (2 * g.items - 1)) (λ e. absurd (no_both (or_right (ltb k 2) e) h)) (λ e. ltb-false _ _ e)

module _ (g : Geometry) (saved : ℕ → ℕ) (w u : View) (plain : Plain g saved w u) where
  -- how many copies node n has
  abbrev holds : ℕ → ℕ
  holds n = sum (λ b. one (copy u b n)) g.items

  -- a frame for each copy, and no other
  used_copies : (n b : ℕ) → Live g u n → used g u n (set_of g b) ≡ holds n
  unfolding used frames_at frames_in
  used_copies n b l = sum_ext g.items (frames_at g u n (set_of g b)) (λ c. one (copy u c n)) each
    where
      go : (q : Bool) → cond q 0 1 + 0 ≡ one (not q)
      go true = refl
      go false = refl

      each : (c : ℕ) → c < g.items → frames_at g u n (set_of g b) c ≡ one (copy u c n)
      each c i = rw ((plain.entries n c l i).nothing, live_test g u n l) (go (eqb (current (u.entry n c)) 0))

  -- a copy is a Shared-CK
  pub coded : (b n : ℕ) → b < g.items → n < g.nodes → copy u b n ≡ true → (current (u.entry n b) ≡ shared_ck1) ⊎ (current (u.entry n b) ≡ shared_ck2)
  coded b n hb hn t =
      checkpoint_code (current (u.entry n b)) ((plain.entries n b (test_live g u n hn (copy_live u b n t)) hb).code (copy_code u b n t))

  pub pair_copies : (b : ℕ) → b < g.items → Paired g u b → count (copy u b) g.nodes ≡ 2
  pair_copies b hb p =
      let e₁ = only_counts g.nodes (has u b shared_ck1) p.one p.first in
      let e₂ = only_counts g.nodes (has u b shared_ck2) p.two p.second in
      let e₃ = two_codes u g.nodes b 4 5 (λ z. omega arith) in
      let e₄ = all_codes u g.nodes b (λ c. eqb c 4 || eqb c 5) refl (λ n l t. either_test (current (u.entry n b)) (coded b n hb l t)) in
      omega arith
    where
      either_test : (c : ℕ) → (c ≡ shared_ck1) ⊎ (c ≡ shared_ck2) → (eqb c 4 || eqb c 5) ≡ true
      either_test c (inl e) = or_left (eqb c 5) (eq-eqb c 4 e)
      either_test c (inr e) = or_right (eqb c 4) (eq-eqb c 5 e)

  few_copies : (b : ℕ) → b < g.items → Numbered g u b → count (copy u b) g.nodes ≤ 2
  few_copies b hb (pair p) = omega (arith, pair_copies b hb p)
  few_copies b hb (alone n o) = omega (arith, only_counts g.nodes (copy u b) n o)

  module _ (enough : too_few g w ≡ false) (items : (b : ℕ) → b < g.items → Numbered g u b) (b a : ℕ) (hb : b < g.items)
      (o : Only g.nodes (copy u b) a) where
    same_count : survivor_count g w ≡ count (live u) g.nodes
    unfolding survivor_count
    same_count = ap (λ (m : ℕ → ℕ). count (λ n. not (eqb (m n) 0)) g.nodes) (sym plain.marks)

    enough_room : 2 * g.items - 1 ≤ (count (live u) g.nodes - 1) * g.frames
    unfolding too_few
    enough_room = subst (λ (k : ℕ). 2 * g.items - 1 ≤ (k - 1) * g.frames) same_count (room_of g (survivor_count g w) enough)

    -- its item is nowhere else
    pub empty_elsewhere : (n : ℕ) → n < g.nodes → n ≢ a → live u n ≡ true → current (u.entry n b) ≡ invalid
    empty_elsewhere n l d t = no_copy_lem u b n t (by_cases (copy u b n) (λ e. absurd (d (o.alone n l e))) (λ e. e))

    full : (n : ℕ) → n < g.nodes → n ≢ a → live u n ≡ true → takes g u b n ≡ false → g.frames ≤ holds n
    unfolding takes
    full n l d t e =
        let f = and_no_right (live u n) t e in
        let f' = and_no_right (eqb (current (u.entry n b)) invalid) (eq-eqb (current (u.entry n b)) invalid (empty_elsewhere n l d t)) f in
        omega (arith, ltb-false (used g u n (set_of g b)) (set_frames g) f', used_copies n b (test_live g u n l t))

    some_takes : ((n : ℕ) → n < g.nodes → n ≢ a → takes g u b n ≡ false) → ⊥
    some_takes none =
        not_all_full g.nodes g.items g.frames 2 (live u) (λ n c. one (copy u c n)) a b o.within
        (copy_live u b a o.holds) hb (omega (arith, ap one o.holds))
        (λ c l. rw (sum_count (copy u c) g.nodes) (few_copies c l (items c l)))
        (rw (sum_count (copy u b) g.nodes) (omega (arith, only_counts g.nodes (copy u b) a o)))
        enough_room (λ n l d t. full n l d t (none n l d))

    -- the partner found: the first other node that can take it; so it is live, without the item, with a frame free
    pub record Partner (m : ℕ) : Type 0 where
      pub found : FoundAfter (takes g u b) g.nodes a m
      pub node : Live g u m
      pub empty : current (u.entry m b) ≡ invalid
      pub free : used g u m (set_of g b) + 1 ≤ set_frames g

    pub partner_found : Partner (partner_of g u b a)
    unfolding partner_of takes
    partner_found =
        let some : partner_of g u b a ≢ a = λ e. some_takes (after_none (takes g u b) g.nodes a o.within e) in
        let f = after_found (takes g u b) g.nodes a some in
        let t = both (live u (partner_of g u b a)) f.passes in
        let t' = both (eqb (current (u.entry (partner_of g u b a) b)) invalid) t.1 in
        record {
          found = f;
          node = test_live g u (partner_of g u b a) f.there t.0;
          empty = eqb-true (current (u.entry (partner_of g u b a) b)) invalid t'.0;
          free = omega (arith, ltb-true (used g u (partner_of g u b a) (set_of g b)) (set_frames g) t'.1);
        }
