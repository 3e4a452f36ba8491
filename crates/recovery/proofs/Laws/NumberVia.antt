-- The numbering on a view: every store keeps the entries plain and each item's lowest holders, and the last one leaves each item a pair or a single copy.
use Prim.Native.Nat.{ℕ, ◌+◌, ◌-◌, ◌*◌, ◌/◌, ◌%◌, ◌<◌}
use mathlib.Core.Path.{◌≡◌, refl, sym, ap, ◌∙◌}
use mathlib.Core.Logic.{◌≢◌}
use mathlib.Core.Bool.{Bool, true, false, not, cond, ◌&&◌}
use mathlib.Core.List.{[]}
use native.Mathlib.Omega.{arith}
use native.Mathlib.Decide.{ℕ_discrete}
use lib.Arith.{digits_lt, digits_div, digits_mod}
use lib.Dec.{eqb}
use borrow.Author.Tests.{eqb-true, eqb-false}
use Rattle.counting.proofs.Laws.Tests.{no_both}
use Rattle.counting.specs.Counting.{count}
use Rattle.counting.proofs.Laws.Counting.{count_some}
use Rattle.table.specs.Words.{shared_ck}
use Rattle.table.specs.declared.geometry.Geometry.{Geometry}
use Rattle.table.specs.Changes.{checkpoint_of}
use Rattle.table.specs.View.{Entry, View, live, current}
use Rattle.table.proofs.Laws.Via.{Via, via_loosen, via_weaken}
use Rattle.table.proofs.Laws.Pass.{Steps, last, steps_map, Each, Passed, pass_via, columns_within, grid_once}
use Rattle.entries.specs.Tally.{has}
use Rattle.entries.proofs.Laws.Kinds.{has_live, has_code, has_at_lem}
use Rattle.homes.proofs.Laws.Kept.{Live, live_test, test_live}
use Rattle.homes.proofs.Laws.FramesKept.{used_no_more}
use Rattle.recovery.specs.Sides.{settled}
use Rattle.recovery.specs.Numbering.{holders, number_after, number_at, number_change, number_stores}
use Rattle.recovery.proofs.Laws.Ready.{HasOne, Plain, Numbered}
use Rattle.counting.proofs.Laws.Ranks.{ranked}
use Rattle.recovery.proofs.Laws.NumberEntry.{Coded, code_number, number_code, SafeNumber, number_begins, number_steps}
use Rattle.recovery.proofs.Laws.NumberItem.{NumberEnd, Told, item_numbered, item_told}

module _ (g : Geometry) (saved : ℕ → ℕ) (w u : View) (plain : Plain g saved w u) where
  -- the lower holders of the number that node n holds item b with
  abbrev lower_at : ℕ → ℕ → ℕ
  lower_at n b = holders u b (number_at u n b) n

  abbrev safe_at : ℕ → ℕ → Entry → Type 0
  safe_at n b e = Live g u n → b < g.items → SafeNumber (saved b) (lower_at n b) (u.entry n b) e

  begin : (n b : ℕ) → safe_at n b (u.entry n b)
  begin n b l h = number_begins (saved b) (lower_at n b) (u.entry n b) (plain.entries n b l h)

  local : (n b : ℕ) → n < g.nodes → b < g.items → Steps (safe_at n b) (NumberEnd g u n b) (u.entry n b) (number_change g u n b)
  unfolding number_change
  local n b hn hb = go (live u n) refl (eqb (number_at u n b) 0) refl
    where
      go : (p : Bool) → live u n ≡ p → (q : Bool) → eqb (number_at u n b) 0 ≡ q
          → Steps (safe_at n b) (NumberEnd g u n b) (u.entry n b)
          (cond (p && not q) (settled (number_after (number_at u n b) (lower_at n b) (holders u b (3 - number_at u n b) g.nodes)) (u.entry n b)) [])
      go true l true z = last (begin n b) (record {
        none = λ _. no_copy_lem;
        some = λ _ d. absurd (d (eqb-true (number_at u n b) 0 z));
      })
        where
          no_copy_lem : number_at u n b ≡ 0 → current (u.entry n b) ≡ 0
          no_copy_lem e = elim (ℕ_discrete (current (u.entry n b)) 0) [
            | yes q ↦ q
            | no q ↦ absurd ((plain.entries n b (test_live g u n hn l) hb).code q e)
          ]
      go true l false z =
          let d : number_at u n b ≢ 0 = eqb-false (number_at u n b) 0 z in
          steps_map (λ e s _ _. s) (λ e s. record { none = λ _ q. absurd (d q); some = λ _ _. s })
          (number_steps (saved b) (u.entry n b) (plain.entries n b (test_live g u n hn l) hb) d (lower_at n b) (holders u b (3 - number_at u n b) g.nodes))
      go false l true z = last (begin n b) (record { none = λ t. absurd (no_both t l); some = λ t. absurd (no_both t l) })
      go false l false z = last (begin n b) (record { none = λ t. absurd (no_both t l); some = λ t. absurd (no_both t l) })

  module _ (x : View) (ex : Each safe_at u x) where
    was_live : (n : ℕ) → Live g x n → Live g u n
    was_live n l = record { there = l.there; marked = λ z. l.marked (ap (λ f. f n) ex.marks ∙ z) }

    -- the lowest holder of a number that was there is there still
    has_one : (b : ℕ) → b < g.items → (n : ℕ) × HasOne g u b n → (n : ℕ) × HasOne g x b n
    unfolding holders
    has_one b hb (n, o) =
        let k : Coded (current (u.entry n b)) = number_code (current (u.entry n b)) ((plain.entries n b o.alive hb).code o.copied) in
        let i = number_at u n b in
        let p = has u b (shared_ck i) in
        let (m, r) = ranked g.nodes p 0 (count_some g.nodes p n o.alive.there (has_at_lem u b n (shared_ck i) (live_test g u n o.alive) k.code)) in
        let c : current (u.entry m b) ≡ shared_ck i = has_code u b m (shared_ck i) r.holds in
        let l : Live g u m = test_live g u m r.within (has_live u b m (shared_ck i) r.holds) in
        let q : number_at u m b ≡ i = ap checkpoint_of c ∙ code_number i k.low k.high in
        let same : x.entry m b ≡ u.entry m b = (ex.entries m b l hb).lowest (ap (λ j. count (has u b (shared_ck j)) m) q ∙ r.lower) in (
          m,
          record {
            alive = record { there = r.within; marked = λ z. l.marked (sym (ap (λ f. f m) ex.marks) ∙ z) };
            copied = λ z. let s : shared_ck i ≡ 0 = sym c ∙ sym (ap current same) ∙ z in omega arith;
          },
        )

    stays_plain : Plain g saved w x
    stays_plain = record {
      marks = ex.marks ∙ plain.marks;
      entries = λ n b l h. (ex.entries n b (was_live n l) h).plain;
      frames = λ n s l h.
          let f = used_no_more g u x n s (λ c i. (ex.entries n c (was_live n l) i).frames) in
          let m = plain.frames n s (was_live n l) h in
          omega arith;
      there = λ b h. has_one b h (plain.there b h);
    }

    -- at the end
    all_numbered :
        Passed (λ k. k % g.nodes) (λ k. k / g.nodes) (λ k. NumberEnd g u (k % g.nodes) (k / g.nodes)) u (g.items * g.nodes) x
        → (b : ℕ) → b < g.items → Numbered g x b × Told g u x b
    all_numbered px b hb = from_one (plain.there b hb)
      where
        end_at : (n : ℕ) → n < g.nodes → NumberEnd g u n b (x.entry n b)
        end_at n hn =
            let e = px.good (b * g.nodes + n) (digits_lt hb hn) in
            rw (digits_div b hn, digits_mod b hn) at e

        from_one : (n : ℕ) × HasOne g u b n → Numbered g x b × Told g u x b
        from_one (n, o) =
            let held = (plain.entries n b o.alive hb).code o.copied in (
              item_numbered g u x b ex.marks end_at n o.alive.there (live_test g u n o.alive) held,
              item_told g u x b ex.marks end_at n o.alive.there (live_test g u n o.alive) held,
            )

-- THE LAW
pub number_via :
    (g : Geometry) (saved : ℕ → ℕ) (w u : View) → Plain g saved w u
    → Via g (Plain g saved w) (λ x. (b : ℕ) → b < g.items → Numbered g x b × Told g u x b) u (number_stores g u)
unfolding number_stores
number_via g saved w u plain =
    via_loosen
    (via_weaken
    (pass_via g (safe_at g saved w u plain) u (λ k. k % g.nodes) (λ k. k / g.nodes) (g.items * g.nodes) (columns_within g.nodes g.items)
    (λ k d _ _ e f. grid_once g.nodes k d f e) (λ k. NumberEnd g u (k % g.nodes) (k / g.nodes))
    (λ k. number_change g u (k % g.nodes) (k / g.nodes)) u
    (λ k h. let i = columns_within g.nodes g.items k h in local g saved w u plain (k % g.nodes) (k / g.nodes) i.0 i.1)
    (record { marks = refl; entries = begin g saved w u plain }))
    (λ x ex px. all_numbered g saved w u plain x ex px))
    (λ x ex. stays_plain g saved w u plain x ex)
