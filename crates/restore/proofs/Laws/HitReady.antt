-- A hit: whatever the words of the lost node become, the survivors are as they were.
use Rattle.std.specs.Prelude.{None, Option, Some}
use Prim.Native.Nat.{ℕ, ◌+◌, ◌*◌, ◌≤◌, ◌<◌}
use mathlib.Core.Path.{◌≡◌, refl, ap, ◌∙◌, fun_ext}
use mathlib.Core.Logic.{◌≢◌}
use mathlib.Core.Bool.{true, false, cond}
use mathlib.Core.List.{List}
use native.Mathlib.Omega.{arith}
use native.Mathlib.Decide.{ℕ_discrete, dec_lt}
use native.Mathlib.Nat.{mul-le-mul_right}
use lib.Arith.{digits_lt}
use lib.Dec.{leb, ltb}
use lib.ListN.{get_or}
use borrow.Author.Tests.{eq-eqb, ne_eqb, lt-leb, le-ltb, ltb-true}
use Rattle.counting.proofs.Laws.Tests.{by_cases, no_both, and_no}
use Rattle.table.specs.declared.geometry.Geometry.{Geometry}
use Rattle.table.specs.Geometry.{mark_at, entry_at}
use Rattle.table.specs.View.{View, view, live, there, entry_in, blank}
use Rattle.table.proofs.Laws.View.{entry_same}
use Rattle.entries.proofs.Laws.CheckFacts.{Shape}
use Rattle.homes.proofs.Laws.Kept.{Live}
use Rattle.homes.proofs.Laws.FramesKept.{used_no_more}
use Rattle.survivors.specs.Survivors.{survivors}
use Rattle.recovery.proofs.Laws.Ready.{Ready}
use Rattle.recovery.proofs.Laws.SameMarks.{same_live, live_same, same_going}
use Rattle.restore.specs.Strike.{live_or_none, of_node, of_lost, Hit}

-- ---- the same survivors with the same entries are as ready

pub ready_same :
    (g : Geometry) (saved : ℕ → ℕ) (number : ℕ) (w u : View) → u.mark ≡ w.mark
    → ((n b : ℕ) → Live g w n → b < g.items → u.entry n b ≡ w.entry n b) → Ready g saved number w → Ready g saved number u
ready_same g saved number w u m e r =
    (same_going g w u m saved number r
    (λ n b l h. rw (same n b l h) (r.forms n b (back n l) h))
    (λ n s l h.
    let f = used_no_more g w u n s (λ b i. rw (same n b l i) (omega arith)) in
    let k = r.frames n s (back n l) h in
    omega arith)
    (record {
      there = λ b h.
          let (n, o) = r.side.there b h in
          (n, record { alive = live_same g w u m n o.alive; copied = rw (e n b o.alive h) o.copied });
      values = λ n b l h. rw (same n b l h) (r.side.values n b (back n l) h);
    })).ready
  where
    back : (n : ℕ) → Live g u n → Live g w n
    back n l = same_live g w u m n l

    same : (n b : ℕ) → Live g u n → b < g.items → u.entry n b ≡ w.entry n b
    same n b l h = e n b (back n l) h

-- ---- words of another node

-- every word as it was
same_view : (g : Geometry) (t t' : List ℕ) → ((i : ℕ) → get_or t' i 0 ≡ get_or t i 0) → view g t' ≡ view g t
unfolding view
same_view g t t' h = λ i. record {
  mark = λ n. cond (ltb n g.nodes) (h (mark_at n) i) 0;
  entry = λ n b. cond (there g n b) (entry_same t t' (entry_at g n b) (λ k _. h (entry_at g n b + k)) i) blank;
}

module _ (g : Geometry) (lost : ℕ) (inside : lost < g.nodes) where
  pub mark_of_other : (n : ℕ) → n < g.nodes → n ≢ lost → of_node g lost (mark_at n) ≡ false
  mark_of_other n h d = rw (ne_eqb (mark_at n) (mark_at lost) (λ e. d (omega arith)), lt-leb (entry_at g lost 0) (mark_at n) (omega arith)) refl

  pub entry_of_other : (n b i : ℕ) → b < g.items → n ≢ lost → i < 3 → of_node g lost (entry_at g n b + i) ≡ false
  entry_of_other n b i hb d hi = rw (ne_eqb (entry_at g n b + i) (mark_at lost) (λ e. omega arith)) (elim (dec_lt n lost) [
    | yes l ↦ (let k = digits_lt l hb in rw (lt-leb (entry_at g lost 0) (entry_at g n b + i) (omega arith)) refl)
    | no l ↦ (let k : (lost + 1) * g.items ≤ n * g.items = mul-le-mul_right g.items (omega arith) in
        and_no (leb (entry_at g lost 0) (entry_at g n b + i)) (le-ltb (entry_at g n b + i) (entry_at g (lost + 1) 0) (omega arith)))
  ])

  module _ (t t' : List ℕ) (rest : (i : ℕ) → of_node g lost i ≡ false → get_or t' i 0 ≡ get_or t i 0) where
    other_mark : (n : ℕ) → n ≢ lost → (view g t').mark n ≡ (view g t).mark n
    unfolding view
    other_mark n d = by_cases (ltb n g.nodes) (λ y. rw y (rest (mark_at n) (mark_of_other n (ltb-true n g.nodes y) d))) (λ y. rw y refl)

    other_entry : (n b : ℕ) → b < g.items → n ≢ lost → (view g t').entry n b ≡ (view g t).entry n b
    unfolding view
    other_entry n b hb d = by_cases (there g n b) (λ y. rw y same) (λ y. rw y refl)
      where
        word : (i : ℕ) → i < 3 → get_or t' (entry_at g n b + i) 0 ≡ get_or t (entry_at g n b + i) 0
        word i h = rest (entry_at g n b + i) (entry_of_other n b i hb d h)

        same : entry_in t' (entry_at g n b) ≡ entry_in t (entry_at g n b)
        same = entry_same t t' (entry_at g n b) word

    marks_same : (survivors (Some lost) (view g t')).mark ≡ (survivors (Some lost) (view g t)).mark
    marks_same = fun_ext (λ n. elim (ℕ_discrete n lost) [
      | yes e ↦ rw (eq-eqb n lost e) refl
      | no e ↦ rw (ne_eqb n lost e) (other_mark n e)
    ])

-- ---- the hit

-- a live node is one of the table's
pub live_inside : (g : Geometry) (t : List ℕ) (n : ℕ) → live (view g t) n ≡ true → n < g.nodes
unfolding view
live_inside g t n h = by_cases (ltb n g.nodes) (λ y. ltb-true n g.nodes y) (λ y. absurd (no_both h (rw y refl)))

module _ (g : Geometry) (lost : Option ℕ) (t t' : List ℕ) (hit : Hit g lost t t') where
  pub hit_marks : (survivors lost (view g t')).mark ≡ (survivors lost (view g t)).mark
  hit_marks = go lost hit.one hit.rest
    where
      go : (lost : Option ℕ) → live_or_none (view g t) lost ≡ true → ((i : ℕ) → of_lost g lost i ≡ false → get_or t' i 0 ≡ get_or t i 0)
          → (survivors lost (view g t')).mark ≡ (survivors lost (view g t)).mark
      go None l r = fun_ext (λ n. ap (λ v. v.mark n) (same_view g t t' (λ i. r i refl)))
      go (Some n) l r = marks_same g n (live_inside g t n l) t t' r

  pub hit_entries :
      (n b : ℕ) → Live g (survivors lost (view g t)) n → b < g.items → (survivors lost (view g t')).entry n b ≡ (survivors lost (view g t)).entry n b
  hit_entries n b = go lost hit.one hit.rest
    where
      go : (lost : Option ℕ) → live_or_none (view g t) lost ≡ true → ((i : ℕ) → of_lost g lost i ≡ false → get_or t' i 0 ≡ get_or t i 0)
          → Live g (survivors lost (view g t)) n → b < g.items → (survivors lost (view g t')).entry n b ≡ (survivors lost (view g t)).entry n b
      go None l r a h = ap (λ v. v.entry n b) (same_view g t t' (λ i. r i refl))
      go (Some m) l r a h = other_entry g m (live_inside g t m l) t t' r n b h (λ e. a.marked (rw (eq-eqb n m e) refl))

  pub hit_ready :
      (saved : ℕ → ℕ) (number : ℕ) → Ready g saved number (survivors lost (view g t)) → Ready g saved number (survivors lost (view g t'))
  hit_ready saved number = ready_same g saved number (survivors lost (view g t)) (survivors lost (view g t')) hit_marks hit_entries

  pub hit_shape : Shape t g → Shape t' g
  hit_shape s = record { word = hit.rest 0 (zero_outside lost hit.one) ∙ s.word; fair = s.fair; sizes = s.sizes; long = rw hit.size s.long }
    where
      zero_outside : (lost : Option ℕ) → live_or_none (view g t) lost ≡ true → of_lost g lost 0 ≡ false
      zero_outside None l = refl
      zero_outside (Some n) l = rw (ne_eqb 0 (mark_at n) (λ e. omega arith), lt-leb (entry_at g n 0) 0 (omega arith)) refl
