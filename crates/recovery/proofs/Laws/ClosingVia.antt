-- The closing marks, cut anywhere: the largest number stays the number of the point, and all entries are plain, so the survivors are as ready as before
-- whichever side their phases choose. And what all of them leave.
use Prim.Native.Nat.{ℕ, ◌-◌, ◌^◌, ◌≤◌, ◌<◌}
use mathlib.Core.Path.{◌≡◌, refl, sym, ap, ◌∙◌, subst}
use mathlib.Core.Logic.{◌⊎◌, inl, inr}
use mathlib.Core.Bool.{true, not}
use native.Mathlib.Omega.{arith}
use lib.Dec.{eqb}
use Rattle.counting.proofs.Laws.Counting.{only_same}
use Rattle.table.specs.declared.geometry.Geometry.{Geometry}
use Rattle.table.specs.Words.{mark_form, number_of, mark_word, shared_ck1, shared_ck2}
use Rattle.table.proofs.Laws.Words.{number_mark}
use Rattle.table.proofs.Laws.Forms.{mark_form_lem}
use Rattle.table.specs.View.{View, live, current, marks_to}
use Rattle.table.proofs.Laws.Via.{Via, via_weaken}
use Rattle.table.proofs.Laws.MarksPass.{Mixed, Marking, marks_via, marks_live}
use Rattle.entries.specs.Frames.{used, frames_at}
use Rattle.entries.specs.Tally.{has}
use Rattle.homes.proofs.Laws.Kept.{Live, live_test, test_live}
use Rattle.survivors.specs.Survivors.{largest, largest_number, closing_stores}
use Rattle.recovery.proofs.Laws.Largest.{largest_at, largest_least, largest_stays}
use Rattle.survivors.specs.Direction.{forward_in}
use Rattle.recovery.proofs.Laws.PlainSides.{plain_sided}
use Rattle.recovery.proofs.Laws.Ready.{Ready, Going, Plain, HasOne, Paired}
use Rattle.recovery.proofs.Laws.Recovered.{Recovered}

-- ---- the number of a point

number_low : (m : ℕ) → number_of m ≤ 2 ^ 32 - 1
number_low m = omega arith

pub largest_fits : (g : Geometry) (w : View) → largest_number g w < 2 ^ 32
unfolding largest_number
largest_fits g w =
    let l = largest_least g.nodes (λ n. number_of (w.mark n)) (2 ^ 32 - 1) (λ n _. number_low (w.mark n)) in
    omega arith

pub ready_fits : (g : Geometry) (saved : ℕ → ℕ) (number : ℕ) (w : View) → Ready g saved number w → number < 2 ^ 32
ready_fits g saved number w r = rw r.point at (largest_fits g w)

module _
    (g : Geometry) (saved : ℕ → ℕ) (number : ℕ) (w u : View) (r : Ready g saved number w) (p : Plain g saved w u)
    (pairs : (b : ℕ) → b < g.items → Paired g u b) where
  fits : number < 2 ^ 32
  fits = ready_fits g saved number w r

  new : ℕ → ℕ
  new x = mark_word 0 number

  point_same : largest_number g u ≡ number
  unfolding largest_number
  point_same = ap (λ f. largest (λ n. number_of (f n)) g.nodes) p.marks ∙ r.point

  number_under : (n : ℕ) → n < g.nodes → number_of (u.mark n) ≤ number
  unfolding largest_number
  number_under n l = rw (← point_same) (largest_at g.nodes (λ n. number_of (u.mark n)) n l)

  was_live : (n : ℕ) → live u n ≡ live w n
  was_live n = ap (λ f. not (eqb (f n) 0)) p.marks

  still : (n : ℕ) → Live g w n → Live g u n
  still n l = test_live g u n l.there (was_live n ∙ live_test g w n l)

  -- ---- every cut

  module _ (x : View) (e : x.entry ≡ u.entry) (m : Mixed g u new x) where
    lives : (n : ℕ) → live x n ≡ live u n
    unfolding new
    lives = marks_live g u new (λ y z. omega arith) x m

    before : (n : ℕ) → Live g x n → Live g u n
    before n l = test_live g u n l.there (sym (lives n) ∙ live_test g x n l)

    at_start_lem : (n : ℕ) → Live g x n → Live g w n
    at_start_lem n l = test_live g w n l.there (sym (was_live n) ∙ sym (lives n) ∙ live_test g x n l)

    frames_same : (n s : ℕ) → used g x n s ≡ used g u n s
    unfolding used frames_at
    frames_same n s = rw e refl

    form_at : (n : ℕ) → Live g x n → mark_form (x.mark n) ≡ true
    unfolding new
    form_at n l = go (m n)
      where
        go : (x.mark n ≡ u.mark n) ⊎ ((live u n ≡ true) × (x.mark n ≡ mark_word 0 number)) → mark_form (x.mark n) ≡ true
        go (inl q) = ap mark_form q ∙ ap (λ f. mark_form (f n)) p.marks ∙ r.marks n (at_start_lem n l)
        go (inr (t, q)) = ap mark_form q ∙ mark_form_lem 0 number (omega arith) fits

    -- each number is as it was, or the number of the point
    rises : (n : ℕ) → n < g.nodes → (number_of (u.mark n) ≤ number_of (x.mark n)) × (number_of (x.mark n) ≤ number)
    unfolding new
    rises n l = go (m n)
      where
        go : (x.mark n ≡ u.mark n) ⊎ ((live u n ≡ true) × (x.mark n ≡ mark_word 0 number))
            → (number_of (u.mark n) ≤ number_of (x.mark n)) × (number_of (x.mark n) ≤ number)
        go (inl q) = let k = number_under n l in rw q (omega arith, k)
        go (inr (t, q)) = let k = number_under n l in rw (q, number_mark 0 number (omega arith) fits) (k, omega arith)

    point_stays : largest_number g x ≡ number
    unfolding largest_number
    point_stays =
        largest_stays g.nodes (λ n. number_of (u.mark n)) (λ n. number_of (x.mark n)) (λ n l. (rises n l).0)
        (λ n l. rw point_same (rises n l).1)
        ∙ point_same

    entry_at_lem : (n b : ℕ) → x.entry n b ≡ u.entry n b
    entry_at_lem n b = ap (λ f. f n b) e

    has_one : (b : ℕ) → b < g.items → (n : ℕ) × HasOne g x b n
    has_one b h =
        let o = p.there b h in (
          o.0,
          record {
            alive = test_live g x o.0 o.1.alive.there (lives o.0 ∙ live_test g u o.0 o.1.alive);
            copied = λ z. o.1.copied (sym (ap current (entry_at_lem o.0 b)) ∙ z);
          },
        )

    cut_going : Going g saved number w x
    cut_going = record {
      ready = record {
        marks = form_at;
        forms = λ n b l h. rw (entry_at_lem n b) (p.entries n b (before n l) h).form;
        frames = λ n s l h. rw (frames_same n s) (p.frames n s (before n l) h);
        side = plain_sided g saved x (λ n b l h. rw (entry_at_lem n b) (p.entries n b (before n l) h)) has_one (forward_in g x);
        point = point_stays;
      };
      same = λ n. lives n ∙ was_live n;
    }

    has_same : (b code n : ℕ) → has u b code n ≡ has x b code n
    has_same b code n = rw (lives n, entry_at_lem n b) refl

    paired_still : (b : ℕ) → Paired g u b → Paired g x b
    paired_still b k = record {
      one = k.one;
      two = k.two;
      first = only_same g.nodes (has u b shared_ck1) (has x b shared_ck1) k.one (λ n l. has_same b shared_ck1 n) k.first;
      second = only_same g.nodes (has u b shared_ck2) (has x b shared_ck2) k.two (λ n l. has_same b shared_ck2 n) k.second;
    }

  -- ---- all of them

  ends : (x : View) → Marking g u new g.nodes x → Recovered g saved number w x
  unfolding new
  ends x m = record {
    marks = λ n l. m.new n l.there (live_test g u n (still n l));
    dead = λ n d. m.dead n (was_live n ∙ d) ∙ ap (λ f. f n) p.marks;
    entries = λ n b l h. rw (entry_at_lem x m.entries m.mixed n b) (p.entries n b (still n l) h);
    frames = λ n s l h. rw (frames_same x m.entries m.mixed n s) (p.frames n s (still n l) h);
    pairs = λ b h. paired_still x m.entries m.mixed b (pairs b h);
  }

  pub closing_via : Via g (Going g saved number w) (Recovered g saved number w) u (closing_stores g u)
  unfolding closing_stores new
  closing_via =
      subst (λ k. Via g (Going g saved number w) (Recovered g saved number w) u (marks_to g u (λ x. mark_word 0 k))) (sym point_same)
      (via_weaken (marks_via g u new (Going g saved number w) cut_going (cut_going u refl (λ n. inl refl))) (λ x _ m. ends x m))
