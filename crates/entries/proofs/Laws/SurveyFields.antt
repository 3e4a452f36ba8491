-- A tally by its counts: no count runs over into the next.
use Prim.Native.Nat.{ℕ, zero, suc, ◌+◌, ◌*◌, ◌/◌, ◌%◌, ◌^◌, ◌<◌, ◌≤◌}
use mathlib.Core.Path.{◌≡◌, refl, ap, ◌∙◌}
use mathlib.Core.Bool.{Bool, true, not, cond}
use native.Mathlib.Omega.{arith}
use lib.Dec.{eqb, ltb}
use borrow.Author.Tests.{eqb-true, eq-eqb, ltb-true}
use Rattle.counting.proofs.Laws.Tests.{both, by_cases, bool_iff}
use Rattle.counting.specs.Bits.{bit_at}
use Rattle.counting.specs.Counting.{every, sum, count, one}
use Rattle.counting.proofs.Laws.Counting.{every_at, one_same, count_le}
use Rattle.counting.proofs.Laws.Values.{count_seen}
use Rattle.counting.proofs.Laws.Crowded.{sum_most}
use Rattle.table.specs.View.{View, live}
use Rattle.entries.proofs.Laws.Frames.{frame_le}
use Rattle.entries.specs.code.Survey.{codes_form, holds, keeps, holds_at, keeps_at, frames_by, weight_of, top_at, live_top, weight_at, held_values, kept_values}

-- ---- a weight

abbrev holds_rule : ℕ → Bool
holds_rule i = eqb (one (eqb (weight_of i % 32) 0)) (one (not (holds i)))

abbrev keeps_rule : ℕ → Bool
keeps_rule i = eqb (one (eqb (weight_of i / 32 % 1024) 0)) (one (not (keeps i)))

-- the constants of the code
abbrev held_rule : ℕ → Bool
held_rule i = eqb (one (bit_at 0x77117770 i)) (one (holds i))

abbrev kept_bit_rule : ℕ → Bool
kept_bit_rule i = eqb (one (bit_at 0x66006666 i)) (one (keeps i))

abbrev frames_rule : ℕ → Bool
frames_rule i = eqb (weight_of i / 2 ^ 45) (frames_by i + one (not (codes_form i)) * 1024)

abbrev small_rule : ℕ → Bool
small_rule i = ltb (weight_of i) (2 ^ 56)

module _ (top : ℕ) (small : top < 64) where
  pub weight_holds : eqb (weight_of top % 32) 0 ≡ not (holds top)
  unfolding every weight_of holds keeps_at holds_at frames_by codes_form
  weight_holds = one_same _ _ (eqb-true _ _ (every_at 64 holds_rule refl top small))

  pub weight_keeps : eqb (weight_of top / 32 % 1024) 0 ≡ not (keeps top)
  unfolding every weight_of holds keeps keeps_at holds_at frames_by codes_form
  weight_keeps = one_same _ _ (eqb-true _ _ (every_at 64 keeps_rule refl top small))

  pub held_bit : bit_at 0x77117770 top ≡ holds top
  unfolding every bit_at holds codes_form
  held_bit = one_same _ _ (eqb-true _ _ (every_at 64 held_rule refl top small))

  pub kept_bit : bit_at 0x66006666 top ≡ keeps top
  unfolding every bit_at keeps codes_form
  kept_bit = one_same _ _ (eqb-true _ _ (every_at 64 kept_bit_rule refl top small))

  -- the frames, and 1024 more of an entry out of form
  pub weight_frames : weight_of top / 2 ^ 45 ≡ frames_by top + one (not (codes_form top)) * 1024
  unfolding every weight_of holds keeps_at holds_at frames_by codes_form
  weight_frames = eqb-true _ _ (every_at 64 frames_rule refl top small)

  pub weight_small : weight_of top < 2 ^ 56
  unfolding every weight_of holds keeps_at holds_at frames_by codes_form
  weight_small = ltb-true _ _ (every_at 64 small_rule refl top small)

-- ---- a kept copy is at one of two codes; an entry has two frames at most

pub form_codes : (top : ℕ) → codes_form top ≡ true → (top / 4 < 8) × (top % 4 < 3)
unfolding codes_form
form_codes top e = let k = both (ltb (top / 4) 8) e in (ltb-true _ _ k.0, ltb-true _ _ (both (ltb (top % 4) 3) k.1).0)

abbrev kept_rule : ℕ → Bool
kept_rule k = eqb (one (not (eqb k 0))) (one (eqb k 1) + one (eqb k 2))

kept_two : (k : ℕ) → k < 3 → one (not (eqb k 0)) ≡ one (eqb k 1) + one (eqb k 2)
unfolding every
kept_two k h = eqb-true _ _ (every_at 3 kept_rule refl k h)

keeps_two : (top : ℕ) → one (keeps top) ≡ one (keeps_at 1 top) + one (keeps_at 2 top)
unfolding keeps keeps_at
keeps_two top = by_cases (codes_form top) (λ e. rw e (kept_two (top % 4) (form_codes top e).1)) (λ e. rw e refl)

pub none_of : (i j c : ℕ) → c ≡ i + j → eqb (i + j * 2 ^ 5) 0 ≡ eqb c 0
none_of i j c e = bool_iff (eqb (i + j * 2 ^ 5) 0) (eqb c 0)
    (λ h. eq-eqb c 0 (omega (arith, eqb-true (i + j * 2 ^ 5) 0 h)))
    (λ h. eq-eqb (i + j * 2 ^ 5) 0 (omega (arith, eqb-true c 0 h)))

pub frames_two : (top : ℕ) → frames_by top ≤ 2
unfolding frames_by
frames_two top = by_cases (codes_form top) (λ e. rw e (omega (arith, frame_le (top / 4), frame_le (top % 4)))) (λ e. rw e (omega arith))

-- ---- a tally over the nodes below n

module _ (v : View) (b : ℕ) where
  -- the frames of a live node
  abbrev frames : ℕ → ℕ
  frames m = cond (live v m) (frames_by (top_at v b m)) 0

  -- what a node adds to each field
  weight_fields :
      (n : ℕ)
      → weight_at v b n
      ≡ one (live_top holds v b n)
      + one (live_top (keeps_at 1) v b n) * 2 ^ 5
      + one (live_top (keeps_at 2) v b n) * 2 ^ 10
      + one (live_top (holds_at 2) v b n) * 2 ^ 15
      + one (live_top (holds_at 3) v b n) * 2 ^ 20
      + one (live_top (holds_at 4) v b n) * 2 ^ 25
      + one (live_top (holds_at 5) v b n) * 2 ^ 30
      + one (live_top (holds_at 6) v b n) * 2 ^ 35
      + one (live_top (holds_at 7) v b n) * 2 ^ 40
      + frames n * 2 ^ 45
      + one (live_top (λ top. not (codes_form top)) v b n) * 2 ^ 55
  unfolding weight_at weight_of
  weight_fields n = by_cases (live v n) (λ e. rw e refl) (λ e. rw e refl)

  pub tally_fields :
      (n : ℕ)
      → sum (weight_at v b) n
      ≡ count (live_top holds v b) n
      + count (live_top (keeps_at 1) v b) n * 2 ^ 5
      + count (live_top (keeps_at 2) v b) n * 2 ^ 10
      + count (live_top (holds_at 2) v b) n * 2 ^ 15
      + count (live_top (holds_at 3) v b) n * 2 ^ 20
      + count (live_top (holds_at 4) v b) n * 2 ^ 25
      + count (live_top (holds_at 5) v b) n * 2 ^ 30
      + count (live_top (holds_at 6) v b) n * 2 ^ 35
      + count (live_top (holds_at 7) v b) n * 2 ^ 40
      + sum (λ m. cond (live v m) (frames_by (top_at v b m)) 0) n * 2 ^ 45
      + count (live_top (λ top. not (codes_form top)) v b) n * 2 ^ 55
  unfolding sum count
  tally_fields zero = refl
  tally_fields (suc n) = omega (arith, tally_fields n, weight_fields n)

  pub keeps_count : (n : ℕ) → count (live_top keeps v b) n ≡ count (live_top (keeps_at 1) v b) n + count (live_top (keeps_at 2) v b) n
  unfolding count
  keeps_count zero = refl
  keeps_count (suc n) =
      let e : one (live_top keeps v b n) ≡ one (live_top (keeps_at 1) v b n) + one (live_top (keeps_at 2) v b n)
      = by_cases (live v n) (λ l. rw l (keeps_two (top_at v b n))) (λ l. rw l refl) in
      omega (arith, keeps_count n)

  frames_few : (n : ℕ) → sum frames n ≤ 2 * n
  frames_few n =
      omega (arith, sum_most n 2 frames (λ m _. by_cases (live v m) (λ l. rw l (frames_two (top_at v b m))) (λ l. rw l (omega arith))))

  module _ (n : ℕ) (few : n < 32) where
    pub tally_held : eqb (sum (weight_at v b) n % 32) 0 ≡ not (held_values v b n).seen
    unfolding held_values
    tally_held =
        let e : sum (weight_at v b) n % 32 ≡ count (live_top holds v b) n = omega (arith, tally_fields n, count_le n (live_top holds v b)) in
        ap (λ c. eqb c 0) e ∙ count_seen n (live_top holds v b) (λ m. (v.entry m b).value)

    pub tally_kept : eqb (sum (weight_at v b) n / 32 % 1024) 0 ≡ not (kept_values v b n).seen
    unfolding kept_values
    tally_kept =
        let e : sum (weight_at v b) n / 32 % 1024 ≡ count (live_top (keeps_at 1) v b) n + count (live_top (keeps_at 2) v b) n * 2 ^ 5
        = omega (
          arith,
          tally_fields n,
          count_le n (live_top holds v b),
          count_le n (live_top (keeps_at 1) v b),
          count_le n (live_top (keeps_at 2) v b),
        ) in
        ap (λ c. eqb c 0) e ∙ none_of _ _ _ (keeps_count n) ∙ count_seen n (live_top keeps v b) (λ m. (v.entry m b).kept_value)

    pub tally_small : sum (weight_at v b) n < 2 ^ 61
    tally_small = omega (
      arith,
      tally_fields n,
      frames_few n,
      count_le n (live_top holds v b),
      count_le n (live_top (keeps_at 1) v b),
      count_le n (live_top (keeps_at 2) v b),
      count_le n (live_top (holds_at 2) v b),
      count_le n (live_top (holds_at 3) v b),
      count_le n (live_top (holds_at 4) v b),
      count_le n (live_top (holds_at 5) v b),
      count_le n (live_top (holds_at 6) v b),
      count_le n (live_top (holds_at 7) v b),
      count_le n (live_top (λ top. not (codes_form top)) v b),
    )
