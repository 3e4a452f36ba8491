-- The census of one entry: what its weight tells on a side, and what the code makes of it.
use Prim.Native.Nat.{ℕ, ◌+◌, ◌*◌, ◌/◌, ◌%◌, ◌^◌, ◌≤◌, ◌<◌}
use mathlib.Core.Path.{◌≡◌, refl, sym, ap, ◌∙◌}
use mathlib.Core.Logic.{◌≢◌}
use mathlib.Core.Bool.{Bool, true, false, cond, not, ◌&&◌, ◌||◌, and_comm}
use mathlib.Core.List.{List}
use native.Mathlib.Omega.{arith}
use native.Mathlib.Decide.{ℕ_discrete}
use lib.Bits.{bit_xor}
use lib.Dec.{eqb}
use lib.ListN.{get_or, set}
use borrow.Author.Tests.{eqb-true, eq-eqb, ne_eqb}
use Rattle.counting.proofs.Laws.Tests.{by_cases, no_both}
use Rattle.counting.proofs.Laws.Differences.{none_differ}
use Rattle.counting.specs.Counting.{every, one}
use Rattle.counting.proofs.Laws.Counting.{every_at, one_le, one_same}
use Rattle.table.specs.Words.{current_of, kept_of}
use Rattle.table.specs.View.{Entry, current, kept, entry_in}
use Rattle.table.specs.Copies.{copy_number, copy_value}
use Rattle.table.proofs.Laws.Copies.{back_number_lem, back_value_lem}
use Rattle.entries.specs.Frames.{frame_of, frames_in}
use Rattle.entries.proofs.Laws.Frames.{frame_le, frames_two}
use Rattle.entries.specs.code.Row.{top_of}
use Rattle.entries.proofs.Laws.Row.{quarter}
use Rattle.entries.specs.code.Survey.{codes_form}
use Rattle.entries.proofs.Laws.SurveySound.{form_parts}
use Rattle.checkpoints.proofs.Laws.Forward.{by_number, forward_value}
use Rattle.recovery.specs.Sides.{copy_on}
use Rattle.recovery.specs.code.Tallies.{number_weight}
use Rattle.recovery.specs.code.Notes.{has_on}
use Rattle.recovery.proofs.Laws.Notes.{number_small}
use Rattle.recovery.specs.code.Census.{number_on, place_on, side_bits, Weighed, EntryNoted}

-- ---- an entry's codes on a side

number_on_lem : (forward : Bool) (e : Entry) → copy_number (copy_on forward e) ≡ number_on forward (current e) (kept e)
number_on_lem true e = by_number _ e.value e.kept_value
number_on_lem false e = back_number_lem e

-- back, the value is the kept one exactly where the number is
back_place :
    (c k x y : ℕ) → number_on false c k ≢ 0 → cond (eqb c 4 || eqb c 5) x y ≡ cond (eqb (place_on false c k) 0) x y
back_place c k x y = go (eqb c 4) (eqb c 5)
  where
    go : (p q : Bool) → cond p 1 (cond q 2 k) ≢ 0 → cond (p || q) x y ≡ cond (eqb (cond (p || q) 0 (frame_of k)) 0) x y
    go true q d = refl
    go false true d = refl
    go false false d = rw (ne_eqb k 0 d) refl

value_on :
    (forward : Bool) (e : Entry) → number_on forward (current e) (kept e) ≢ 0
    → copy_value (copy_on forward e) ≡ cond (eqb (place_on forward (current e) (kept e)) 0) e.value e.kept_value
value_on true e d = forward_value e (λ z. d (sym (number_on_lem true e) ∙ z))
value_on false e d = back_value_lem e (λ z. d (sym (back_number_lem e) ∙ z)) ∙ back_place (current e) (kept e) e.value e.kept_value d

place_small : (forward : Bool) (c k : ℕ) → place_on forward c k ≤ 1
place_small true c k = omega arith
place_small false c k = by_cases (eqb c 4 || eqb c 5) (λ z. rw z (omega arith)) (λ z. rw z (frame_le k))

-- a number has a weight unless it is 0
weight_zero : (k : ℕ) → k < 4 → eqb (number_weight k) 0 ≡ eqb k 0
unfolding every
weight_zero k h = one_same _ _ (eqb-true _ _ (every_at 4 (λ k. eqb (one (eqb (number_weight k) 0)) (one (eqb k 0))) refl k h))

-- ---- its weight

module _ (forward : Bool) (w : ℕ) {r : ℕ} (h : r ≡ side_bits forward (top_of w)) where
  abbrev number_by : ℕ
  number_by = number_on forward (top_of w / 4) (top_of w % 4)

  codes_number : (e : Entry) → e.state ≡ w → copy_number (copy_on forward e) ≡ number_by
  codes_number e s = number_on_lem forward e ∙ ap (λ x. number_on forward (current_of x) (kept_of x)) s ∙ ap (λ x. number_on forward x (top_of w % 4)) (quarter w)

  codes_place : (e : Entry) → e.state ≡ w → place_on forward (current e) (kept e) ≡ place_on forward (top_of w / 4) (top_of w % 4)
  codes_place e s = ap (λ x. place_on forward (current_of x) (kept_of x)) s ∙ ap (λ x. place_on forward x (top_of w % 4)) (quarter w)

  frames_by_lem : frames_in w ≡ frame_of (top_of w / 4) + frame_of (top_of w % 4)
  unfolding frames_in
  frames_by_lem = ap (λ x. frame_of x + frame_of (top_of w % 4)) (quarter w)

  weighed : Weighed forward w r
  unfolding side_bits
  weighed = record {
    first = number_by % 2;
    second = number_by / 2 % 2;
    out = one (not (codes_form (top_of w)));
    place = place_on forward (top_of w / 4) (top_of w % 4);
    has = one (not (eqb number_by 0));
    is = h ∙ ap
        (λ x. x + 2 ^ 10 * (number_by % 2) + 2 ^ 20 * (number_by / 2 % 2) + 2 ^ 30 * one (not (codes_form (top_of w)))
        + 2 ^ 40 * place_on forward (top_of w / 4) (top_of w % 4) + 2 ^ 50 * one (not (eqb number_by 0)))
        (sym frames_by_lem);
    frames_few = frames_two w;
    first_few = omega arith;
    second_few = omega arith;
    out_few = one_le (not (codes_form (top_of w)));
    place_few = place_small forward (top_of w / 4) (top_of w % 4);
    has_few = one_le (not (eqb number_by 0));
    number = λ e s. ap (λ k. number_weight k) (codes_number e s);
    some = λ e s. ap not (sym (weight_zero (copy_number (copy_on forward e)) (number_small forward e))) ∙ ap (λ k. not (eqb (number_weight k) 0)) (codes_number e s);
    held = λ e s. ap (λ k. one (not (eqb k 0))) (sym (codes_number e s));
    value = λ e s d.
        value_on forward e (λ z. no_both d (ap (λ k. not (eqb k 0)) (number_on_lem forward e ∙ z)))
        ∙ ap (λ x. cond (eqb x 0) e.value e.kept_value) (codes_place e s);
    form = form_parts w ∙ and_comm (eqb (w % 2 ^ 58) 0) (codes_form (top_of w)) ∙ ap (λ q. q && eqb (w % 2 ^ 58) 0) (none_out (codes_form (top_of w)));
  }
    where
      none_out : (q : Bool) → q ≡ eqb (one (not q)) 0
      none_out true = refl
      none_out false = refl

-- ---- what the code makes of an entry

place_read : (t : List ℕ) (at place : ℕ) → place ≤ 1 → get_or t (at + 1 + place) 0 ≡ cond (eqb place 0) (get_or t (at + 1) 0) (get_or t (at + 2) 0)
place_read t at place h = elim (ℕ_discrete place 0) [
  | yes z ↦ (let e : at + 1 + 0 ≡ at + 1 = omega arith in rw (z, e) refl)
  | no z ↦ (let e : place ≡ 1 = omega arith in let q : at + 1 + 1 ≡ at + 2 = omega arith in rw (e, q) refl)
]

module _ (forward : Bool) (step : ℕ) (t : List ℕ) (at j : ℕ) (s f : List ℕ) {r x known first taken : ℕ} (h : r ≡ side_bits forward (top_of (get_or t at 0)))
    (read : x ≡ get_or t (at + 1 + r / 2 ^ 40 % 2) 0) (met : known ≡ cond (eqb (get_or s j 0) 0) x (get_or f j 0))
    (noted : first ≡ cond (eqb (r / 1024 % 2048) 0) (get_or f j 0) known) (chosen : taken ≡ cond (eqb (r / 1024 % 2048) 0) x known) where
  abbrev e : Entry
  e = entry_in t at

  own : Weighed forward (get_or t at 0) r
  own = weighed forward (get_or t at 0) h

  adds : r / 1024 % 2048 ≡ own.first + 2 ^ 10 * own.second
  adds = omega (arith, own.is, own.frames_few, own.first_few, own.second_few)

  kept_digit : r / 2 ^ 40 % 2 ≡ own.place
  kept_digit = omega (arith, own.is, own.frames_few, own.first_few, own.second_few, own.out_few, own.place_few)

  x_read : x ≡ cond (eqb own.place 0) e.value e.kept_value
  x_read = read ∙ ap (λ i. get_or t (at + 1 + i) 0) kept_digit ∙ place_read t at own.place own.place_few

  has_adds : has_on forward e ≡ not (eqb (r / 1024 % 2048) 0)
  has_adds = own.some e refl ∙ ap (λ k. not (eqb k 0)) (sym adds)

  x_copy : has_on forward e ≡ true → x ≡ copy_value (copy_on forward e)
  x_copy d = x_read ∙ sym (own.value e refl d)

  pub entry_noted :
      EntryNoted forward step e j s (set s j (get_or s j 0 + r / 1024 % 2048 * step)) f (set f j first)
      (record { weight = r; low = get_or t at 0 % 2 ^ 58; differ = bit_xor x taken })
  entry_noted = record {
    weighed = own;
    low = refl;
    agree = none_differ x taken ∙ by_cases (eqb (r / 1024 % 2048) 0)
        (λ z. let q : has_on forward e ≡ false = has_adds ∙ ap not z in
        let w : x ≡ taken = sym (chosen ∙ rw z refl) in
        eq-eqb x taken w ∙ rw q refl)
        (λ z. let q : has_on forward e ≡ true = has_adds ∙ ap not z in
        let w : taken ≡ cond (eqb (get_or s j 0) 0) x (get_or f j 0) = chosen ∙ rw z met in
        rw (q, ← x_copy q, w) (by_cases (eqb (get_or s j 0) 0) (λ y. rw y (eq-eqb x x refl)) (λ y. rw y refl)));
    tallies = ap (λ k. set s j (get_or s j 0 + k * step)) (adds ∙ sym (own.number e refl));
    firsts = ap (λ y. set f j y)
        (noted ∙ by_cases (eqb (r / 1024 % 2048) 0)
        (λ z. let q : has_on forward e ≡ false = has_adds ∙ ap not z in rw (z, q) refl)
        (λ z. let q : has_on forward e ≡ true = has_adds ∙ ap not z in rw (z, q, ← x_copy q) met));
  }
