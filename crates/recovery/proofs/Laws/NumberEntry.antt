-- One entry under the numbering: it stays plain, uses no more frames, and the lowest holder of its number stays as it is.
use Prim.Native.Nat.{ℕ, ◌+◌, ◌-◌, ◌≤◌, ◌<◌}
use mathlib.Core.Path.{◌≡◌, refl, sym, ap, ◌∙◌}
use mathlib.Core.Logic.{◌≢◌}
use mathlib.Core.Bool.{Bool, true, false, cond, ◌&&◌}
use mathlib.Core.List.{[], ◌∷◌}
use native.Mathlib.Omega.{arith}
use native.Mathlib.Decide.{ℕ_discrete}
use lib.Dec.{eqb}
use borrow.Author.Tests.{eqb-true, eq-eqb, ne_eqb}
use Rattle.counting.proofs.Laws.Tests.{both, and_both, no_both, by_cases}
use Rattle.table.specs.Words.{invalid, state_word, current_of, shared_ck}
use Rattle.table.proofs.Laws.Words.{current_state, kept_state}
use Rattle.table.proofs.Laws.Forms.{alone_form}
use Rattle.table.specs.Changes.{checkpoint_of}
use Rattle.table.specs.Stores.{state_to}
use Rattle.table.specs.View.{Entry, current, kept, changed}
use Rattle.table.proofs.Laws.Pass.{Steps, last, next}
use Rattle.entries.specs.Frames.{frame_of, frames_in}
use Rattle.entries.proofs.Laws.Frames.{frames_state, frame_le}
use Rattle.recovery.specs.Sides.{settled}
use Rattle.recovery.specs.Numbering.{number_after}
use Rattle.recovery.proofs.Laws.Ready.{PlainEntry}

-- ---- numbers and codes

pub code_number : (i : ℕ) → 1 ≤ i → i < 3 → checkpoint_of (shared_ck i) ≡ i
code_number i h l = elim (ℕ_discrete i 1) [ yes e ↦ rw e refl | no e ↦ (let f : i ≡ 2 = omega arith in rw f refl) ]

pub record Coded (c : ℕ) : Type 0 where
  pub code : c ≡ shared_ck (checkpoint_of c)
  pub low : 1 ≤ checkpoint_of c
  pub high : checkpoint_of c < 3

pub number_code : (c : ℕ) → checkpoint_of c ≢ 0 → Coded c
number_code c d = by_cases (eqb c 4)
    (λ e. let q : c ≡ 4 = eqb-true c 4 e in rw q (record { code = refl; low = omega arith; high = omega arith }))
    (λ e. by_cases (eqb c 5)
    (λ f. let q : c ≡ 5 = eqb-true c 5 f in rw q (record { code = refl; low = omega arith; high = omega arith }))
    (λ f. absurd (d (rw (e, f) refl))))

-- ---- what becomes of a number

pub data After (number lower others : ℕ) (code : ℕ) : Type 0 where
  stays : lower ≡ 0 → code ≡ shared_ck number → After number lower others code
  turns : lower ≡ 1 → others ≡ 0 → code ≡ shared_ck (3 - number) → After number lower others code
  goes : code ≡ invalid → After number lower others code

module _ (number lower others : ℕ) where
  pub number_after_lem : After number lower others (number_after number lower others)
  unfolding number_after
  number_after_lem = by_cases (eqb lower 0)
      (λ e. rw e (stays (eqb-true lower 0 e) refl))
      (λ e. by_cases (eqb lower 1 && eqb others 0)
      (λ f. let k = both (eqb lower 1) f in rw (e, f) (turns (eqb-true lower 1 k.0) (eqb-true others 0 k.1) refl))
      (λ f. rw (e, f) (goes refl)))

  pub after_lowest : lower ≡ 0 → number_after number lower others ≡ shared_ck number
  unfolding number_after
  after_lowest e = rw e refl

  pub after_second : lower ≡ 1 → others ≡ 0 → number_after number lower others ≡ shared_ck (3 - number)
  unfolding number_after
  after_second e f = rw (e, f) refl

  -- a Shared-CK, or Invalid
  pub after_code : 1 ≤ number → number < 3 → number_after number lower others ≢ 0 → checkpoint_of (number_after number lower others) ≢ 0
  after_code l h d = go number_after_lem
    where
      go : After number lower others (number_after number lower others) → checkpoint_of (number_after number lower others) ≢ 0
      go (stays e q) z = let k = code_number number l h in omega (arith, k, sym (ap checkpoint_of q) ∙ z)
      go (turns e f q) z = let k = code_number (3 - number) (omega arith) (omega arith) in omega (arith, k, sym (ap checkpoint_of q) ∙ z)
      go (goes q) z = d q

  pub after_small : number < 3 → number_after number lower others < 8
  after_small h = go number_after_lem
    where
      go : After number lower others (number_after number lower others) → number_after number lower others < 8
      go (stays e q) = omega arith
      go (turns e f q) = omega arith
      go (goes q) = omega arith

-- ---- one entry

-- what every single store keeps of an entry e₀ that has become e, with so many lower holders of its number
pub record SafeNumber (x lower : ℕ) (e₀ e : Entry) : Type 0 where
  pub plain : PlainEntry x e
  pub frames : frames_in e.state ≤ frames_in e₀.state + 0
  pub lowest : lower ≡ 0 → e ≡ e₀

pub number_begins : (x lower : ℕ) (e : Entry) → PlainEntry x e → SafeNumber x lower e e
number_begins x lower e p = record { plain = p; frames = omega arith; lowest = λ _. refl }

module _ (x : ℕ) (e : Entry) (plain : PlainEntry x e) (numbered : checkpoint_of (current e) ≢ 0) (lower others : ℕ) where
  abbrev next_code : ℕ
  next_code = number_after (checkpoint_of (current e)) lower others

  there : Coded (current e)
  there = number_code (current e) numbered

  code_small : next_code < 8
  code_small = after_small (checkpoint_of (current e)) lower others there.high

  code_is : current_of (state_word next_code 0) ≡ next_code
  code_is = let l = code_small in current_state next_code 0 (omega arith) (omega arith)

  abbrev turned : Entry
  turned = changed (state_to next_code invalid) e

  turned_plain : PlainEntry x turned
  turned_plain =
      let l = code_small in
      record {
        form = alone_form next_code l;
        code = λ d z. after_code (checkpoint_of (current e)) lower others there.low there.high (λ q. d (code_is ∙ q)) (sym (ap checkpoint_of code_is) ∙ z);
        nothing = kept_state next_code 0 (omega arith) (omega arith);
        value = λ _. plain.value (λ z. numbered (rw z refl));
      }

  turned_frames : frames_in turned.state ≤ frames_in e.state + 0
  unfolding frames_in
  turned_frames =
      let l = code_small in
      let new = frames_state next_code 0 (omega arith) (omega arith) in
      let old : frame_of (current e) ≡ 1 = rw (ne_eqb (current e) 0 (λ z. numbered (rw z refl))) refl in
      omega (arith, new, old, frame_le next_code)

  pub number_steps : Steps (SafeNumber x lower e) (λ e'. current e' ≡ next_code) e (settled next_code e)
  unfolding settled
  number_steps = go (eqb next_code (current e) && eqb (kept e) invalid) refl
    where
      go : (q : Bool) → (eqb next_code (current e) && eqb (kept e) invalid) ≡ q
          → Steps (SafeNumber x lower e) (λ e'. current e' ≡ next_code) e (cond q [] (state_to next_code invalid ∷ []))
      go true h = last (number_begins x lower e plain) (sym (eqb-true next_code (current e) (both (eqb next_code (current e)) h).0))
      go false h = next (number_begins x lower e plain) (last
          (record {
            plain = turned_plain;
            frames = turned_frames;
            lowest = λ z. absurd (no_both
                (and_both (eq-eqb next_code (current e) (after_lowest (checkpoint_of (current e)) lower others z ∙ sym there.code)) (eq-eqb (kept e) 0 plain.nothing)) h);
          })
          code_is)
