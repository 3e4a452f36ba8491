-- One entry under rolling to a side: at every store its copy on that side is the same, its state word keeps its form, and it uses no more frames; at the
-- end it is plain.
use Prim.Native.Nat.{ℕ, ◌+◌, ◌≤◌, ◌<◌}
use mathlib.Core.Path.{◌≡◌, refl, sym, ap, ap₂, ◌∙◌}
use mathlib.Core.Logic.{◌≢◌}
use mathlib.Core.Bool.{Bool, true, false, not, cond, ◌&&◌, ◌||◌}
use mathlib.Core.List.{[], ◌∷◌}
use native.Mathlib.Omega.{arith}
use lib.Dec.{eqb, ltb, leb}
use borrow.Author.Tests.{eqb-true, eqb-false, ltb-true, leb-true, ne_eqb, not-true}
use Rattle.counting.proofs.Laws.Tests.{by_cases, both, other_holds, no_both}
use Rattle.counting.specs.Counting.{every}
use Rattle.counting.proofs.Laws.Counting.{every_at}
use Rattle.table.specs.declared.changes.Event.TheVariants.{RollBack, RollForward}
use Rattle.table.specs.Words.{state_word, current_of, kept_of, state_form, invalid, shared_ck}
use Rattle.table.proofs.Laws.Words.{current_state, kept_state}
use Rattle.table.proofs.Laws.Forms.{form_facts, low_form_lem, alone_form}
use Rattle.table.specs.Changes.{change_of, checkpoint_of}
use Rattle.table.specs.Stores.{state_to}
use Rattle.table.specs.View.{Entry, current, kept, changed}
use Rattle.table.proofs.Laws.Pass.{Steps, last, next}
use Rattle.table.specs.Copies.{back_by}
use Rattle.table.proofs.Laws.Copies.{value_free, back_moved}
use Rattle.entries.specs.Frames.{frame_of, frames_in}
use Rattle.entries.proofs.Laws.Frames.{frames_state, frame_le}
use Rattle.recovery.specs.Sides.{side_event, copy_on, bring_back, settled, roll_change}
use Rattle.recovery.proofs.Laws.Ready.{PlainEntry}

-- what every single store keeps of an entry e₀ that has become e
pub record SafeOn (forward : Bool) (e₀ e : Entry) : Type 0 where
  pub copy : copy_on forward e ≡ copy_on forward e₀
  pub form : state_form e.state ≡ true
  pub frames : frames_in e.state ≤ frames_in e₀.state + 0

-- at the end: plain, whatever its value
abbrev pub Rolled : Entry → Entry → Type 0
Rolled e₀ e = PlainEntry e.value e

-- ---- the columns "roll back" and "roll forward"

-- the number of the copy in the current place, on a side
abbrev number_on : Bool → ℕ → ℕ
number_on true c = checkpoint_of (change_of c RollForward)
number_on false c = checkpoint_of c

roll_rule : Bool → ℕ → Bool
roll_rule forward c =
    ltb (change_of c (side_event forward)) 8
    && (eqb (number_on forward (change_of c (side_event forward))) (number_on forward c)
    && (leb (frame_of (change_of c (side_event forward))) (frame_of c)
    && (eqb (change_of c (side_event forward)) 0 || not (eqb (checkpoint_of (change_of c (side_event forward))) 0))))

record Rolls (forward : Bool) (c d : ℕ) : Type 0 where
  code : d < 8
  same : number_on forward d ≡ number_on forward c
  frame : frame_of d ≤ frame_of c
  ends : d ≢ 0 → checkpoint_of d ≢ 0

rule_holds : (forward : Bool) → every (roll_rule forward) 8 ≡ true
unfolding roll_rule change_of every
rule_holds true = refl
rule_holds false = refl

rolls : (forward : Bool) (c : ℕ) → c < 8 → Rolls forward c (change_of c (side_event forward))
unfolding roll_rule
rolls forward c h =
    let d : ℕ = change_of c (side_event forward) in
    let r = both (ltb d 8) (every_at 8 (roll_rule forward) (rule_holds forward) c h) in
    let r₁ = both (eqb (number_on forward d) (number_on forward c)) r.1 in
    let r₂ = both (leb (frame_of d) (frame_of c)) r₁.1 in
    record {
      code = ltb-true d 8 r.0;
      same = eqb-true _ _ r₁.0;
      frame = leb-true _ _ r₂.0;
      ends = λ n. eqb-false _ 0 (not-true (eqb (checkpoint_of d) 0) (other_holds (eqb d 0) r₂.1 (ne_eqb d 0 n)));
    }

-- the Shared-CK of a number has that number
number_rule : ℕ → Bool
number_rule k = eqb (checkpoint_of (shared_ck k)) k

number_again : (k : ℕ) → k < 3 → checkpoint_of (shared_ck k) ≡ k
unfolding number_rule every
number_again k h = eqb-true _ k (every_at 3 number_rule refl k h)

-- the copy on a side, where a kept one does not count
bare_copy : (forward : Bool) (e : Entry) → (forward ≡ false → kept e ≡ 0) → copy_on forward e ≡ back_by (number_on forward (current e)) 0 e.value e.kept_value
bare_copy true e h = refl
bare_copy false e h = ap (λ k. back_by (checkpoint_of (current e)) k e.value e.kept_value) (h refl)

-- a state word with current Invalid and what e keeps
record Emptied (e : Entry) (s : ℕ) : Type 0 where
  code : current_of s ≡ 0
  same : kept_of s ≡ kept e
  form : state_form s ≡ true
  frames : frames_in s ≤ frames_in e.state + 0

module _ (e : Entry) (form : state_form e.state ≡ true) where
  begin : (forward : Bool) → SafeOn forward e e
  begin forward = record { copy = refl; form = form; frames = omega arith }

  -- ---- "one state store where it changes"
  module _ (forward : Bool) (bare : forward ≡ false → kept e ≡ 0) where
    abbrev next_code : ℕ
    next_code = change_of (current e) (side_event forward)

    facts : Rolls forward (current e) next_code
    facts = rolls forward (current e) (form_facts e.state form).code

    code_is : current_of (state_word next_code 0) ≡ next_code
    code_is = let l = facts.code in current_state next_code 0 (omega arith) (omega arith)

    kept_is : kept_of (state_word next_code 0) ≡ 0
    kept_is = let l = facts.code in kept_state next_code 0 (omega arith) (omega arith)

    settled_safe : SafeOn forward e (changed (state_to next_code invalid) e)
    unfolding frames_in
    settled_safe =
        let l = facts.code in
        let fr = frames_state next_code 0 (omega arith) (omega arith) in
        let fc = facts.frame in
        record {
          copy = bare_copy forward (changed (state_to next_code invalid) e) (λ _. kept_is)
              ∙ ap (λ i. back_by i 0 e.value e.kept_value) (ap (number_on forward) code_is ∙ facts.same) ∙ sym (bare_copy forward e bare);
          form = alone_form next_code l;
          frames = rw fr (omega arith);
        }

    settled_rolled : Rolled e (changed (state_to next_code invalid) e)
    settled_rolled = record {
      form = alone_form next_code facts.code;
      code = λ d z. facts.ends (λ q. d (code_is ∙ q)) (ap checkpoint_of (sym code_is) ∙ z);
      nothing = kept_is;
      value = λ _. refl;
    }

    stays_rolled : next_code ≡ current e → kept e ≡ 0 → Rolled e e
    stays_rolled q k = record {
      form = form;
      code = λ d z. facts.ends (λ y. d (sym q ∙ y)) (ap checkpoint_of q ∙ z);
      nothing = k;
      value = λ _. refl;
    }

    settled_steps : Steps (SafeOn forward e) (Rolled e) e (settled next_code e)
    unfolding settled
    settled_steps = go (eqb next_code (current e) && eqb (kept e) invalid) refl
      where
        go : (q : Bool) → (eqb next_code (current e) && eqb (kept e) invalid) ≡ q
            → Steps (SafeOn forward e) (Rolled e) e (cond q [] (state_to next_code invalid ∷ []))
        go true h = let (p, k) = both (eqb next_code (current e)) h in last (begin forward) (stays_rolled (eqb-true _ _ p) (eqb-true _ 0 k))
        go false h = next (begin forward) (last settled_safe settled_rolled)

  -- ---- "Rolling back an Inv-CK"
  module _ (keeps : kept e ≢ 0) where
    low : kept e < 3
    low = (form_facts e.state form).kept_code

    -- no Shared-CK stands beside it
    none : checkpoint_of (current e) ≡ 0
    none = let (p, q) = (form_facts e.state form).alone keeps in rw (ne_eqb (current e) 4 p, ne_eqb (current e) 5 q)

    one_frame : 1 ≤ frames_in e.state
    unfolding frames_in
    one_frame = rw (ne_eqb (kept e) 0 keeps) (omega arith)

    -- the Inv-CK beside an Invalid current place, with any value
    abbrev beside : ℕ → ℕ → Entry
    beside s x = record { state = s; value = x; kept_value = e.kept_value }

    emptied_safe : (s x : ℕ) → Emptied e s → SafeOn false e (beside s x)
    emptied_safe s x m = record {
      copy = ap₂ (λ i k. back_by i k x e.kept_value) (ap checkpoint_of m.code) m.same
          ∙ value_free 0 (kept e) e.value x e.kept_value refl ∙ ap (λ i. back_by i (kept e) e.value e.kept_value) (sym none);
      form = m.form;
      frames = m.frames;
    }

    -- and the Shared-CK that it becomes
    abbrev brought : Entry
    brought = record { state = state_word (shared_ck (kept e)) invalid; value = e.kept_value; kept_value = e.kept_value }

    brought_code : current brought ≡ shared_ck (kept e)
    brought_code = let l = low in current_state (shared_ck (kept e)) 0 (omega arith) (omega arith)

    brought_kept : kept brought ≡ 0
    brought_kept = let l = low in kept_state (shared_ck (kept e)) 0 (omega arith) (omega arith)

    brought_number : checkpoint_of (current brought) ≡ kept e
    brought_number = ap checkpoint_of brought_code ∙ number_again (kept e) low

    brought_safe : SafeOn false e brought
    brought_safe =
        let l = low in
        let fr = frames_state (shared_ck (kept e)) 0 (omega arith) (omega arith) in
        let f₁ = frame_le (shared_ck (kept e)) in
        let f₂ = one_frame in
        record {
          copy = ap₂ (λ i k. back_by i k e.kept_value e.kept_value) brought_number brought_kept
              ∙ sym (rw (ne_eqb (kept e) 0 keeps) at (back_moved (kept e) 0 e.kept_value e.value e.kept_value))
              ∙ ap (λ i. back_by i (kept e) e.value e.kept_value) (sym none);
          form = alone_form (shared_ck (kept e)) (omega arith);
          frames = rw fr (omega arith);
        }

    brought_rolled : Rolled e brought
    brought_rolled =
        let l = low in
        record {
          form = alone_form (shared_ck (kept e)) (omega arith);
          code = λ d z. keeps (sym brought_number ∙ z);
          nothing = brought_kept;
          value = λ _. refl;
        }

    none_current : Emptied e (state_word invalid (kept e))
    unfolding frames_in
    none_current =
        let l = low in
        let fr = frames_state 0 (kept e) (omega arith) (omega arith) in
        record {
          code = current_state 0 (kept e) (omega arith) (omega arith);
          same = kept_state 0 (kept e) (omega arith) (omega arith);
          form = low_form_lem 0 (kept e) (omega arith) l;
          frames = rw fr (omega arith);
        }

    back_steps : Steps (SafeOn false e) (Rolled e) e (bring_back e)
    unfolding bring_back
    back_steps =
        by_cases (eqb (current e) invalid)
        (λ h.
        let m : Emptied e e.state = record { code = eqb-true _ 0 h; same = refl; form = form; frames = omega arith } in
        rw h (next (emptied_safe e.state e.value m) (next (emptied_safe e.state e.kept_value m) (last brought_safe brought_rolled))))
        (λ h.
        let s : ℕ = state_word invalid (kept e) in
        let m : Emptied e s = none_current in
        rw h (next (begin false) (next (emptied_safe s e.value m) (next (emptied_safe s e.kept_value m) (last brought_safe brought_rolled)))))

  -- ---- either way
  pub roll_steps : (forward : Bool) → Steps (SafeOn forward e) (Rolled e) e (roll_change forward e)
  unfolding roll_change
  roll_steps true = settled_steps true (λ z. absurd (no_both refl z))
  roll_steps false = go (eqb (kept e) invalid) refl
    where
      go : (q : Bool) → eqb (kept e) invalid ≡ q
          → Steps (SafeOn false e) (Rolled e) e (cond (not q) (bring_back e) (settled (change_of (current e) RollBack) e))
      go true h = settled_steps false (λ _. eqb-true _ 0 h)
      go false h = back_steps (eqb-false _ 0 h)
