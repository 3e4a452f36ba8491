-- Recover as its code goes: what it admits, and a law for each way out.
use Rattle.std.specs.Prelude.{Err, Ok, Option, Result}
use Prim.Native.Nat.{ℕ, ◌+◌, ◌-◌, ◌≤◌, ◌<◌}
use mathlib.Core.Path.{◌≡◌, refl, sym, ap, ◌∙◌}
use mathlib.Core.Bool.{Bool, true, false, not}
use mathlib.Core.List.{List, ◌++◌}
use native.Mathlib.Omega.{arith}
use lib.ListN.{length, replicate, drop}
use lib.Seq.{drop-drop}
use borrow.Author.Tests.{lt-ltb, le-ltb}
use Rattle.table.specs.declared.geometry.Geometry.{Geometry}
use Rattle.table.specs.declared.answers.Refusal.{Refusal}
use Rattle.table.specs.declared.answers.Refusal.TheVariants.{NotSound, NoNode, TooFewNodes, NoRecoveryCopy, ShortScratch}
use Rattle.table.specs.declared.answers.Answer.{Answer}
use Rattle.table.specs.declared.answers.Answer.TheVariants.{Done, Refused}
use Rattle.table.specs.declared.stores.Stores.{Stores}
use Rattle.table.specs.Made.{Made, shown}
use Rattle.table.proofs.Laws.Made.{made_then, made_more, made_three}
use Rattle.table.specs.View.{View, view}
use Rattle.table.specs.Answers.{Plan, refuse, carry}
use Rattle.table.proofs.Laws.Answers.{meets_refused, meets_done}
use Rattle.entries.specs.Check.{sizes_of}
use Rattle.entries.proofs.Laws.CheckFacts.{sizes_surveyable}
use Rattle.entries.specs.code.SurveySound.{Surveyable}
use Rattle.homes.specs.Admission.{Admission, plan_admitted}
use Rattle.recovery.specs.declared.census.Census.{Census}
use Rattle.survivors.specs.Survivors.{lost_stores, survivors, lost_outside, too_few, closing_stores}
use Rattle.recovery.specs.Sides.{roll_change, items_fit}
use Rattle.survivors.specs.Direction.{forward_in}
use Rattle.recovery.proofs.Laws.RecoverPlan.{admission_admits}
use Rattle.recovery.proofs.Laws.RecoverStages.{survivors_same, lost_stores_within, survivors_stored, recover_stored}
use Rattle.checkpoints.specs.Checkpoint.{entries_to}
use Rattle.recovery.specs.code.Census.{Taken}
use Rattle.recovery.specs.code.PairsCode.{Pairs}
use Rattle.recovery.specs.Recover.{recover_stores, scratch_words, survivors_formed, recover_admission, recover_checked, recover_of, RecoverMeets}
use Rattle.recovery.specs.code.RecoverCode.{Recovers, Carriable, StoresReady, RestoreReady, StagesStored}

-- ---- the refusals, one by one

module _ (g : Geometry) (w : View) (lost : Option ℕ) (scratch : ℕ) {outside : Bool} (p : outside ≡ lost_outside g lost) where
  pub admit_outside : outside ≡ true → Err NoNode ≡ recover_admission g w lost scratch
  unfolding recover_admission
  admit_outside e = rw (← p, e) refl

  module _ (p' : outside ≡ false) {words : ℕ} (n : words ≡ scratch_words g) where
    pub admit_scratch : scratch < words → Err ShortScratch ≡ recover_admission g w lost scratch
    unfolding recover_admission
    admit_scratch e = rw (← p, p', lt-ltb scratch (scratch_words g) (omega arith)) refl

    module _ (q' : words ≤ scratch) {formed : Bool} (r : formed ≡ survivors_formed g w) where
      pub admit_unformed : not formed ≡ true → Err NotSound ≡ recover_admission g w lost scratch
      unfolding recover_admission
      admit_unformed e = rw (← p, p', le-ltb scratch (scratch_words g) (omega arith), ← r, e) refl

      module _ (r' : not formed ≡ false) {few : Bool} (s : few ≡ too_few g w) where
        pub admit_few : few ≡ true → Err TooFewNodes ≡ recover_admission g w lost scratch
        unfolding recover_admission
        admit_few e = rw (← p, p', le-ltb scratch (scratch_words g) (omega arith), ← r, r', ← s, e) refl

        module _ (s' : few ≡ false) {fit : Bool} (u : fit ≡ items_fit g w) where
          pub admit_unfit : not fit ≡ true → Err NoRecoveryCopy ≡ recover_admission g w lost scratch
          unfolding recover_admission
          admit_unfit e = rw (← p, p', le-ltb scratch (scratch_words g) (omega arith), ← r, r', ← s, s', ← u, e) refl

          pub admit_all : not fit ≡ false → (Ok tt) ≡ recover_admission g w lost scratch
          unfolding recover_admission
          admit_all e = rw (← p, p', le-ltb scratch (scratch_words g) (omega arith), ← r, r', ← s, s', ← u, e) refl

-- ---- the plan

pub recover_sized : (t : List ℕ) {c : Result Geometry Refusal} {g : Geometry} → c ≡ sizes_of t → c ≡ Ok g → Surveyable g t
recover_sized t {c} {g} e h = sizes_surveyable t g (sym e ∙ h)

module _ (t : List ℕ) (lost : Option ℕ) (scratch : ℕ) {c : Result Geometry Refusal} (e : c ≡ sizes_of t) where
  recover_as : {d : Result Geometry Refusal} → c ≡ d → recover_of t lost scratch ≡ recover_checked t lost scratch d
  unfolding recover_of
  recover_as h = ap (recover_checked t lost scratch) (sym e ∙ h)

  pub recover_failed : {x : Refusal} → c ≡ Err x → recover_of t lost scratch ≡ refuse x
  unfolding recover_checked
  recover_failed h = recover_as h

  pub recover_passed :
      {g : Geometry} → c ≡ Ok g → {limit : ℕ} {t₀ t' s s' : List ℕ} {r : Answer}
      → RecoverMeets (recover_checked t lost scratch (Ok g)) limit t₀ t' s s' r → RecoverMeets (recover_of t lost scratch) limit t₀ t' s s' r
  recover_passed h m = rw (recover_as h) m

module _ (t : List ℕ) (lost : Option ℕ) (scratch : ℕ) (g : Geometry) {a : Admission} (k : a ≡ recover_admission g (survivors lost (view g t)) lost scratch) where
  pub recover_turned : {x : Refusal} → a ≡ Err x → recover_checked t lost scratch (Ok g) ≡ refuse x
  unfolding recover_checked plan_admitted
  recover_turned q = ap (λ b. plan_admitted b (carry g 0 (recover_stores g lost (view g t)))) (sym k ∙ q)

  module _ (q : a ≡ (Ok tt)) where
    pub recover_admitted : recover_checked t lost scratch (Ok g) ≡ carry g 0 (recover_stores g lost (view g t))
    unfolding recover_checked plan_admitted
    recover_admitted = ap (λ b. plan_admitted b (carry g 0 (recover_stores g lost (view g t)))) (sym k ∙ q)

-- with what the census told
pub recover_ready :
    (lost : Option ℕ) (scratch : ℕ) (b : Stores) {a : Admission} → a ≡ recover_admission b.g (survivors lost (shown b)) lost scratch → a ≡ (Ok tt)
    → {forward : Bool} {l s tallies u : List ℕ} {r : Census} → Surveyable b.g b.table.now → scratch ≡ length s → b.g.items ≤ length l
    → forward ≡ forward_in b.g (survivors lost (shown b)) → Taken b.g forward (survivors lost (shown b)) tallies u r
    → StoresReady lost forward r.plain b s l tallies u
recover_ready lost scratch b k q z n room way c =
    let f = admission_admits b.g (survivors lost (shown b)) lost scratch (sym k ∙ q) in
    record {
      carriable = record { long = z.words; room = omega (arith, f.enough); inside = f.inside };
      list_room = room;
      used_room = c.used_room;
      known = record {
        way = way;
        formed = f.formed;
        fit = f.fit;
        tally = c.tally;
        tallies_room = c.tallies_room;
        held = c.held;
        plain_told = c.plain;
      };
    }

-- ---- carried out

-- after the lost mark
pub restore_ready :
    (lost : Option ℕ) {forward plain : Bool} {a a₁ : Stores} {s l tallies u : List ℕ} → StoresReady lost forward plain a s l tallies u
    → Made a (lost_stores lost) a₁ → RestoreReady lost forward plain a₁ s l tallies u
restore_ready lost {a = a} r m =
    let c = r.carriable in
    record {
      long = rw m.same_geometry (omega (arith, c.long, m.stored.size));
      room = rw m.same_geometry (omega (arith, c.room));
      list_room = rw m.same_geometry r.list_room;
      used_room = rw m.same_geometry r.used_room;
      known = rw (m.same_geometry, survivors_same lost a.left c.long (lost_stores_within a.g lost c.inside) m.stored) r.known;
    }

-- the rolling, the pairs and the marks
pub restored :
    (lost : Option ℕ) {forward plain : Bool} {a a₁ a₂ a₃ : Stores} {s s' l tallies u : List ℕ}
    → RestoreReady lost forward plain a s l tallies u → Made a (entries_to a.g (survivors lost (shown a)) (roll_change forward)) a₁
    → Pairs lost a₁ a₂ s s' → Made a₂ (closing_stores a₂.g (survivors lost (shown a₂))) a₃ → StagesStored lost a a₃ s s'
restored lost {a = a} r m b d =
    let one = m.same_geometry in
    let two = b.numbered.same_geometry ∙ one in
    let three = b.partnered.made.same_geometry ∙ two in
    record {
      made = made_three (made_then m b.numbered) b.partnered.made d
          (survivors_stored a.g lost r.long r.known.way m.stored (rw one at b.numbered.stored) (rw two at b.partnered.made.stored)
          (rw three at d.stored));
      rest = rw two at b.partnered.rest;
      size = b.partnered.size;
    }

-- the words past the first N are as they were, so those past the first M + N are
rest_same : (g : Geometry) (s s' : List ℕ) → drop g.nodes s' ≡ drop g.nodes s → drop (scratch_words g) s' ≡ drop (scratch_words g) s
rest_same g s s' h =
    let n : g.nodes + g.items ≡ scratch_words g = omega arith in
    rw (← n) (sym (drop-drop g.items g.nodes s') ∙ ap (drop g.items) h ∙ drop-drop g.items g.nodes s)

pub recovered :
    (lost : Option ℕ) {words : ℕ} {a a₁ a₂ : Stores} {s s₁ s₂ : List ℕ} → Carriable lost a s → words ≡ scratch_words a₂.g
    → Made a (lost_stores lost) a₁ → StagesStored lost a₁ a₂ s s₁ → s₂ ≡ replicate words 0 ++ drop words s₁
    → Recovers lost a a₂ s s₂
recovered lost {a = a} {s = s} {s₁} k e m r z =
    let one = m.same_geometry in
    let words = e ∙ ap scratch_words (r.made.same_geometry ∙ one) in
    record {
      made = made_more m r.made (recover_stored a.g lost k.long k.inside m.stored (rw one at r.made.stored));
      cleared = z ∙ rw words (ap (λ d. replicate (scratch_words a.g) 0 ++ d) (rest_same a.g s s₁ (rw one at r.rest)));
    }

-- ---- the ways out

pub recover_refused :
    {p : Plan} {x : Refusal} (limit : ℕ) (t s : List ℕ) → p ≡ refuse x → RecoverMeets p limit t t s s (Refused x)
recover_refused limit t s h = record { meets = meets_refused limit t h; scratch = rw h refl }

pub recover_done :
    {p : Plan} (lost : Option ℕ) {a a' : Stores} {t' s s' : List ℕ} → p ≡ carry a.g 0 (recover_stores a.g lost (shown a))
    → Recovers lost a a' s s' → t' ≡ a'.table.now → RecoverMeets p a.left a.table.now t' s s' (Done 0 (a.left - a'.left))
recover_done lost {a} h r e = rw e record { meets = meets_done a.left h r.made.stored; scratch = rw h r.cleared }
