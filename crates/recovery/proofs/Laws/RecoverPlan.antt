-- What an accepted Recover tells, and that with too few survivors none is accepted.
use Rattle.std.specs.Prelude.{Err, Ok, Option, Result}
use Prim.Native.Nat.{ℕ, ◌≤◌}
use mathlib.Core.Path.{◌≡◌, refl, sym, ap, ◌∙◌}
use mathlib.Core.Bool.{Bool, true, false, not, cond}
use mathlib.Core.List.{List}
use lib.Dec.{ltb}
use borrow.Author.Tests.{ltb-false, le-ltb, not-false}
use Rattle.table.specs.declared.geometry.Geometry.{Geometry}
use Rattle.table.specs.declared.answers.Refusal.{Refusal}
use Rattle.table.specs.declared.answers.Refusal.TheVariants.{NotSound, NoNode, TooFewNodes, NoRecoveryCopy, ShortScratch}
use Rattle.table.specs.Stores.{Store}
use Rattle.table.specs.View.{View, view}
use Rattle.table.specs.Answers.{Plan, refuse, carry}
use Rattle.table.proofs.Laws.Answers.{refused_not}
use Rattle.entries.specs.Check.{sizes_of}
use Rattle.homes.proofs.Laws.Admission.{passed}
use Rattle.homes.specs.Admission.{Admission, plan_admitted}
use Rattle.survivors.specs.Survivors.{survivors, lost_outside, too_few}
use Rattle.recovery.specs.Sides.{items_fit}
use Rattle.recovery.specs.Recover.{recover_stores, scratch_words, survivors_formed, recover_admission, recover_checked, recover_of}

-- none of the refusals, and the stores
pub record Carries (t : List ℕ) (lost : Option ℕ) (scratch : ℕ) (g : Geometry) (ss : List Store) : Type 0 where
  pub passed : sizes_of t ≡ Ok g
  pub inside : lost_outside g lost ≡ false
  pub enough : scratch_words g ≤ scratch
  pub formed : survivors_formed g (survivors lost (view g t)) ≡ true
  pub enough_nodes : too_few g (survivors lost (view g t)) ≡ false
  pub fit : items_fit g (survivors lost (view g t)) ≡ true
  pub stores_are : ss ≡ recover_stores g lost (view g t)

admitted_plan :
    (a : Admission) {p : Plan} {g : Geometry} {x : ℕ} {ss : List Store} → plan_admitted a p ≡ carry g x ss → (a ≡ (Ok tt)) × (p ≡ carry g x ss)
unfolding plan_admitted
admitted_plan (Err r) e = absurd (refused_not e)
admitted_plan (Ok _) e = (refl, e)

-- turned down
pub record Refuses (p : Plan) : Type 0 where
  pub number : Refusal
  pub plan : p ≡ refuse number

passes : (a : Bool) (r : Refusal) (b : Admission) (p : Plan) → Refuses (plan_admitted b p) → Refuses (plan_admitted (cond a (Err r) b) p)
unfolding plan_admitted
passes true r b p h = record { number = r; plan = refl }
passes false r b p h = h

-- none of the refusals holds
pub record Admits (g : Geometry) (w : View) (lost : Option ℕ) (scratch : ℕ) : Type 0 where
  pub inside : lost_outside g lost ≡ false
  pub enough : scratch_words g ≤ scratch
  pub formed : survivors_formed g w ≡ true
  pub enough_nodes : too_few g w ≡ false
  pub fit : items_fit g w ≡ true

pub admission_admits : (g : Geometry) (w : View) (lost : Option ℕ) (scratch : ℕ) → recover_admission g w lost scratch ≡ (Ok tt) → Admits g w lost scratch
unfolding recover_admission
admission_admits g w lost scratch q =
    let (a, e₁) = passed (lost_outside g lost) NoNode _ q in
    let (b, e₂) = passed (ltb scratch (scratch_words g)) ShortScratch _ e₁ in
    let (c, e₃) = passed (not (survivors_formed g w)) NotSound _ e₂ in
    let (d, e₄) = passed (too_few g w) TooFewNodes _ e₃ in
    let (f, _) = passed (not (items_fit g w)) NoRecoveryCopy _ e₄ in
    record { inside = a; enough = ltb-false _ _ b; formed = not-false _ c; enough_nodes = d; fit = not-false _ f }

module _ (t : List ℕ) (lost : Option ℕ) (scratch : ℕ) where
  pub recover_carries : {g : Geometry} {x : ℕ} {ss : List Store} → recover_of t lost scratch ≡ carry g x ss → Carries t lost scratch g ss
  unfolding recover_of recover_checked
  recover_carries {g} {x} {ss} e = go (sizes_of t) refl e
    where
      go : (c : Result Geometry Refusal) → c ≡ sizes_of t → recover_checked t lost scratch c ≡ carry g x ss → Carries t lost scratch g ss
      go (Err r) p e = absurd (refused_not e)
      go (Ok h) p e =
          let w = survivors lost (view h t) in
          let (q, e₀) = admitted_plan (recover_admission h w lost scratch) e in
          let f = admission_admits h w lost scratch q in
          let same : h ≡ g = cc in
          let list : recover_stores h lost (view h t) ≡ ss = cc in
          rw (← same) (record {
            passed = sym p;
            inside = f.inside;
            enough = f.enough;
            formed = f.formed;
            enough_nodes = f.enough_nodes;
            fit = f.fit;
            stores_are = sym list;
          })

  -- with none of the refusals
  pub carries_recover : {g : Geometry} {ss : List Store} → Carries t lost scratch g ss → recover_of t lost scratch ≡ carry g 0 (recover_stores g lost (view g t))
  unfolding recover_of recover_checked recover_admission plan_admitted
  carries_recover {g} c =
      ap (recover_checked t lost scratch) c.passed
      ∙ rw (c.inside, enough, c.formed, c.enough_nodes, c.fit) refl
    where
      enough : ltb scratch (scratch_words g) ≡ false
      enough = le-ltb scratch (scratch_words g) c.enough

  -- 14's condition: it is refused, with 14 or with what comes before it
  pub few_refused : {g : Geometry} → sizes_of t ≡ Ok g → too_few g (survivors lost (view g t)) ≡ true → Refuses (recover_of t lost scratch)
  unfolding recover_of recover_checked recover_admission plan_admitted
  few_refused {g} p few =
      rw (p, few) (passes (lost_outside g lost) NoNode _ _ (passes (ltb scratch (scratch_words g)) ShortScratch _ _
      (passes (not (survivors_formed g (survivors lost (view g t)))) NotSound _ _ (record { number = TooFewNodes; plan = refl }))))

  -- and with nothing before it, it is 14
  pub few_fourteen :
      {g : Geometry} → sizes_of t ≡ Ok g → lost_outside g lost ≡ false → scratch_words g ≤ scratch
      → survivors_formed g (survivors lost (view g t)) ≡ true → too_few g (survivors lost (view g t)) ≡ true
      → recover_of t lost scratch ≡ refuse TooFewNodes
  unfolding recover_of recover_checked recover_admission plan_admitted
  few_fourteen {g} p inside enough formed few = rw (p, inside, le-ltb scratch (scratch_words g) enough, formed, few) refl
