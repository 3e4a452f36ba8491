-- "A copy is refused a home exactly if no other live node can take it.": Evict and Create answer 11 then, and only then.
use Rattle.std.specs.Prelude.{Err, Ok}
use Prim.Native.Nat.{ℕ, ◌<◌}
use mathlib.Core.Path.{◌≡◌, refl, sym, ap, ◌∙◌}
use mathlib.Core.Bool.{Bool, true, false, cond, not, ◌&&◌}
use mathlib.Core.List.{List}
use lib.Dec.{eqb, ltb}
use borrow.Author.Tests.{eqb-false, ne_eqb, not-true}
use Rattle.counting.proofs.Laws.Tests.{and_no_right, by_cases, no_both, bool_iff}
use Rattle.table.specs.declared.geometry.Geometry.{Geometry}
use Rattle.table.specs.declared.answers.Refusal.TheVariants.{PlaceInvalid, NoHome}
use Rattle.table.specs.Words.{invalid}
use Rattle.table.specs.View.{View, view}
use Rattle.table.specs.Answers.{Plan, refuse, carry}
use Rattle.entries.specs.Check.{fault_of}
use Rattle.homes.specs.declared.places.Place.{Place}
use Rattle.homes.specs.declared.places.Place.TheVariants.{Current}
use Rattle.homes.specs.Admission.{admission_of, plan_admitted, plan_checked, plan_by}
use Rattle.homes.proofs.Laws.Admission.{admission_tells}
use Rattle.homes.specs.Places.{code_in}
use Rattle.homes.specs.Home.{fits, no_home}
use Rattle.homes.proofs.Laws.HomeLaws.{no_home_none, none_no_home}
use Rattle.homes.proofs.Laws.Plans.{plan_admitted_lem}
use Rattle.homes.specs.Evict.{dropped, place_admission, evict_stores, evict_of}
use Rattle.entries.specs.Dirty.{owner_of, dirty_item}
use Rattle.checkpoints.specs.Checkpoint.{open_admission}
use Rattle.checkpoints.specs.Create.{sharer_of, has_sharer, no_partner, create_item, create_plan, create_of}
use Rattle.checkpoints.specs.code.CreateCode.{item_plan}
use Rattle.checkpoints.proofs.Laws.CreateCode.{next_plan, next_owned}
use Rattle.counting.proofs.Laws.Exists.{exists_not, not_exists}
use Rattle.restore.specs.Demand2.{homeless, no_other, goes_home}

-- ---- no home is found exactly if no other node fits

module _ (g : Geometry) (v : View) (place : Place) (n b : ℕ) (h : n < g.nodes) where
  abbrev other : ℕ → Bool
  other m = not (eqb m n) && fits g v place b m

  pub no_home_other : no_home g v place n b ≡ no_other g v place n b
  no_home_other =
      bool_iff (no_home g v place n b) (no_other g v place n b)
      (λ e. ap not (exists_not g.nodes other (none e)))
      (λ e. none_no_home g v place n b
      (λ m l d. and_no_right (not (eqb m n)) (ap not (ne_eqb m n d)) (not_exists g.nodes other (not-true _ e) m l)))
    where
      none : no_home g v place n b ≡ true → (m : ℕ) → m < g.nodes → other m ≡ false
      none e m l =
          by_cases (eqb m n) (λ q. rw q refl)
          (λ q. rw (q, no_home_none g v place n b h e m l (eqb-false m n q)) refl)

-- ---- Evict

-- a copy that goes home is refused only for want of one
goes_refused : (p q r : Bool) (x : Plan) → homeless x ≡ false → (not p && not q) ≡ true
    → homeless (plan_admitted (cond p (Err PlaceInvalid) (cond q (Ok tt) (cond r (Err NoHome) (Ok tt)))) x) ≡ r
unfolding plan_admitted
goes_refused true q r x k e = absurd (no_both e refl)
goes_refused false true r x k e = absurd (no_both e refl)
goes_refused false false true x k e = refl
goes_refused false false false x k e = k

pub evict_home :
    (t : List ℕ) (n b : ℕ) (place : Place) {g : Geometry} → fault_of t ≡ Ok g → admission_of g (view g t) n b ≡ (Ok tt)
    → goes_home place ((view g t).entry n b) ≡ true → homeless (evict_of t n b place) ≡ no_other g (view g t) place n b
unfolding plan_by plan_checked place_admission
evict_home t n b place {g} p a e =
    rw (p, a)
    (goes_refused (eqb (code_in place ((view g t).entry n b)) invalid) (dropped place ((view g t).entry n b)) (no_home g (view g t) place n b)
    (carry g 0 (evict_stores g (view g t) place n b)) refl e
    ∙ no_home_other g (view g t) place n b (admission_tells g (view g t) n b a).node)

-- ---- Create

-- a dirty item is refused only for want of a partner
item_refused : (g : Geometry) (v : View) (b : ℕ) → homeless (item_plan g v b) ≡ no_partner g v b
unfolding item_plan
item_refused g v b = go (no_partner g v b)
  where
    go : (q : Bool) → homeless (cond q (refuse NoHome) (carry g 0 (create_item g v b (owner_of g v b)))) ≡ q
    go true = refl
    go false = refl

pub create_home :
    (t : List ℕ) (b : ℕ) {g : Geometry} → fault_of t ≡ Ok g → open_admission g (view g t) ≡ (Ok tt) → dirty_item g (view g t) ≡ b → b < g.items
    → homeless (create_of t)
    ≡ (not (ltb (sharer_of g (view g t) b) g.nodes) && no_other g (view g t) Current (owner_of g (view g t) b) b)
unfolding no_partner
create_home t b {g} p a e l =
    ap homeless (plan_admitted_lem open_admission create_plan t refl p {a = open_admission g (view g t)} refl a ∙ next_plan g (view g t) (sym e) l)
    ∙ item_refused g (view g t) b
    ∙ ap (λ x. not (has_sharer g (view g t) b) && x) (no_home_other g (view g t) Current (owner_of g (view g t) b) b (next_owned g (view g t) (sym e) l))
