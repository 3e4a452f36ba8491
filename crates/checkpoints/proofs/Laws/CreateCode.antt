-- The laws of `specs/code/CreateCode.antt`.
use Rattle.std.specs.Prelude.{Err, Ok, Result}
use Prim.Native.Nat.{ℕ, ◌<◌, ◌≤◌}
use mathlib.Core.Path.{◌≡◌, refl, sym, ap, ◌∙◌}
use mathlib.Core.Bool.{◌&&◌}
use mathlib.Core.List.{List, [], ◌∷◌}
use native.Mathlib.Omega.{arith}
use lib.Dec.{eqb, leb}
use borrow.Author.Tests.{eq-eqb, ne_eqb, eqb-true, lt-ltb, le-ltb, ltb-true, le-leb, leb-true}
use Rattle.counting.proofs.Laws.Tests.{both, and_both, bool_iff}
use Rattle.counting.specs.Counting.{first}
use Rattle.counting.proofs.Laws.First.{first_passes}
use Rattle.table.specs.declared.geometry.Geometry.{Geometry}
use Rattle.table.specs.declared.answers.Refusal.{Refusal}
use Rattle.table.specs.declared.answers.Refusal.TheVariants.{NoHome}
use Rattle.entries.specs.declared.check.Surveyed.{Surveyed}
use Rattle.entries.specs.Check.{fault_of, surveyed_by, surveyed_of}
use Rattle.entries.proofs.Laws.Check.{sound_passed}
use Rattle.homes.specs.Admission.{Admission, plan_admitted, plan_checked, plan_by}
use Rattle.checkpoints.specs.Checkpoint.{open_admission}
use Rattle.table.specs.Words.{kept_of, shared, owner, modified, precommit1, precommit2}
use Rattle.table.specs.Stores.{Stored, entry_store, state_to}
use Rattle.table.proofs.Laws.Stores.{stored_then, stored_two}
use Rattle.table.specs.View.{View, view}
use Rattle.table.specs.declared.answers.Answer.{Answer}
use Rattle.table.specs.Answers.{Plan, refuse, nothing_left, carry, Meets}
use Rattle.homes.proofs.Laws.Plans.{meets_as}
use Rattle.homes.specs.declared.places.Place.TheVariants.{Current}
use Rattle.homes.specs.declared.home.Arrival.{Arrival}
use Rattle.entries.specs.Dirty.{owner_of, dirty, dirty_item}
use Rattle.homes.specs.Home.{home_of, arrival_of, home_stores, home_stores_by}
use Rattle.homes.specs.Holders.{first_holder}
use Rattle.homes.proofs.Laws.Holders.{holder_first, owner_held}
use Rattle.checkpoints.specs.Create.{shares_at, sharer_of, precommit2_stores, create_item, no_partner, create_plan, create_of}
use Rattle.checkpoints.specs.code.CreateCode.{opened_by, opened_checked, create_ready, item_plan, sharer_stores, taken_stores}

-- ---- a sharer

sharer_codes : (c : ℕ) → (leb shared c && leb c shared) ≡ eqb c shared
sharer_codes c =
    bool_iff (leb shared c && leb c shared) (eqb c shared)
    (λ h. let l = both (leb shared c) h in
    eq-eqb c shared (omega (arith, leb-true shared c l.0, leb-true c shared l.1)))
    (λ h. let q = eqb-true c shared h in and_both (le-leb shared c (omega arith)) (le-leb c shared (omega arith)))

pub sharer_held : (g : Geometry) (v : View) (b : ℕ) → first_holder g v b shared shared ≡ sharer_of g v b
unfolding sharer_of shares_at
sharer_held g v b = holder_first g v b shared shared (λ c. eqb c shared) sharer_codes

-- ---- the table checks, then the refusals of Create but that of a home

opened_same : (t : List ℕ) {s : Surveyed} (c : Result Surveyed Refusal) → opened_checked t c ≡ Ok s → c ≡ Ok s
opened_same t (Err x) e = e
opened_same t {s} (Ok r) e = go (open_admission r.g (view r.g t)) e
  where
    go : (a : Admission) → opened_by r a ≡ Ok s → ◌≡◌ {A = Result Surveyed Refusal} (Ok r) (Ok s)
    go (Err x) e = let z : ◌≡◌ {A = ℕ} 0 1 = cc in absurd (omega arith)
    go (Ok _) e = e

abbrev opened_plan : List ℕ → Result Surveyed Refusal → Plan
opened_plan t (Err x) = refuse x
opened_plan t (Ok s) = create_plan s.g (view s.g t)

create_planned : (t : List ℕ) (c : Result Geometry Refusal) → plan_checked open_admission create_plan t c ≡ opened_plan t (opened_checked t (surveyed_by t c))
unfolding plan_checked plan_admitted surveyed_by
create_planned t (Err x) = refl
create_planned t (Ok g) = go (open_admission g (view g t))
  where
    go : (a : Admission) → plan_admitted a (create_plan g (view g t)) ≡ opened_plan t (opened_by (record { g = g; item = dirty_item g (view g t) }) a)
    go (Err x) = refl
    go (Ok _) = refl

module _ (t : List ℕ) where
  pub create_refused : {x : Refusal} → Err x ≡ create_ready t → create_of t ≡ refuse x
  unfolding plan_by create_ready surveyed_of
  create_refused e = create_planned t (fault_of t) ∙ ap (opened_plan t) (sym e)

  module _ {s : Surveyed} (e : Ok s ≡ create_ready t) where
    pub create_opened : create_of t ≡ create_plan s.g (view s.g t)
    unfolding plan_by create_ready surveyed_of
    create_opened = create_planned t (fault_of t) ∙ ap (opened_plan t) (sym e)

    pub create_surveyed : s.item ≡ dirty_item s.g (view s.g t)
    unfolding create_ready
    create_surveyed = (sound_passed t refl (opened_same t (surveyed_of t) (sym e))).1

-- ---- the item to be created

module _ (g : Geometry) (v : View) {b : ℕ} (h : b ≡ dirty_item g v) where
  pub none_left : g.items ≤ b → create_plan g v ≡ nothing_left
  unfolding create_plan
  none_left l = rw (← h, le-ltb b g.items l) refl

  pub next_plan : b < g.items → create_plan g v ≡ item_plan g v b
  unfolding create_plan item_plan
  next_plan l = rw (← h, lt-ltb b g.items l) refl

  -- a dirty item has an owner
  pub next_owned : b < g.items → owner_of g v b < g.nodes
  unfolding dirty_item dirty
  next_owned l =
      let k : b ≡ first (dirty g v) g.items = h in
      ltb-true (owner_of g v b) g.nodes (ap (dirty g v) k ∙ first_passes (dirty g v) g.items (omega arith))

-- its plan, carried out, is the whole answer
pub next_meets :
    (g : Geometry) (b : ℕ) {limit : ℕ} {t t' : List ℕ} {r : Answer} → b ≡ dirty_item g (view g t) → b < g.items
    → Meets (item_plan g (view g t) b) limit t t' r → Meets (create_plan g (view g t)) limit t t' r
next_meets g b {t = t} h l m = meets_as (next_plan g (view g t) h l) m

-- ---- its stores: the owner o, and a sharer s or a home h

module _ (g : Geometry) (b o : ℕ) {w k left left₁ left₂ : ℕ} {t t₁ t₂ : List ℕ} (p : w ≡ ((view g t).entry o b).state) (q : k ≡ kept_of w)
    (first : Stored g left (entry_store o b (state_to precommit1 k) ∷ []) t t₁ left₁) where
  pub sharer_then :
      (s : ℕ) {x j : ℕ} → x ≡ ((view g t).entry s b).state → j ≡ kept_of x
      → Stored g left₁ (entry_store s b (state_to precommit2 j) ∷ []) t₁ t₂ left₂ → Stored g left (sharer_stores (view g t) b o s) t t₂ left₂
  unfolding sharer_stores
  sharer_then s r e then = rw (← p, ← q, ← r, ← e) (stored_two first then)

  pub taken_then :
      (h : ℕ) {value : ℕ} {a : Arrival} → value ≡ ((view g t).entry o b).value → a ≡ arrival_of g (view g t) Current h b
      → Stored g left₁ (home_stores_by Current h b precommit2 value a) t₁ t₂ left₂ → Stored g left (taken_stores g (view g t) b o h) t t₂ left₂
  unfolding taken_stores home_stores
  taken_then h r e then = rw (← p, ← q, ← r, ← e) (stored_then first then)

-- ---- its plan

module _ (g : Geometry) (v : View) (b : ℕ) {o s : ℕ}
    (held : o ≡ first_holder g v b owner modified) (shares : s ≡ first_holder g v b shared shared) where
  p : o ≡ owner_of g v b
  p = held ∙ owner_held g v b

  q : s ≡ sharer_of g v b
  q = shares ∙ sharer_held g v b

  pub item_shared : s < g.nodes → item_plan g v b ≡ carry g 0 (sharer_stores v b o s)
  unfolding item_plan no_partner create_item precommit2_stores sharer_stores
  item_shared l = rw (← p, ← q, lt-ltb s g.nodes l) refl

  module _ (l : g.nodes ≤ s) {h : ℕ} (r : h ≡ home_of g v Current o b) where
    pub item_none : h ≡ o → item_plan g v b ≡ refuse NoHome
    unfolding item_plan no_partner
    item_none e = rw (← p, ← q, le-ltb s g.nodes l, ← r, eq-eqb h o e) refl

    pub item_taken : (h ≡ o → ⊥) → item_plan g v b ≡ carry g 0 (taken_stores g v b o h)
    unfolding item_plan no_partner create_item precommit2_stores taken_stores
    item_taken e = rw (← p, ← q, le-ltb s g.nodes l, ← r, ne_eqb h o e) refl
