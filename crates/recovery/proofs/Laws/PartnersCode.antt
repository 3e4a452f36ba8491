-- The laws of `specs/code/PartnersCode.antt`.
use Rattle.std.specs.Prelude.{None, Option, Some}
use Prim.Native.Nat.{ℕ, zero, suc, ◌+◌, ◌-◌, ◌≤◌, ◌<◌}
use mathlib.Core.Path.{◌≡◌, refl, sym, ap, subst, ◌∙◌}
use mathlib.Core.Bool.{Bool, true, false, cond, ◌&&◌}
use mathlib.Core.List.{List, [], ◌∷◌, map}
use native.Mathlib.Omega.{arith}
use native.Mathlib.Decide.{ℕ_discrete}
use native.Mathlib.Numerals.{add-one}
use lib.Dec.{eqb, ltb}
use lib.ListN.{length, get_or, set, length-set}
use lib.Seq.{drop-set-lt}
use borrow.Author.Tests.{eq-eqb, ne_eqb, eqb-true, ltb-true}
use Rattle.counting.proofs.Laws.Tests.{both, no_both, by_cases}
use Rattle.counting.specs.Counting.{count, first}
use Rattle.counting.proofs.Laws.Counting.{only}
use Rattle.counting.proofs.Laws.First.{first_le, first_least}
use Rattle.counting.proofs.Laws.Cyclic.{first_after_below, first_after_ext, after_found}
use Rattle.table.specs.declared.geometry.Geometry.{Geometry}
use Rattle.table.specs.Geometry.{words_of}
use Rattle.table.specs.Words.{current_of, invalid, shared_ck}
use Rattle.table.specs.Changes.{checkpoint_of}
use Rattle.table.specs.Stores.{Store, Stored, entry_store, value_to, state_to}
use Rattle.table.specs.code.Stores.{StoredIn}
use Rattle.table.proofs.Laws.Stores.{stored_none, stored_as, stored_two, All, none, all_then}
use Rattle.table.specs.declared.stores.Stores.{Stores}
use Rattle.table.specs.Made.{MadeIn, shown}
use Rattle.table.proofs.Laws.Made.{made_none, made_with, made_more}
use Rattle.table.specs.View.{Entry, View, view, live, current, updates}
use Rattle.entries.specs.Frames.{set_frames, used, frames_at}
use Rattle.entries.specs.Tally.{copy}
use Rattle.survivors.specs.Survivors.{survivors}
use Rattle.survivors.proofs.Laws.SurvivorsCode.{survivor_entry}
use Rattle.recovery.specs.Numbering.{single, holder_of, takes, partner_of, partner_changes, partner_from}
use Rattle.recovery.specs.Numbering.{partner_stores, staged, partners_stores}
use Rattle.recovery.proofs.Laws.Followed.{stored_any, view_left, Entered, entered_changes, entered_within, survivors_entered, stage_follows}
use Rattle.recovery.specs.code.PartnersCode.{AgreesTo, Counts, used_with, takes_by, partner_by, UsedBy, Filled}
use Rattle.recovery.specs.code.PartnersCode.{Ready, Turned, Single}
use Rattle.recovery.proofs.Laws.PartnersCounts.{agrees_turn, partner_agrees}

-- ---- the test and the search, by the table and by the scratch

module _ (g : Geometry) (w : View) (s : List ℕ) (b : ℕ) where
  takes_same : AgreesTo g w s g.nodes → (m : ℕ) → m < g.nodes → takes_by g w s b m ≡ takes g w b m
  unfolding takes_by takes
  takes_same a m l = by_cases (live w m) (λ e. rw (e, a.at m l e) refl) (λ e. rw e refl)

  partner_same : AgreesTo g w s g.nodes → (n : ℕ) → partner_by g w s b n ≡ partner_of g w b n
  unfolding partner_by partner_of
  partner_same a n = first_after_ext (takes_by g w s b) (takes g w b) g.nodes n (takes_same a)

  -- the partner found
  record Taker (p : ℕ) : Type 0 where
    pub there : p < g.nodes
    pub alive : live w p ≡ true
    pub free : current (w.entry p b) ≡ invalid
    pub few : get_or s p 0 < set_frames g

  partner_takes : (n : ℕ) → (partner_by g w s b n ≡ n → ⊥) → Taker (partner_by g w s b n)
  unfolding partner_by takes_by
  partner_takes n d =
      let p = partner_by g w s b n in
      let f = after_found (takes_by g w s b) g.nodes n d in
      let t = both (live w p) f.passes in
      let u = both (eqb (current (w.entry p b)) invalid) t.1 in
      record { there = f.there; alive = t.0; free = eqb-true _ invalid u.0; few = ltb-true _ _ u.1 }

  -- as the code finds it
  module _ (n : ℕ) {p : ℕ} (e : p ≡ partner_by g w s b n) (d : p ≡ n → ⊥) where
    found_takes : Taker p
    found_takes = subst Taker (sym e) (partner_takes n (λ z. d (e ∙ z)))

    pub found_there : p < g.nodes
    found_there = found_takes.there

    pub found_room : g.nodes ≤ length s → p < length s
    found_room room = omega (arith, found_takes.there)

    pub found_few : get_or s p 0 < set_frames g
    found_few = found_takes.few

-- ---- whether a node can take a partner

module _ (lost : Option ℕ) (v : View) (b n : ℕ) {mark : ℕ} (h : mark ≡ (survivors lost v).mark n) where
  module _ (g : Geometry) (s : List ℕ) where
    pub takes_dead : mark ≡ 0 → false ≡ takes_by g (survivors lost v) s b n
    unfolding takes_by
    takes_dead e = rw (← h, eq-eqb mark 0 e) refl

    pub takes_live :
        {state c u f : ℕ} → (mark ≡ 0 → ⊥) → state ≡ (v.entry n b).state → c ≡ current_of state → u ≡ get_or s n 0 → f ≡ set_frames g
        → (eqb c invalid && ltb u f) ≡ takes_by g (survivors lost v) s b n
    unfolding takes_by
    takes_live e p q r k = rw (← h, ne_eqb mark 0 e, survivor_entry lost v, q, p, r, k) refl

-- ---- the partner's stores: "(value, state)"; the premises are in the order of the code's stores

pub partner_made :
    {g : Geometry} (p b : ℕ) (e : Entry) {x state code left left₁ left₂ : ℕ} {t t₁ t₂ : List ℕ}
    → x ≡ e.value → state ≡ e.state → code ≡ shared_ck (3 - checkpoint_of (current_of state))
    → StoredIn g left p b (value_to x ∷ []) t t₁ left₁
    → StoredIn g left₁ p b (state_to code invalid ∷ []) t₁ t₂ left₂ → StoredIn g left p b (partner_changes e) t t₂ left₂
unfolding partner_changes
partner_made p b e hx hs hd a d = rw (← hs, ← hx, ← hd) (stored_two a d)

-- ---- the partner of one copy

module _ (lost : Option ℕ) (b n : ℕ) {a : Stores} {p : ℕ} {s : List ℕ} (ready : Ready lost a s)
    (e : p ≡ partner_by a.g (survivors lost (shown a)) s b n) where
  -- with the scratch's partner in the place of the table's: the same while anything is left
  same_stores :
      {left' : ℕ} {t' : List ℕ}
      → Stored a.g a.left (cond (eqb p n) [] (map (entry_store p b) (partner_changes ((survivors lost (shown a)).entry n b))))
      a.table.now t' left'
      → Stored a.g a.left (partner_from a.g (survivors lost (shown a)) b n) a.table.now t' left'
  unfolding partner_from
  same_stores r = elim (ℕ_discrete a.left 0) [
    | yes z ↦ (let r' = rw z at r in rw z (stored_any (partner_from a.g (survivors lost (shown a)) b n) r'))
    | no z ↦ rw (← partner_same a.g (survivors lost (shown a)) s b (ready.counts.known z) n, ← e) r
  ]

  pub from_none : p ≡ n → Turned lost (λ w. partner_from a.g w b n) a a s s
  from_none q = record {
    made = made_with (made_none a) (same_stores (stored_as (rw (eq-eqb p n q) refl) (made_none a).stored));
    counts = ready.counts;
    rest = refl;
    size = refl;
  }

  pub from_made :
      b < a.g.items → (p ≡ n → ⊥) → {used : ℕ} {a' : Stores} → used ≡ used_with (get_or s p 0) ((shown a).entry p b).state
      → MadeIn a p b (partner_changes ((shown a).entry n b)) a'
      → Turned lost (λ w. partner_from a.g w b n) a a' s (set s p used)
  from_made item d {used} {a'} f r = record {
    made = made_with r (same_stores (stored_as (rw (ne_eqb p n d, survivor_entry lost (shown a)) refl) r.stored));
    counts = record { known = after };
    rest = drop-set-lt a.g.nodes s p used taker.there;
    size = length-set s p used;
  }
    where
      taker : Taker a.g (survivors lost (shown a)) s b p
      taker = found_takes a.g (survivors lost (shown a)) s b n e d

      entered : All (Entered a.g) (map (entry_store p b) (partner_changes ((shown a).entry n b)))
      entered = entered_changes a.g p b (partner_changes ((shown a).entry n b)) taker.there item

      viewed :
          (a'.left ≡ 0 → ⊥) → survivors lost (view a.g a'.table.now)
          ≡ updates (map (entry_store p b) (partner_changes ((shown a).entry n b))) (survivors lost (shown a))
      viewed more =
          ap (survivors lost) (view_left ready.long (entered_within a.g entered) more r.stored)
          ∙ survivors_entered a.g lost (shown a) entered

      counted : used ≡ used_with (get_or s p 0) ((survivors lost (shown a)).entry p b).state
      counted = f ∙ rw (survivor_entry lost (shown a)) refl

      after : (a'.left ≡ 0 → ⊥) → AgreesTo a'.g (survivors lost (shown a')) (set s p used) a'.g.nodes
      after more =
          rw (r.same_geometry, viewed more, counted)
          (partner_agrees a.g (survivors lost (shown a)) p b ((shown a).entry n b) s item taker.free taker.there ready.room taker.alive
          (ready.counts.known (λ z. more (omega (arith, r.stored.rest)))))

-- ---- one item

-- a single copy has a holder
holder_there : (g : Geometry) (w : View) (b : ℕ) → count (copy w b) g.nodes ≡ 1 → holder_of g w b < g.nodes
unfolding holder_of
holder_there g w b e =
    let o = only g.nodes (copy w b) e in
    let m = first_le (copy w b) g.nodes in
    elim (ℕ_discrete (first (copy w b) g.nodes) g.nodes) [
      | yes q ↦ absurd (no_both o.1.holds (first_least (copy w b) g.nodes o.0 (omega (arith, o.1.within))))
      | no q ↦ omega arith
    ]

-- while anything is left of the limit the item has one copy, and its holder is told; so far as nothing is left nothing is stored, whatever it has
module _ (lost : Option ℕ) {b h : ℕ} {a : Stores} {s : List ℕ} (o : Single lost a b h) where
  pub item_single :
      {a' : Stores} {s' : List ℕ} → Turned lost (λ w. partner_from a.g w b h) a a' s s'
      → Turned lost (partner_stores a.g b) a a' s s'
  unfolding partner_stores single
  item_single r = record {
    made = made_with r.made (elim (ℕ_discrete a.left 0) [
      | yes z ↦ (let r' = rw z at r.made.stored in rw z (stored_any (partner_stores a.g b (survivors lost (shown a))) r'))
      | no z ↦ rw (eq-eqb _ 1 (o.one z), ← o.is z) r.made.stored
    ]);
    counts = r.counts;
    rest = r.rest;
    size = r.size;
  }

  pub item_none : a.g.nodes ≤ h → Counts lost a s → Turned lost (partner_stores a.g b) a a s s
  item_none l k = record {
    made = made_with (made_none a) (elim (ℕ_discrete a.left 0) [
      | yes z ↦ rw z (stored_any (partner_stores a.g b (survivors lost (shown a))) (stored_none a.g 0 a.table.now))
      | no z ↦ absurd (let m = holder_there a.g (survivors lost (shown a)) b (o.one z) in omega (arith, o.is z))
    ]);
    counts = k;
    rest = refl;
    size = refl;
  }

-- an item that has no single copy
pub item_other :
    (lost : Option ℕ) (b : ℕ) {a : Stores} {s : List ℕ}
    → ((a.left ≡ 0 → ⊥) → count (copy (survivors lost (shown a)) b) a.g.nodes ≡ 1 → ⊥)
    → Counts lost a s → Turned lost (partner_stores a.g b) a a s s
unfolding partner_stores single
item_other lost b {a} e k = record {
  made = made_with (made_none a) (elim (ℕ_discrete a.left 0) [
    | yes z ↦ rw z (stored_any (partner_stores a.g b (survivors lost (shown a))) (stored_none a.g 0 a.table.now))
    | no z ↦ rw (ne_eqb _ 1 (e z)) (stored_none a.g a.left a.table.now)
  ]);
  counts = k;
  rest = refl;
  size = refl;
}

-- ---- all items

-- a partner's stores, those at whatever node takes it being right
pub all_partner :
    {p : Store → Type 0} (g : Geometry) (b : ℕ) (w : View)
    → ((n : ℕ) (e : Entry) → n < g.nodes → All p (map (entry_store n b) (partner_changes e)))
    → All p (partner_stores g b w)
unfolding partner_stores single partner_from partner_of
all_partner {p} g b w right = go (eqb (count (copy w b) g.nodes) 1) refl
  where
    stores : (n : ℕ) → n < g.nodes → All p (partner_from g w b n)
    stores n h = at (eqb (partner_of g w b n) n)
      where
        at : (q : Bool) → All p (cond q [] (map (entry_store (partner_of g w b n) b) (partner_changes (w.entry n b))))
        at true = none
        at false = right (partner_of g w b n) (w.entry n b) (first_after_below (takes g w b) g.nodes n h)

    go : (q : Bool) → eqb (count (copy w b) g.nodes) 1 ≡ q → All p (cond q (partner_from g w b (holder_of g w b)) [])
    go true e = stores (holder_of g w b) (holder_there g w b (eqb-true _ 1 e))
    go false e = none

entered_partner : (g : Geometry) (b : ℕ) (w : View) → b < g.items → All (Entered g) (partner_stores g b w)
entered_partner g b w h = all_partner g b w (λ n e l. entered_changes g n b (partner_changes e) l h)

pub entered_staged : (g : Geometry) (i : ℕ) (w : View) → i ≤ g.items → All (Entered g) (staged (partner_stores g) i w)
unfolding staged
entered_staged g zero w h = none
entered_staged g (suc i) w h =
    all_then (entered_staged g i w (omega arith)) (entered_partner g i (updates (staged (partner_stores g) i w) w) (omega arith))

pub entered_partners : (g : Geometry) (w : View) → All (Entered g) (partners_stores g w)
unfolding partners_stores
entered_partners g w = entered_staged g g.items w (omega arith)

module _ (lost : Option ℕ) {a : Stores} {s : List ℕ} where
  pub items_start : Counts lost a s → Turned lost (staged (partner_stores a.g) 0) a a s s
  unfolding staged
  items_start k = record { made = made_none a; counts = k; rest = refl; size = refl }

  module _ (i : ℕ) {a₁ : Stores} {s₁ : List ℕ} (r : Turned lost (staged (partner_stores a.g) i) a a₁ s s₁) where
    pub items_ready : Ready lost a s → Ready lost a₁ s₁
    items_ready k = record {
      long = rw r.made.same_geometry (omega (arith, k.long, r.made.stored.size));
      room = rw r.made.same_geometry (omega (arith, k.room, r.size));
      counts = r.counts;
    }

    pub items_turn :
        words_of a.g ≤ length a.table.now → i < a.g.items → {a₂ : Stores} {s₂ : List ℕ} → Turned lost (partner_stores a₁.g i) a₁ a₂ s₁ s₂
        → Turned lost (staged (partner_stores a.g) (i + 1)) a a₂ s s₂
    unfolding staged
    items_turn long l q = record {
      made = made_more r.made q.made
          (rw add-one
          (stage_follows lost (partner_stores a.g i) long (entered_staged a.g i (survivors lost (shown a)) (omega arith)) r.made.stored
          (rw r.made.same_geometry at q.made.stored)));
      counts = q.counts;
      rest = (rw r.made.same_geometry at q.rest) ∙ r.rest;
      size = q.size ∙ r.size;
    }

    pub items_end : i ≤ a.g.items → a.g.items ≤ i → Turned lost (partners_stores a.g) a a₁ s s₁
    unfolding partners_stores
    items_end h l = let e : i ≡ a.g.items = omega arith in rw e at r

-- ---- the frames in use, before the first item

used_same : (g : Geometry) (lost : Option ℕ) (v : View) (n : ℕ) → used g v n 0 ≡ used g (survivors lost v) n 0
unfolding used frames_at
used_same g None v n = refl
used_same g (Some m) v n = refl

pub used_live : (g : Geometry) (lost : Option ℕ) (v : View) (n : ℕ) {r : ℕ} → r ≡ used g v n 0 → UsedBy g (survivors lost v) n r
used_live g lost v n e = record { is = λ q. e ∙ used_same g lost v n }

module _ (g : Geometry) (w : View) {s : List ℕ} where
  pub filled_turn :
      (k : ℕ) {x : ℕ} {s₁ : List ℕ} → k < g.nodes → g.nodes ≤ length s → UsedBy g w k x → Filled g w k s s₁ → Filled g w (k + 1) s (set s₁ k x)
  filled_turn k {x} {s₁} l room u f = record {
    agrees = agrees_turn g w s₁ k x (omega (arith, f.size)) u.is f.agrees;
    rest = drop-set-lt g.nodes s₁ k x l ∙ f.rest;
    size = length-set s₁ k x ∙ f.size;
  }

  pub filled_end : (k : ℕ) {s₁ : List ℕ} → k ≤ g.nodes → g.nodes ≤ k → Filled g w k s s₁ → Filled g w g.nodes s s₁
  filled_end k h l f = let e : k ≡ g.nodes = omega arith in rw e at f

-- the scratch is filled, and then the items
module _ (lost : Option ℕ) {a : Stores} {s s₁ : List ℕ} (f : Filled a.g (survivors lost (shown a)) a.g.nodes s s₁) where
  pub filled_ready : words_of a.g ≤ length a.table.now → a.g.nodes ≤ length s → Ready lost a s₁
  filled_ready long room = record { long = long; room = omega (arith, f.size); counts = record { known = λ _. f.agrees } }
