-- The item of a copy that went home: it is of its kind still, with the home in the source's stead.
use Prim.Native.Nat.{ℕ, ◌≤◌, ◌<◌}
use mathlib.Core.Path.{◌≡◌, sym, ap, ap₂, ◌∙◌}
use mathlib.Core.Logic.{◌≢◌, ◌⊎◌, inl, inr}
use mathlib.Core.Bool.{Bool, true, not, ◌&&◌}
use native.Mathlib.Omega.{arith}
use native.Mathlib.Decide.{ℕ_discrete}
use lib.Dec.{eqb}
use borrow.Author.Tests.{eqb-true, eq-eqb, ne_eqb}
use Rattle.counting.proofs.Laws.Tests.{both, and_both, no_both}
use Rattle.counting.proofs.Laws.Counting.{Only, only_same}
use Rattle.table.specs.Words.{shared, owner, modified, shared_ck1, shared_ck2, inv_ck1, inv_ck2}
use Rattle.table.specs.View.{View, live, current, kept}
use Rattle.entries.specs.Tally.{has, has_kept, copy, kept_copy}
use Rattle.entries.proofs.Laws.Kinds.{clean_code, owner_code, Clean, Saved, Owned, modified_at, owner_at, Kind, clean, dirty, created, has_code, has_at_lem, copy_at, copy_live, copy_code, no_keep, keep_at}
use Rattle.homes.proofs.Laws.SoundKept.{saved_kept}

-- ---- the only node with a code: where n had it, h has it now

module _ (N n h : ℕ) (a a' : ℕ → Bool) (f f' : ℕ → ℕ) (same : (k : ℕ) → a' k ≡ a k) (there : n < N) (from : a n ≡ true) (within : h < N) (home : a h ≡ true)
    (came : f' h ≡ f n) (rest : (k : ℕ) → k ≢ n → k ≢ h → f' k ≡ f k) where
  only_moved :
      (code m : ℕ) → f' n ≢ code → f h ≢ code → Only N (λ k. a k && eqb (f k) code) m → (m' : ℕ) × Only N (λ k. a' k && eqb (f' k) code) m'
  only_moved code m left free o = elim (ℕ_discrete (f n) code) [
    | yes e ↦ (
      h,
      record {
        within = within;
        holds = and_both (same h ∙ home) (eq-eqb (f' h) code (came ∙ e));
        alone = λ k l t. elim (ℕ_discrete k h) [
          | yes q ↦ q
          | no q ↦ (let z = before k q t in absurd (z.0 (o.alone k l z.1 ∙ sym (o.alone n there (and_both from (eq-eqb (f n) code e))))))
        ];
      },
    )
    | no e ↦ (let d : m ≢ n = λ q. e (ap f (sym q) ∙ eqb-true (f m) code (both (a m) o.holds).1) in
        let d' : m ≢ h = λ q. free (ap f (sym q) ∙ eqb-true (f m) code (both (a m) o.holds).1) in (
          m,
          record {
            within = o.within;
            holds = and_both (same m ∙ (both (a m) o.holds).0) (ap (λ x. eqb x code) (rest m d d') ∙ (both (a m) o.holds).1);
            alone = λ k l t. elim (ℕ_discrete k h) [
              | yes q ↦ absurd (e (sym came ∙ ap f' (sym q) ∙ eqb-true (f' k) code (both (a' k) t).1))
              | no q ↦ o.alone k l (before k q t).1
            ];
          },
        ))
  ]
    where
      -- a node but h that has the code had it, and is not n
      before : (k : ℕ) → k ≢ h → (a' k && eqb (f' k) code) ≡ true → (k ≢ n) × ((a k && eqb (f k) code) ≡ true)
      before k q t =
          let z : k ≢ n = λ e. left (ap f' (sym e) ∙ eqb-true (f' k) code (both (a' k) t).1) in
          (z, and_both (sym (same k) ∙ (both (a' k) t).0) (ap (λ x. eqb x code) (sym (rest k z q)) ∙ (both (a' k) t).1))

-- ---- the two nodes

pub record Between (N n h b : ℕ) (v w : View) : Type 0 where
  pub there : n < N
  pub from : live v n ≡ true
  pub within : h < N
  pub home : live v h ≡ true
  pub other : h ≢ n
  pub marks : w.mark ≡ v.mark
  pub rest : (k : ℕ) → k ≢ n → k ≢ h → w.entry k b ≡ v.entry k b

-- a current copy has gone
pub record CurrentGone (n h b : ℕ) (v w : View) : Type 0 where
  pub left : current (w.entry n b) ≡ 0
  pub came : current (w.entry h b) ≡ current (v.entry n b)
  pub value : (w.entry h b).value ≡ (v.entry n b).value
  pub high : 2 ≤ current (v.entry n b)
  pub low : current (v.entry h b) < 2
  pub kept : (k : ℕ) → kept (w.entry k b) ≡ kept (v.entry k b)
  pub kept_value : (k : ℕ) → (w.entry k b).kept_value ≡ (v.entry k b).kept_value

-- a kept copy has gone; a Shared copy at the home may be dropped
pub record KeptGone (n h b : ℕ) (v w : View) : Type 0 where
  pub left : kept (w.entry n b) ≡ 0
  pub came : kept (w.entry h b) ≡ kept (v.entry n b)
  pub kept_value : (w.entry h b).kept_value ≡ (v.entry n b).kept_value
  pub high : kept (v.entry n b) ≢ 0
  pub low : kept (v.entry h b) ≡ 0
  pub value : (k : ℕ) → (w.entry k b).value ≡ (v.entry k b).value
  pub current :
      (k : ℕ) → (current (w.entry k b) ≡ current (v.entry k b)) ⊎ ((current (v.entry k b) ≡ shared) × (current (w.entry k b) ≡ 0))

module _ (v w : View) (N n h b : ℕ) (p : Between N n h b v w) where
  live_same : (k : ℕ) → live w k ≡ live v k
  live_same k = ap (λ f. not (eqb (f k) 0)) p.marks

  -- ---- a current copy

  module _ (c : CurrentGone n h b v w) where
    only_code : (code m : ℕ) → 2 ≤ code → Only N (has v b code) m → (m' : ℕ) × Only N (has w b code) m'
    only_code code m l =
        let lo = c.low in
        only_moved N n h (live v) (live w) (λ k. current (v.entry k b)) (λ k. current (w.entry k b)) live_same p.there p.from p.within p.home
        c.came (λ k d d'. ap current (p.rest k d d')) code m (λ e. let z = sym c.left ∙ e in omega arith) (λ e. omega arith)

    record Was (k : ℕ) : Type 0 where
      node : ℕ
      within : node < N
      copied : copy v b node ≡ true
      code : current (w.entry k b) ≡ current (v.entry node b)
      value : (w.entry k b).value ≡ (v.entry node b).value

    from_copy : copy v b n ≡ true
    from_copy = let l = c.high in copy_at v b n p.from (λ e. omega arith)

    was_other : (k : ℕ) → k ≢ h → copy w b k ≡ true → (k ≢ n) × (copy v b k ≡ true)
    was_other k d t =
        let z : k ≢ n = λ e. copy_code w b k t (ap (λ i. current (w.entry i b)) e ∙ c.left) in
        (z, copy_at v b k (sym (live_same k) ∙ copy_live w b k t) (λ e. copy_code w b k t (ap current (p.rest k z d) ∙ e)))

    was : (k : ℕ) → k < N → copy w b k ≡ true → Was k
    was k l t = elim (ℕ_discrete k h) [
      | yes e ↦ record {
        node = n;
        within = p.there;
        copied = from_copy;
        code = ap (λ i. current (w.entry i b)) e ∙ c.came;
        value = ap (λ i. (w.entry i b).value) e ∙ c.value;
      }
      | no e ↦ (let z = was_other k e t in
          record { node = k; within = l; copied = z.1; code = ap current (p.rest k z.0 e); value = ap (λ x. x.value) (p.rest k z.0 e) })
    ]

    codes_are :
        (codes : ℕ → Bool) → ((k : ℕ) → k < N → copy v b k ≡ true → codes (current (v.entry k b)) ≡ true) → (k : ℕ) → k < N → copy w b k ≡ true
        → codes (current (w.entry k b)) ≡ true
    codes_are codes f k l t = let s = was k l t in ap codes s.code ∙ f s.node s.within s.copied

    values_are :
        (x : ℕ) → ((k : ℕ) → k < N → copy v b k ≡ true → (v.entry k b).value ≡ x) → (k : ℕ) → k < N → copy w b k ≡ true → (w.entry k b).value ≡ x
    values_are x f k l t = let s = was k l t in s.value ∙ f s.node s.within s.copied

    clean_gone : Clean v N b → Clean w N b
    clean_gone k =
        let i = only_code shared_ck1 k.one (omega arith) k.first in
        let j = only_code shared_ck2 k.two (omega arith) k.second in
        record {
          one = i.0;
          two = j.0;
          value = k.value;
          first = i.1;
          second = j.1;
          others = codes_are clean_code k.others;
          values = values_are k.value k.values;
          nothing = λ m l. ap₂ ◌&&◌ (live_same m) (ap (λ x. not (eqb x 0)) (c.kept m)) ∙ k.nothing m l;
        }

    owned_gone : (m : ℕ) → Owned v N b m → (m' : ℕ) × Owned w N b m'
    owned_gone m (owner_at o codes) = let i = only_code owner m (omega arith) o in (i.0, owner_at i.1 (codes_are owner_code codes))
    owned_gone m (modified_at o alone) =
        let i = only_code modified m (omega arith) o in
        let e : n ≡ m = alone n p.there from_copy in
        let at : h ≡ i.0 =
        i.1.alone h p.within
        (has_at_lem w b h modified (live_same h ∙ p.home) (c.came ∙ ap (λ x. current (v.entry x b)) e ∙ has_code v b m modified o.holds)) in (
          i.0,
          modified_at i.1 (λ k l t. elim (ℕ_discrete k h) [
            | yes q ↦ q ∙ at
            | no q ↦ (let z = was_other k q t in absurd (z.0 (alone k l z.1 ∙ sym e)))
          ]),
        )

    pub kind_current : (phase : ℕ) → phase ≢ 1 → Kind phase v N b → Kind phase w N b
    kind_current phase d (clean k) = clean (clean_gone k)
    kind_current phase d (dirty k) =
        let i = owned_gone k.node k.owned in
        dirty (record {
          node = i.0;
          value = k.value;
          owned = i.1;
          values = values_are k.value k.values;
          saved = saved_kept v w N b p.marks (λ m _. c.kept m) (λ m _. c.kept_value m) k.saved;
        })
    kind_current phase d (created e k) = absurd (d e)

  -- ---- a kept copy

  module _ (c : KeptGone n h b v w) where
    only_kept_code : (code m : ℕ) → 1 ≤ code → Only N (has_kept v b code) m → (m' : ℕ) × Only N (has_kept w b code) m'
    only_kept_code code m l =
        only_moved N n h (live v) (live w) (λ k. kept (v.entry k b)) (λ k. kept (w.entry k b)) live_same p.there p.from p.within p.home
        c.came (λ k d d'. ap kept (p.rest k d d')) code m (λ e. let z = sym c.left ∙ e in omega arith) (λ e. let z = sym c.low ∙ e in omega arith)

    keep_code : (u : View) (k : ℕ) → kept_copy u b k ≡ true → (live u k ≡ true) × (kept (u.entry k b) ≢ 0)
    keep_code u k t = ((both (live u k) t).0, λ e. not_zero (kept (u.entry k b)) (both (live u k) t).1 e)
      where
        not_zero : (x : ℕ) → not (eqb x 0) ≡ true → x ≢ 0
        not_zero x q e = no_both q (ap not (eq-eqb x 0 e))

    saved_gone : Saved v N b → Saved w N b
    saved_gone k =
        let i = only_kept_code inv_ck1 k.one (omega arith) k.first in
        let j = only_kept_code inv_ck2 k.two (omega arith) k.second in
        record {
          one = i.0;
          two = j.0;
          value = k.value;
          first = i.1;
          second = j.1;
          values = λ m l t. elim (ℕ_discrete m h) [
            | yes e ↦ ap (λ i. (w.entry i b).kept_value) e ∙ c.kept_value ∙ k.values n p.there (keep_at v b n p.from c.high)
            | no e ↦ (let q = keep_code w m t in
                let z : m ≢ n = λ y. q.1 (ap (λ i. kept (w.entry i b)) y ∙ c.left) in
                ap (λ x. x.kept_value) (p.rest m z e)
                ∙ k.values m l (keep_at v b m (sym (live_same m) ∙ q.0) (λ y. q.1 (ap kept (p.rest m z e) ∙ y))))
          ];
        }

    code_same : (code : ℕ) → 2 ≤ code → (k : ℕ) → k < N → has v b code k ≡ has w b code k
    code_same code l k _ = ap₂ ◌&&◌ (sym (live_same k)) (of (c.current k))
      where
        of : (current (w.entry k b) ≡ current (v.entry k b)) ⊎ ((current (v.entry k b) ≡ shared) × (current (w.entry k b) ≡ 0))
            → eqb (current (v.entry k b)) code ≡ eqb (current (w.entry k b)) code
        of (inl e) = ap (λ x. eqb x code) (sym e)
        of (inr e) =
            ne_eqb (current (v.entry k b)) code (λ z. let q = sym e.0 ∙ z in omega arith)
            ∙ sym (ne_eqb (current (w.entry k b)) code (λ z. let q = sym e.1 ∙ z in omega arith))

    still : (k : ℕ) → copy w b k ≡ true → (copy v b k ≡ true) × (current (w.entry k b) ≡ current (v.entry k b))
    still k t = of (c.current k)
      where
        of : (current (w.entry k b) ≡ current (v.entry k b)) ⊎ ((current (v.entry k b) ≡ shared) × (current (w.entry k b) ≡ 0))
            → (copy v b k ≡ true) × (current (w.entry k b) ≡ current (v.entry k b))
        of (inl e) = (copy_at v b k (sym (live_same k) ∙ copy_live w b k t) (λ z. copy_code w b k t (e ∙ z)), e)
        of (inr e) = absurd (copy_code w b k t e.1)

    owned_stays : (m : ℕ) → Owned v N b m → Owned w N b m
    owned_stays m (owner_at o codes) =
        owner_at (only_same N (has v b owner) (has w b owner) m (code_same owner (omega arith)) o)
        (λ k l t. let s = still k t in ap owner_code s.1 ∙ codes k l s.0)
    owned_stays m (modified_at o alone) =
        modified_at (only_same N (has v b modified) (has w b modified) m (code_same modified (omega arith)) o) (λ k l t. alone k l (still k t).0)

    pub kind_kept : (phase : ℕ) → phase ≢ 1 → Kind phase v N b → Kind phase w N b
    kind_kept phase d (clean k) = absurd (c.high (no_keep v b n p.from (k.nothing n p.there)))
    kind_kept phase d (dirty k) =
        dirty (record {
          node = k.node;
          value = k.value;
          owned = owned_stays k.node k.owned;
          values = λ m l t. c.value m ∙ k.values m l (still m t).0;
          saved = saved_gone k.saved;
        })
    kind_kept phase d (created e k) = absurd (d e)
