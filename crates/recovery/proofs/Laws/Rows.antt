-- The laws of `specs/code/Rows.antt`.
use Prim.Native.Nat.{ℕ, zero, suc, ◌+◌, ◌*◌, ◌-◌, ◌<◌, ◌≤◌}
use mathlib.Core.Path.{◌≡◌, refl, sym, ap, ◌∙◌}
use mathlib.Core.Bool.{not}
use mathlib.Core.List.{List}
use native.Mathlib.Omega.{arith}
use native.Mathlib.Decide.{ℕ_discrete}
use native.Mathlib.Numerals.{add-one}
use mir.Val.{bool_byte}
use lib.Dec.{eqb}
use lib.ListN.{length, get_or, set, take, length-set}
use Rattle.std.proofs.lemmas.List.{get_or-take, length-take-le}
use lib.Seq.{get_or-set_same, get_or-set_other}
use Rattle.counting.proofs.Laws.Tests.{by_cases}
use Rattle.counting.proofs.Laws.Counting.{bit_counted}
use borrow.Author.Tests.{eqb-true}
use Rattle.table.specs.declared.geometry.Geometry.{Geometry}
use Rattle.table.specs.Geometry.{entry_at, Placed}
use Rattle.table.specs.View.{view, entry_in}
use Rattle.table.proofs.Laws.View.{entry_read}
use Rattle.entries.specs.code.Row.{row_state}
use Rattle.entries.proofs.Laws.Row.{row_state_lem, row_read}
use Rattle.recovery.specs.code.Rows.{HasEntry, state_in, reached, Listed, Listing, ListedMore, ListedAll, Rowed}

-- ---- the list grows

pub reached_start : (l : List ℕ) → reached l 0 ≡ 0
unfolding reached
reached_start l = refl

pub reached_next : (l : List ℕ) (k : ℕ) → reached l (k + 1) ≡ get_or l k 0 + 1
unfolding reached
reached_next l k = rw add-one refl

-- a word further on is not looked at
reached_set : (l : List ℕ) (r x k : ℕ) → k ≤ r → reached (set l r x) k ≡ reached l k
unfolding reached
reached_set l r x zero h = refl
reached_set l r x (suc k) h = ap (λ y. y + 1) (get_or-set_other l r k x 0 (λ (e : k ≡ r). omega arith))

pub listing_none : (f : ℕ → ℕ) (l : List ℕ) → Listing f 0 l l 0
unfolding reached
listing_none f l = record {
  listed = record {
    few = omega arith;
    room = omega arith;
    all = omega arith;
    ascends = λ k h. absurd (omega arith);
    below = λ k h. absurd (omega arith);
    gap = λ k h. absurd (omega arith);
    rest = λ j h l. absurd (omega arith);
  };
  size = refl;
}

module _ (f : ℕ → ℕ) (m : ℕ) {l l' : List ℕ} {r : ℕ} (h : Listing f m l l' r) (room : m < length l) where
  same : (k : ℕ) → k < r → get_or (set l' r m) k 0 ≡ get_or l' k 0
  same k q = get_or-set_other l' r k m 0 (λ (e : k ≡ r). omega arith)

  pub listing_skip : f m ≡ 0 → Listing f (m + 1) l (set l' r m) r
  listing_skip e =
      let o = h.listed in
      record {
        listed = record {
          few = omega (arith, o.few);
          room = rw (length-set l' r m) o.room;
          all = rw (reached_set l' r m r (omega arith)) (omega (arith, o.all));
          ascends = λ k q. rw (same k q, reached_set l' r m k (omega arith)) (o.ascends k q);
          below = λ k q. rw (same k q) (omega (arith, o.below k q));
          gap = λ k q. rw (same k q, reached_set l' r m k (omega arith)) (o.gap k q);
          rest = rw (reached_set l' r m r (omega arith))
              (λ j p q. elim (ℕ_discrete j m) [ yes z ↦ rw z e | no z ↦ o.rest j p (omega arith) ]);
        };
        size = length-set l' r m ∙ h.size;
      }

  pub listing_add : Listing f (m + 1) l (set l' r m) (r + 1)
  listing_add =
      let o = h.listed in
      let z : get_or (set l' r m) r 0 ≡ m = get_or-set_same l' r m 0 (omega (arith, o.few, h.size)) in
      record {
        listed = record {
          few = omega (arith, o.few);
          room = rw (length-set l' r m) (omega (arith, o.few, h.size));
          all = rw (reached_next (set l' r m) r, z) (omega arith);
          ascends = λ k q. elim (ℕ_discrete k r) [
            | yes e ↦ rw (e, reached_set l' r m r (omega arith), z) o.all
            | no e ↦ rw (same k (omega arith), reached_set l' r m k (omega arith)) (o.ascends k (omega arith))
          ];
          below = λ k q. elim (ℕ_discrete k r) [ yes e ↦ rw (e, z) (omega arith) | no e ↦ rw (same k (omega arith)) (let b = o.below k (omega arith) in omega arith) ];
          gap = λ k q. elim (ℕ_discrete k r) [
            | yes e ↦ rw (e, reached_set l' r m r (omega arith), z) o.rest
            | no e ↦ rw (same k (omega arith), reached_set l' r m k (omega arith)) (o.gap k (omega arith))
          ];
          rest = rw (reached_next (set l' r m) r, z) (λ j p q. absurd (omega arith));
        };
        size = length-set l' r m ∙ h.size;
      }

  -- as the code counts
  pub listing_turn : {w : ℕ} → w ≡ f m → Listing f (m + 1) l (set l' r m) (r + bool_byte (not (eqb w 0)))
  listing_turn {w} e =
      by_cases (eqb w 0)
      (λ q. let z : r + 0 ≡ r = omega arith in rw (q, z) (listing_skip (sym e ∙ eqb-true w 0 q)))
      (λ q. rw q listing_add)

pub listing_ends : (f : ℕ → ℕ) {i m : ℕ} {l l' : List ℕ} {r : ℕ} → i ≤ m → m ≤ i → Listing f i l l' r → Listing f m l l' r
listing_ends f {i} {m} h k o = let e : i ≡ m = omega arith in rw e at o

pub listing_at : {f : ℕ → ℕ} {i m : ℕ} {l l' : List ℕ} {r : ℕ} → i ≡ m → Listing f i l l' r → Listing f m l l' r
listing_at e o = rw e at o

-- of the list at first only the length is told
pub listing_for : {f : ℕ → ℕ} {m : ℕ} {k l l' : List ℕ} {r : ℕ} → length l ≡ length k → Listing f m l l' r → Listing f m k l' r
listing_for e o = record { listed = o.listed; size = o.size ∙ e }

pub listed_one : (t : List ℕ) (at item : ℕ) {l : List ℕ} {r w : ℕ} → w ≡ get_or t at 0 → ListedMore t at item 1 l (set l r item) r (r + bool_byte (not (eqb w 0)))
listed_one t at item {l} {r} {w} e = record {
  lists = λ start a room o. listing_turn (row_state t start) item o (omega arith) (row_read t start item a e);
  few = omega (arith, (bit_counted (not (eqb w 0))).small);
  size = length-set l r item;
}

pub listed_then :
    {t : List ℕ} {at at' item item' n m : ℕ} {l l' l'' : List ℕ} {r r' r'' : ℕ} → ListedMore t at item n l l' r r' → at' ≡ at + 3 * n → item' ≡ item + n
    → ListedMore t at' item' m l' l'' r' r'' → ListedMore t at item (n + m) l l'' r r''
listed_then p a e q = record {
  lists = λ start b room o. listing_at (omega arith) (q.lists start (omega arith) (omega arith) (listing_at (omega arith) (p.lists start b (omega arith) o)));
  few = omega (arith, p.few, q.few);
  size = q.size ∙ p.size;
}

-- ---- a pass over the list in the place of all items: what holds at an item holds after it where f is 0

module _ (P : ℕ → Type 0) (f : ℕ → ℕ) (zeros : (j : ℕ) → f j ≡ 0 → P j → P (j + 1)) where
  skip : (i d : ℕ) → ((j : ℕ) → i ≤ j → j < i + d → f j ≡ 0) → P i → P (i + d)
  skip i zero h p = let e : i + 0 ≡ i = omega arith in rw e p
  skip i (suc d) h p =
      let e : i + d + 1 ≡ i + suc d = omega arith in
      rw (← e) (zeros (i + d) (h (i + d) (omega arith) (omega arith)) (skip i d (λ j a b. h j a (omega arith)) p))

  skip_to : (i k : ℕ) → i ≤ k → ((j : ℕ) → i ≤ j → j < k → f j ≡ 0) → P i → P k
  skip_to i k l h p = let e : i + (k - i) ≡ k = omega arith in rw (← e) (skip i (k - i) (λ j a b. h j a (omega arith)) p)

  module _ {m : ℕ} {l : List ℕ} {r : ℕ} (o : Listed f m l r) where
    pub listed_turn : (k : ℕ) → k < r → P (reached l k) → P (get_or l k 0)
    listed_turn k h p = skip_to (reached l k) (get_or l k 0) (o.ascends k h) (o.gap k h) p

    pub listed_end : (k : ℕ) → k ≤ r → r ≤ k → P (reached l k) → P m
    listed_end k h q p = let e : k ≡ r = omega arith in skip_to (reached l r) m o.all o.rest (rw e at p)

-- ---- a word for each item, changed along a row: the words of the items before i are as h makes them

pub rowed_none : (h : ℕ → ℕ → ℕ) (s : List ℕ) → Rowed h 0 s s
rowed_none h s = record { made = λ j l. absurd (omega arith); kept = λ j l. refl; size = refl }

module _ (h : ℕ → ℕ → ℕ) (i : ℕ) {s s' : List ℕ} (r : Rowed h i s s') where
  pub rowed_blank : h i (get_or s i 0) ≡ get_or s i 0 → Rowed h (i + 1) s s'
  rowed_blank e = record {
    made = λ j l. elim (ℕ_discrete j i) [ yes q ↦ rw q (r.kept i (omega arith) ∙ sym e) | no q ↦ r.made j (omega arith) ];
    kept = λ j l. r.kept j (omega arith);
    size = r.size;
  }

  pub rowed_set : i < length s → {y : ℕ} → y ≡ h i (get_or s' i 0) → Rowed h (i + 1) s (set s' i y)
  rowed_set room {y} e = record {
    made = λ j l. elim (ℕ_discrete j i) [
      | yes q ↦ rw q (get_or-set_same s' i y 0 (omega (arith, r.size)) ∙ e ∙ ap (h i) (r.kept i (omega arith)))
      | no q ↦ get_or-set_other s' i j y 0 q ∙ r.made j (omega arith)
    ];
    kept = λ j l. get_or-set_other s' i j y 0 (λ (q : j ≡ i). omega arith) ∙ r.kept j (omega arith);
    size = length-set s' i y ∙ r.size;
  }

-- ---- the row of a node

listed_ext : {f h : ℕ → ℕ} {m : ℕ} {l : List ℕ} {r : ℕ} → ((j : ℕ) → j < m → f j ≡ h j) → Listed f m l r → Listed h m l r
listed_ext same p = record {
  few = p.few;
  room = p.room;
  all = p.all;
  ascends = p.ascends;
  below = p.below;
  gap = λ k q j a b. sym (same j (omega (arith, p.below k q))) ∙ p.gap k q j a b;
  rest = λ j a b. sym (same j b) ∙ p.rest j a b;
}

-- the first r of the list are a list of just those items
reached_take : (l : List ℕ) (r k : ℕ) → k ≤ r → reached (take r l) k ≡ reached l k
unfolding reached
reached_take l r zero h = refl
reached_take l r (suc k) h = ap (λ y. y + 1) (get_or-take r l k 0 (omega arith))

pub listed_part : {f : ℕ → ℕ} {m : ℕ} {l : List ℕ} {r : ℕ} → Listed f m l r → ListedAll f m (take r l)
listed_part {f} {m} {l} {r} o =
    let here : (k : ℕ) → k < r → get_or (take r l) k 0 ≡ get_or l k 0 = λ k q. get_or-take r l k 0 q in
    rw (length-take-le r l o.room) (record {
      few = o.few;
      room = rw (length-take-le r l o.room) (omega arith);
      all = rw (reached_take l r r (omega arith)) o.all;
      ascends = λ k q. rw (here k q, reached_take l r k (omega arith)) (o.ascends k q);
      below = λ k q. rw (here k q) (o.below k q);
      gap = λ k q. rw (here k q, reached_take l r k (omega arith)) (o.gap k q);
      rest = rw (reached_take l r r (omega arith)) o.rest;
    })

module _ (g : Geometry) (t : List ℕ) (n : ℕ) (h : n < g.nodes) {start : ℕ} (a : Placed g n 0 start) where
  pub row_listed : {l : List ℕ} {r : ℕ} → Listed (row_state t start) g.items l r → Listed (state_in (view g t) n) g.items l r
  row_listed = listed_ext (row_state_lem g t n h a)

-- ---- an entry read at its place

module _ (g : Geometry) (t : List ℕ) (n b : ℕ) (h : HasEntry g t n b) {at : ℕ} (a : at ≡ entry_at g n b) where
  read : (view g t).entry n b ≡ entry_in t (entry_at g n b)
  read = entry_read g t n b h.0 h.1.0

  pub entry_state : get_or t at 0 ≡ ((view g t).entry n b).state
  entry_state = ap (λ i. get_or t i 0) a ∙ sym (ap (λ e. e.state) read)

  pub entry_value : get_or t (at + 1) 0 ≡ ((view g t).entry n b).value
  entry_value = ap (λ i. get_or t (i + 1) 0) a ∙ sym (ap (λ e. e.value) read)
