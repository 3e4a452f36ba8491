-- Laws of `specs/code/PartnersCode.antt`: the items that a turn of the partner stage passes over.
use Rattle.std.specs.Prelude.{Option}
use Prim.Native.Nat.{ℕ, zero, suc, ◌+◌, ◌*◌, ◌≤◌, ◌<◌}
use mathlib.Core.Path.{◌≡◌, refl, sym, ap, ◌∙◌}
use mathlib.Core.Logic.{◌≢◌}
use mathlib.Core.List.{List, [], ◌∷◌, map}
use native.Mathlib.Omega.{arith}
use lib.ListN.{get_or}
use Rattle.counting.specs.Counting.{count}
use Rattle.counting.proofs.Laws.Counting.{count_ext}
use Rattle.counting.proofs.Laws.First.{first_ext}
use Rattle.table.specs.declared.geometry.Geometry.{Geometry}
use Rattle.table.specs.Geometry.{entry_at, mark_at}
use Rattle.table.proofs.Laws.Geometry.{entries_apart}
use Rattle.table.specs.Stores.{Store, Change, size_store, mark_store, entry_store, Stored, address_of, part_of}
use Rattle.table.proofs.Laws.Stores.{part_low, after_off, All, none, more, all_then}
use Rattle.table.specs.declared.stores.Stores.{Stores}
use Rattle.table.specs.Made.{shown}
use Rattle.table.specs.View.{View, view, updates}
use Rattle.table.proofs.Laws.View.{mark_read, entry_read, entry_same}
use Rattle.entries.specs.Tally.{copy}
use Rattle.survivors.specs.Survivors.{survivors}
use Rattle.survivors.proofs.Laws.SurvivorsCode.{survivor_entry, survivor_marks}
use Rattle.recovery.specs.Numbering.{holder_of, partner_changes, partner_stores, staged}
use Rattle.recovery.specs.code.PartnersCode.{Ready, Turned, Settles, Passable}
use Rattle.recovery.proofs.Laws.PartnersCode.{item_other, items_ready, all_partner}
use Rattle.recovery.specs.code.Tallies.{holders_by, holder_by}

-- ---- the stores of the items before i

abbrev Before : Geometry → ℕ → Store → Type 0
Before g i (size_store h) = ⊥
Before g i (mark_store n w) = ⊥
Before g i (entry_store n b c) = (n < g.nodes) × ((b < g.items) × (b < i))

before_changes : (g : Geometry) (i n b : ℕ) (cs : List Change) → n < g.nodes → b < g.items → b < i → All (Before g i) (map (entry_store n b) cs)
before_changes g i n b [] hn hb h = none
before_changes g i n b (c ∷ cs) hn hb h = more {s = entry_store n b c} (hn, (hb, h)) (before_changes g i n b cs hn hb h)

before_partner : (g : Geometry) (i b : ℕ) (w : View) → b < g.items → b < i → All (Before g i) (partner_stores g b w)
before_partner g i b w hb hi = all_partner g b w (λ n e l. before_changes g i n b (partner_changes e) l hb hi)

before_staged : (g : Geometry) (i k : ℕ) (w : View) → k ≤ g.items → k ≤ i → All (Before g i) (staged (partner_stores g) k w)
unfolding staged
before_staged g i zero w h l = none
before_staged g i (suc k) w h l =
    all_then (before_staged g i k w (omega arith) (omega arith))
    (before_partner g i k (updates (staged (partner_stores g) k w) w) (omega arith) (omega arith))

entry_off : (g : Geometry) (i n b k : ℕ) {ss : List Store} → b < g.items → i ≤ b → k < 3 → All (Before g i) ss → All (λ s. entry_at g n b + k ≢ address_of g s) ss
entry_off g i n b k hb l h none = none
entry_off g i n b k hb l h (more {s = size_store x} p a) = absurd p
entry_off g i n b k hb l h (more {s = mark_store m w} p a) = absurd p
entry_off g i n b k hb l h (more {s = entry_store m d c} p a) =
    more {s = entry_store m d c} (entries_apart g n b m d k (part_of c) h (part_low c) hb p.1.0 (λ _ (e : b ≡ d). omega (arith, p.1.1)))
    (entry_off g i n b k hb l h a)

mark_off : (g : Geometry) (i n : ℕ) {ss : List Store} → n < g.nodes → All (Before g i) ss → All (λ s. mark_at n ≢ address_of g s) ss
mark_off g i n hn none = none
mark_off g i n hn (more {s = size_store x} p a) = absurd p
mark_off g i n hn (more {s = mark_store m w} p a) = absurd p
mark_off g i n hn (more {s = entry_store m d c} p a) =
    more {s = entry_store m d c} (λ (e : 1 + n ≡ 1 + g.nodes + 3 * (m * g.items + d) + part_of c). omega arith) (mark_off g i n hn a)

module _ (g : Geometry) (i : ℕ) {ss : List Store} {left left' : ℕ} {t t' : List ℕ} (a : All (Before g i) ss) (s : Stored g left ss t t' left') where
  entry_stays : (n b : ℕ) → n < g.nodes → b < g.items → i ≤ b → (view g t').entry n b ≡ (view g t).entry n b
  entry_stays n b hn hb l =
      entry_read g t' n b hn hb
      ∙ entry_same t t' (entry_at g n b) word
      ∙ sym (entry_read g t n b hn hb)
    where
      word : (k : ℕ) → k < 3 → get_or t' (entry_at g n b + k) 0 ≡ get_or t (entry_at g n b + k) 0
      word k h = ap (λ u. get_or u (entry_at g n b + k) 0) s.table ∙ after_off g (entry_at g n b + k) left t (entry_off g i n b k hb l h a)

  mark_stays : (n : ℕ) → n < g.nodes → (view g t').mark n ≡ (view g t).mark n
  mark_stays n hn =
      mark_read g t n hn (sym (mark_read g t' n hn refl) ∙ ap (λ u. get_or u (mark_at n) 0) s.table ∙ after_off g (mark_at n) left t (mark_off g i n hn a))

  copy_stays : (lost : Option ℕ) (b : ℕ) → b < g.items → i ≤ b → (n : ℕ) → n < g.nodes → copy (survivors lost (view g t')) b n ≡ copy (survivors lost (view g t)) b n
  copy_stays lost b hb l n hn =
      rw (survivor_marks lost (view g t) (view g t') n (mark_stays n hn), survivor_entry lost (view g t'), survivor_entry lost (view g t), entry_stays n b hn hb l) refl

-- ---- an item's turn

pub turn_skipped :
    (lost : Option ℕ) {b tally : ℕ} {a : Stores} {s : List ℕ} → Passable lost a s b tally → 1 < holders_by tally
    → Turned lost (partner_stores a.g b) a a s s
turn_skipped lost {b} p h = item_other lost b (λ z. (p.stands z).skip h) p.ready.counts

pub turn_ready :
    (lost : Option ℕ) (i : ℕ) {tally : ℕ} {a a₁ : Stores} {s s₁ tallies : List ℕ} → Ready lost a s → i < a.g.items
    → Settles lost a tallies → tally ≡ get_or tallies i 0
    → Turned lost (staged (partner_stores a.g) i) a a₁ s s₁ → Passable lost a₁ s₁ i tally
unfolding holder_of
turn_ready lost i {tally} {a} {a₁} k h u e r = record {
  ready = items_ready lost i r k;
  there = rw r.made.same_geometry h;
  stands = λ z.
      let o = u.settled (λ q. z (omega (arith, r.made.stored.rest))) i h in
      rw r.made.same_geometry record {
        skip = λ p q. o.skip (rw e at p) (sym stays ∙ q);
        single = λ p. stays ∙ o.single (rw e at p);
        holder = λ p. ap holder_by e ∙ o.holder (rw e at p) ∙ sym holder_stays;
      };
}
  where
    each : (n : ℕ) → n < a.g.nodes → copy (survivors lost (view a.g a₁.table.now)) i n ≡ copy (survivors lost (shown a)) i n
    each =
        copy_stays a.g i (before_staged a.g i i (survivors lost (shown a)) (omega arith) (omega arith)) r.made.stored lost i h
        (omega arith)

    stays : count (copy (survivors lost (view a.g a₁.table.now)) i) a.g.nodes ≡ count (copy (survivors lost (shown a)) i) a.g.nodes
    stays = count_ext a.g.nodes _ _ each

    holder_stays : holder_of a.g (survivors lost (view a.g a₁.table.now)) i ≡ holder_of a.g (survivors lost (shown a)) i
    holder_stays = first_ext a.g.nodes _ _ each
