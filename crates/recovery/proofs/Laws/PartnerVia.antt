-- The partners on a view: before each store every entry of a survivor is plain, and after them all each item is a pair.
use Prim.Native.Nat.{ℕ, suc, ◌+◌, ◌-◌, ◌≤◌, ◌<◌}
use mathlib.Core.Path.{◌≡◌, refl, sym, ap, ap₂, subst, ◌∙◌}
use mathlib.Core.Logic.{◌⊎◌, inl, inr, ◌≢◌}
use mathlib.Core.Bool.{false, not, ◌&&◌}
use mathlib.Core.List.{map}
use native.Mathlib.Omega.{arith}
use native.Mathlib.Decide.{ℕ_discrete}
use lib.Dec.{eqb}
use borrow.Author.Tests.{ne_eqb}
use Rattle.counting.proofs.Laws.Counting.{Only, only_same, only_counts}
use Rattle.counting.proofs.Laws.First.{first_only}
use Rattle.table.specs.declared.geometry.Geometry.{Geometry}
use Rattle.table.specs.Words.{invalid, shared_ck1, shared_ck2, state_word, shared_ck}
use Rattle.table.proofs.Laws.Words.{current_state, kept_state}
use Rattle.table.proofs.Laws.Forms.{alone_form}
use Rattle.table.specs.Changes.{checkpoint_of}
use Rattle.table.specs.Stores.{entry_store}
use Rattle.table.specs.View.{Entry, View, live, current}
use Rattle.table.proofs.Laws.Via.{Via, done, via_weaken, via_loosen}
use Rattle.table.proofs.Laws.Pass.{Steps, last, next, Changed}
use Rattle.entries.specs.Frames.{set_of, set_frames, frames_in, used}
use Rattle.entries.proofs.Laws.Frames.{frames_state}
use Rattle.entries.specs.Tally.{has, copy}
use Rattle.entries.proofs.Laws.Kinds.{copy_code, copy_live, has_at_lem, has_code, has_copy_lem}
use Rattle.entries.proofs.Laws.Update.{Elsewhere, only_gains, only_keeps}
use Rattle.homes.proofs.Laws.Kept.{Live, live_test, test_live}
use Rattle.homes.proofs.Laws.OneEntry.{OneAt, one_via, one_held}
use Rattle.survivors.specs.Survivors.{too_few}
use Rattle.recovery.specs.Numbering.{single, holder_of, partner_of, partner_changes, partner_from, partner_stores, partners_stores}
use Rattle.recovery.proofs.Laws.Ready.{PlainEntry, HasOne, Plain, Paired, Numbered, pair, alone}
use Rattle.recovery.proofs.Laws.PartnerFound.{coded, pair_copies, partner_found}
use Rattle.recovery.proofs.Laws.StagedVia.{via_staged}

-- ---- an item of which no entry has changed

module _ (g : Geometry) (u x : View) (b : ℕ) (marks : x.mark ≡ u.mark) (same : (n : ℕ) → x.entry n b ≡ u.entry n b) where
  same_live : (n : ℕ) → live u n ≡ live x n
  same_live n = ap (λ (f : ℕ → ℕ). not (eqb (f n) 0)) (sym marks)

  same_has : (code n : ℕ) → has u b code n ≡ has x b code n
  same_has code n = ap₂ ◌&&◌ (same_live n) (ap (λ e. eqb (current e) code) (sym (same n)))

  same_copy : (n : ℕ) → copy u b n ≡ copy x b n
  same_copy n = ap₂ ◌&&◌ (same_live n) (ap (λ e. not (eqb (current e) 0)) (sym (same n)))

  pub pair_same : Paired g u b → Paired g x b
  pair_same p = record {
    one = p.one;
    two = p.two;
    first = only_same g.nodes (has u b shared_ck1) (has x b shared_ck1) p.one (λ k _. same_has shared_ck1 k) p.first;
    second = only_same g.nodes (has u b shared_ck2) (has x b shared_ck2) p.two (λ k _. same_has shared_ck2 k) p.second;
  }

  pub numbered_same : Numbered g u b → Numbered g x b
  numbered_same (pair p) = pair (pair_same p)
  numbered_same (alone n o) = alone n (only_same g.nodes (copy u b) (copy x b) n (λ k _. same_copy k) o)

-- ---- one entry takes a copy

-- plain, with at most one frame more than e₀
record Taking (e₀ : Entry) (x : ℕ) (e : Entry) : Type 0 where
  plain : PlainEntry x e
  frames : frames_in e.state ≤ frames_in e₀.state + 1

-- what the code of a Shared-CK is
record SharedCode (code : ℕ) : Type 0 where
  some : code ≢ 0
  low : code < 8
  number : checkpoint_of code ≢ 0

shared_code : (code : ℕ) → (code ≡ shared_ck1) ⊎ (code ≡ shared_ck2) → SharedCode code
shared_code code (inl c) = record { some = λ z. omega arith; low = omega arith; number = rw c (λ z. omega arith) }
shared_code code (inr c) = record { some = λ z. omega arith; low = omega arith; number = rw c (λ z. omega arith) }

-- a Shared-CK with this value and nothing kept is plain
shared_plain : (code x y : ℕ) → SharedCode code → PlainEntry x (record { state = state_word code 0; value = x; kept_value = y })
shared_plain code x y s =
    let l = s.low in
    record {
      form = alone_form code l;
      code = λ _. rw (current_state code 0 (omega arith) (omega arith)) s.number;
      nothing = kept_state code 0 (omega arith) (omega arith);
      value = λ _. refl;
    }

-- the Shared-CK of the number that a copy does not have
abbrev absent_code : Entry → ℕ
absent_code e = shared_ck (3 - checkpoint_of (current e))

-- "(value, state)" on an Invalid place
takes_steps :
    (e from : Entry) → PlainEntry from.value e → current e ≡ invalid → (absent_code from ≡ shared_ck1) ⊎ (absent_code from ≡ shared_ck2)
    → Steps (Taking e from.value) (λ e'. current e' ≡ absent_code from) e (partner_changes from)
unfolding partner_changes
takes_steps e from p z c =
    let code : ℕ = absent_code from in
    let s = shared_code code c in
    let l = s.low in
    next (record { plain = p; frames = omega arith })
    (next
    (record {
      plain = record { form = p.form; code = p.code; nothing = p.nothing; value = λ d. absurd (d z) };
      frames = omega arith;
    })
    (last
    (record {
      plain = shared_plain code from.value e.kept_value s;
      frames = rw (frames_state code 0 (omega arith) (omega arith), ne_eqb code 0 s.some) (omega arith);
    })
    (current_state code 0 (omega arith) (omega arith))))

module _ (g : Geometry) (saved : ℕ → ℕ) (w u : View) (plain : Plain g saved w u) (b h : ℕ) (hb : b < g.items) (home : Live g u h)
    (empty : current (u.entry h b) ≡ invalid) (free : used g u h (set_of g b) + 1 ≤ set_frames g) where
  taking_plain : (x : View) → OneAt (Taking (u.entry h b) (saved b)) h b u x → Plain g saved w x
  taking_plain x o = record {
    marks = o.marks ∙ plain.marks;
    entries = λ n c l i. elim (ℕ_discrete n h) [
      | no d ↦ rw (o.rest n c (λ e _. d e)) (plain.entries n c (was n l) i)
      | yes e ↦ elim (ℕ_discrete c b) [
        | no d ↦ rw (o.rest n c (λ _ q. d q)) (plain.entries n c (was n l) i)
        | yes q ↦ rw (e, q) o.here.plain
      ]
    ];
    frames = λ n s l i.
        (one_held g u u x
        (record { marks = refl; forms = λ k c m j. (plain.entries k c m j).form; frames = plain.frames })
        h b 1 home hb free o.marks o.here.plain.form o.here.frames o.rest).frames n s (was n l) i;
    there = λ c i. let r = plain.there c i in (r.0, still c r.0 r.1);
  }
    where
      was : (n : ℕ) → Live g x n → Live g u n
      was n l = record { there = l.there; marked = λ z. l.marked (ap (λ (f : ℕ → ℕ). f n) o.marks ∙ z) }

      -- no copy was where the new one comes
      apart : (c n : ℕ) → HasOne g u c n → n ≡ h → c ≡ b → ⊥
      apart c n r e q = r.copied (ap₂ (λ i j. current (u.entry i j)) e q ∙ empty)

      still : (c n : ℕ) → HasOne g u c n → HasOne g x c n
      still c n r = record {
        alive = record { there = r.alive.there; marked = λ z. r.alive.marked (sym (ap (λ (f : ℕ → ℕ). f n) o.marks) ∙ z) };
        copied = λ z. r.copied (sym (ap current (o.rest n c (apart c n r))) ∙ z);
      }

  taken_via :
      (from : Entry) → from.value ≡ saved b → (absent_code from ≡ shared_ck1) ⊎ (absent_code from ≡ shared_ck2)
      → Via g (Plain g saved w) (Changed (λ e. current e ≡ absent_code from) h b u) u (map (entry_store h b) (partner_changes from))
  taken_via from x c =
      via_loosen
      (one_via g (Taking (u.entry h b) (saved b)) (λ e. current e ≡ absent_code from) h b home.there hb u
      (subst (λ y. Steps (Taking (u.entry h b) y) (λ e. current e ≡ absent_code from) (u.entry h b) (partner_changes from)) x
      (takes_steps (u.entry h b) from (subst (λ y. PlainEntry y (u.entry h b)) (sym x) (plain.entries h b home hb)) empty c)))
      taking_plain

  -- ---- the copy on node a was alone, and has its partner on node h

  module _ (x : View) (marks : x.mark ≡ u.mark) (a : ℕ) (o : Only g.nodes (copy u b) a)
      (rest : (n c : ℕ) → (n ≡ h → c ≡ b → ⊥) → x.entry n c ≡ u.entry n c) where
    elsewhere : Elsewhere u x h b
    elsewhere = record { mark = λ m. ap (λ (f : ℕ → ℕ). f m) marks; entry = λ m d. rest m b (λ e _. d e) }

    stays : (i j : ℕ) → i ≢ 0 → i ≢ j → current (u.entry a b) ≡ i → current (x.entry h b) ≡ j → Only g.nodes (has x b i) a
    stays i j d e p q =
        only_keeps u x g.nodes h b elsewhere i a (λ z. d (sym z ∙ empty)) (λ z. e (sym z ∙ q))
        (record {
          within = o.within;
          holds = has_at_lem u b a i (copy_live u b a o.holds) p;
          alone = λ k l t. o.alone k l (has_copy_lem u b k i d t);
        })

    comes : (i j : ℕ) → j ≢ 0 → i ≢ j → current (u.entry a b) ≡ i → current (x.entry h b) ≡ j → Only g.nodes (has x b j) h
    comes i j d e p q =
        only_gains u x g.nodes h b elsewhere j home.there (live_test g u h home) q
        (λ m l t. absurd (e (sym p ∙ ap (λ k. current (u.entry k b)) (sym (o.alone m l (has_copy_lem u b m j d t))) ∙ has_code u b m j t)))

    paired : (current (u.entry a b) ≡ shared_ck1) ⊎ (current (u.entry a b) ≡ shared_ck2)
        → current (x.entry h b) ≡ shared_ck (3 - checkpoint_of (current (u.entry a b))) → Paired g x b
    paired (inl c) q = record {
      one = a;
      two = h;
      first = stays 4 5 (λ z. omega arith) (λ z. omega arith) c (q ∙ rw c refl);
      second = comes 4 5 (λ z. omega arith) (λ z. omega arith) c (q ∙ rw c refl);
    }
    paired (inr c) q = record {
      one = h;
      two = a;
      first = comes 5 4 (λ z. omega arith) (λ z. omega arith) c (q ∙ rw c refl);
      second = stays 5 4 (λ z. omega arith) (λ z. omega arith) c (q ∙ rw c refl);
    }

-- ---- item by item

-- before item i: the items below it are pairs
record Upto (g : Geometry) (i : ℕ) (u : View) : Type 0 where
  pairs : (b : ℕ) → b < g.items → b < i → Paired g u b
  numbered : (b : ℕ) → b < g.items → Numbered g u b

absent : (c : ℕ) → (c ≡ shared_ck1) ⊎ (c ≡ shared_ck2) → (shared_ck (3 - checkpoint_of c) ≡ shared_ck1) ⊎ (shared_ck (3 - checkpoint_of c) ≡ shared_ck2)
absent c (inl e) = inr (rw e refl)
absent c (inr e) = inl (rw e refl)

module _ (g : Geometry) (saved : ℕ → ℕ) (w : View) (enough : too_few g w ≡ false) where
  module _ (b : ℕ) (hb : b < g.items) (u : View) (plain : Plain g saved w u) (upto : Upto g b u) where
    -- one more item is a pair
    one_more : (x : View) → Paired g x b → ((c : ℕ) → c < g.items → c ≢ b → (Paired g u c → Paired g x c) × (Numbered g u c → Numbered g x c)) → Upto g (suc b) x
    one_more x p others = record {
      pairs = λ c i l. elim (ℕ_discrete c b) [ yes e ↦ rw e p | no d ↦ (others c i d).0 (upto.pairs c i (omega arith)) ];
      numbered = λ c i. elim (ℕ_discrete c b) [ yes e ↦ rw e (pair p) | no d ↦ (others c i d).1 (upto.numbered c i) ];
    }

    already : Paired g u b → Via g (Plain g saved w) (Upto g (suc b)) u (partner_stores g b u)
    unfolding partner_stores single
    already p =
        rw (pair_copies g saved w u plain b hb p)
        (done plain (one_more u p (λ c i d. ((λ q. q), (λ q. q)))))

    gets : (a : ℕ) → Only g.nodes (copy u b) a → Via g (Plain g saved w) (Upto g (suc b)) u (partner_stores g b u)
    unfolding partner_stores single holder_of partner_from
    gets a o =
        let f = partner_found g saved w u plain enough upto.numbered b a hb o in
        let h = partner_of g u b a in
        let c = coded g saved w u plain b a hb o.within o.holds in
        let x = (plain.entries a b (test_live g u a o.within (copy_live u b a o.holds)) hb).value (copy_code u b a o.holds) in
        rw (only_counts g.nodes (copy u b) a o, first_only g.nodes (copy u b) a o, ne_eqb h a f.found.other)
        (via_weaken
        (taken_via g saved w u plain b h hb f.node f.empty f.free (u.entry a b) x (absent (current (u.entry a b)) c))
        (λ v p r.
        let m = p.marks ∙ sym plain.marks in
        one_more v
        (paired g saved w u plain b h hb f.node f.empty f.free v m a o r.rest c r.good)
        (λ k i d. (
          pair_same g u v k m (λ n. r.rest n k (λ _ e. d e)),
          numbered_same g u v k m (λ n. r.rest n k (λ _ e. d e)),
        ))))

    turn : Via g (Plain g saved w) (Upto g (suc b)) u (partner_stores g b u)
    turn = of (upto.numbered b hb)
      where
        of : Numbered g u b → Via g (Plain g saved w) (Upto g (suc b)) u (partner_stores g b u)
        of (pair p) = already p
        of (alone a o) = gets a o

-- THE LAW
pub partners_via :
    (g : Geometry) (saved : ℕ → ℕ) (w u : View) → too_few g w ≡ false → Plain g saved w u → ((b : ℕ) → b < g.items → Numbered g u b)
    → Via g (Plain g saved w) (λ x. (b : ℕ) → b < g.items → Paired g x b) u (partners_stores g u)
unfolding partners_stores
partners_via g saved w u enough plain items =
    via_weaken
    (via_staged (Upto g) g.items (partner_stores g) (turn g saved w enough) plain
    (record { pairs = λ b _ l. absurd (omega arith); numbered = items }))
    (λ x _ r b l. r.pairs b l l)
