-- The second Precommit of an item finds a frame: what no home can drop, counted, and that not all nodes are full of it.
use Prim.Native.Nat.{ℕ, ◌+◌, ◌-◌, ◌*◌, ◌≤◌, ◌<◌}
use mathlib.Core.Path.{◌≡◌, refl, sym, ap, ◌∙◌}
use mathlib.Core.Logic.{◌≢◌}
use mathlib.Core.Bool.{Bool, true, false, not, cond, ◌&&◌, ◌||◌}
use native.Mathlib.Omega.{arith}
use native.Mathlib.Decide.{ℕ_discrete}
use native.Mathlib.Nat.{mul-le-mul}
use lib.Dec.{eqb, ltb}
use borrow.Author.Tests.{eqb-true, eq-eqb, ne_eqb, ltb-false, lt-ltb, le-leb, not-true}
use Rattle.counting.proofs.Laws.Tests.{by_cases, both, either, neither, no_both}
use Rattle.counting.proofs.Laws.Tests.{and_both, and_no_right, or_left, or_right}
use Rattle.counting.specs.Counting.{one, sum, count}
use Rattle.counting.proofs.Laws.Counting.{Only, only_counts, sum_le, sum_plus, sum_count}
use Rattle.counting.proofs.Laws.Counting.{count_mono, count_not, count_zero}
use Rattle.counting.proofs.Laws.First.{first_least}
use Rattle.counting.proofs.Laws.Crowded.{not_all_full}
use Rattle.table.specs.declared.geometry.Geometry.{Geometry}
use Rattle.table.specs.Words.{state_form, invalid, shared, owner, modified}
use Rattle.table.specs.Words.{shared_ck1, shared_ck2, precommit1, precommit2, inv_ck1, inv_ck2}
use Rattle.table.specs.View.{View, live, current, kept}
use Rattle.entries.specs.Frames.{set_of, set_frames, frames_in, frames_at, used, frame_free}
use Rattle.entries.specs.code.Row.{ample_for}
use Rattle.entries.proofs.Laws.Frames.{half_free, frames_within, ample_free}
use Rattle.entries.specs.Tally.{has, has_kept, copy, kept_copy}
use Rattle.entries.specs.Dirty.{owns}
use Rattle.entries.proofs.Laws.Kinds.{Saved, Owned, modified_at, owner_at, Dirty, Kind, clean, dirty, created}
use Rattle.entries.proofs.Laws.Kinds.{copy_live, no_copy_lem}
use Rattle.entries.proofs.Laws.Codes.{coded, two_codes}
use Rattle.entries.proofs.Laws.SoundFacts.{SoundTable}
use Rattle.homes.specs.declared.places.Place.TheVariants.{Current}
use Rattle.homes.specs.Home.{shared_at, shared_item, has_room, place_fits, fits}
use Rattle.homes.proofs.Laws.Kept.{test_live}
use Rattle.checkpoints.specs.Create.{has_sharer}
use Rattle.checkpoints.specs.CreateRoom.{dead_nodes}
use Rattle.checkpoints.proofs.Laws.CommitCount.{keeps_two}
use Rattle.checkpoints.proofs.Laws.CreateVia.{owns_not}
use Rattle.checkpoints.proofs.Laws.CreateTells.{none_shares}
use Rattle.checkpoints.proofs.Laws.CreateSound.{kind_dirty, others_shared}

-- ---- the copies of item b on node n that no home drops

-- a live node has a current copy that is not Shared
abbrev pinned : View → ℕ → ℕ → Bool
pinned v b n = live v n && (not (eqb (current (v.entry n b)) invalid) && not (eqb (current (v.entry n b)) shared))

abbrev pinned_copies : View → ℕ → ℕ → ℕ
pinned_copies v n b = one (pinned v b n) + one (kept_copy v b n)

pinned_copy : (v : View) (b n : ℕ) → pinned v b n ≡ true
    → (copy v b n ≡ true) × (eqb (current (v.entry n b)) shared ≡ false)
pinned_copy v b n h =
    let l = both (live v n) h in
    let c = both (not (eqb (current (v.entry n b)) invalid)) l.1 in
    (and_both l.0 c.0, not-true _ c.1)

-- ---- of one item, over the nodes below N

-- one of two codes, or Shared
abbrev pair_code : ℕ → ℕ → ℕ → Bool
pair_code i j c = eqb c i || (eqb c j || eqb c shared)

module _ (v : View) (N b : ℕ) (forms : (n : ℕ) → n < N → live v n ≡ true → state_form (v.entry n b).state ≡ true) where
  abbrev all_pinned : ℕ
  all_pinned = sum (λ n. pinned_copies v n b) N

  all_pinned_lem : all_pinned ≡ count (pinned v b) N + count (kept_copy v b) N
  all_pinned_lem =
      sum_plus (λ n. one (pinned v b n)) (λ n. one (kept_copy v b n)) N
      ∙ (let p = sum_count (pinned v b) N in let q = sum_count (kept_copy v b) N in omega arith)

  -- one of each of two codes, and Shared copies
  two_pinned :
      (i j m k : ℕ) → i ≢ j → Only N (has v b i) m → Only N (has v b j) k
      → ((n : ℕ) → n < N → copy v b n ≡ true → pair_code i j (current (v.entry n b)) ≡ true)
      → count (pinned v b) N ≤ 2
  two_pinned i j m k d p q others =
      omega (
        arith,
        only_counts N (has v b i) m p,
        only_counts N (has v b j) k q,
        two_codes v N b i j d,
        count_mono N (pinned v b) (coded v N b (λ c. eqb c i || eqb c j)) each,
      )
    where
      each : (n : ℕ) → n < N → pinned v b n ≡ true → coded v N b (λ c. eqb c i || eqb c j) n ≡ true
      each n l t =
          let c = current (v.entry n b) in
          let a = pinned_copy v b n t in
          and_both (copy_live v b n a.0)
          (either (eqb c i) (others n l a.0) (or_left (eqb c j))
          (λ o. or_right (eqb c i) (either (eqb c j) o (λ e. e) (λ e. absurd (no_both e a.1)))))

  -- the owner's alone
  one_pinned : (m : ℕ) → Owned v N b m → count (pinned v b) N ≤ 1
  one_pinned m (modified_at o alone) =
      omega (
        arith,
        only_counts N (has v b modified) m o,
        count_mono N (pinned v b) (has v b modified)
            (λ n l t. ap (has v b modified) (alone n l (pinned_copy v b n t).0) ∙ o.holds),
      )
  one_pinned m (owner_at o codes) =
      omega (arith, only_counts N (has v b owner) m o, count_mono N (pinned v b) (has v b owner) each)
    where
      each : (n : ℕ) → n < N → pinned v b n ≡ true → has v b owner n ≡ true
      each n l t =
          let a = pinned_copy v b n t in
          either (eqb (current (v.entry n b)) owner) (codes n l a.0) (and_both (copy_live v b n a.0))
          (λ e. absurd (no_both e a.1))

  saved_two : Saved v N b → count (kept_copy v b) N ≡ 2
  saved_two k =
      omega (
        arith,
        keeps_two v N b forms,
        only_counts N (has_kept v b inv_ck1) k.one k.first,
        only_counts N (has_kept v b inv_ck2) k.two k.second,
      )

  dirty_three : Dirty v N b → all_pinned ≤ 3
  dirty_three k = omega (arith, all_pinned_lem, one_pinned k.node k.owned, saved_two k.saved)

  -- "space for four copies of an item"
  at_most_four : (phase : ℕ) → Kind phase v N b → all_pinned ≤ 4
  at_most_four phase (clean k) =
      omega (
        arith,
        all_pinned_lem,
        two_pinned shared_ck1 shared_ck2 k.one k.two (λ z. omega arith) k.first k.second k.others,
        count_zero N (kept_copy v b) k.nothing,
      )
  at_most_four phase (dirty k) = omega (arith, dirty_three k)
  at_most_four phase (created e k) =
      omega (
        arith,
        all_pinned_lem,
        two_pinned precommit1 precommit2 k.one k.two (λ z. omega arith) k.first k.second k.others,
        saved_two k.saved,
      )

-- ---- of a node without a Shared copy: it uses a frame for each, and no other

module _
    (g : Geometry) (v : View) (n : ℕ) (alive : live v n ≡ true) (none : ltb (shared_item g v n) g.items ≡ false) where
  not_shared : (c : ℕ) → c < g.items → eqb (current (v.entry n c)) shared ≡ false
  unfolding shared_item shared_at
  not_shared c l =
      first_least (shared_at v n) g.items c (omega (arith, l, ltb-false (shared_item g v n) g.items none))

  entry_pinned : (c : ℕ) → c < g.items → frames_in (v.entry n c).state ≡ pinned_copies v n c
  unfolding frames_in
  entry_pinned c l = rw (alive, not_shared c l) (go (eqb (current (v.entry n c)) 0) (eqb (kept (v.entry n c)) 0))
    where
      go : (p q : Bool) → cond p 0 1 + cond q 0 1 ≡ one (not p && true) + one (not q)
      go true true = refl
      go true false = refl
      go false true = refl
      go false false = refl

  used_pinned : (s : ℕ) → used g v n s ≤ sum (pinned_copies v n) g.items
  unfolding used
  used_pinned s =
      sum_le g.items (frames_at g v n s) (pinned_copies v n)
      (λ c l. omega (arith, frames_within g v n s c, entry_pinned c l))

-- ---- a home for the second Precommit of item b, which node o owns and no node shares

module _ (g : Geometry) (v : View) (phase number b o : ℕ) (good : SoundTable g v phase number) (item : b < g.items)
    (there : o < g.nodes) (alive : live v o ≡ true) (owned : owns (current (v.entry o b)) ≡ true)
    (unshared : has_sharer g v b ≡ false) where
  forms_of : (c : ℕ) → c < g.items → (n : ℕ) → n < g.nodes → live v n ≡ true → state_form (v.entry n c).state ≡ true
  forms_of c h n l t = good.forms n c l h t

  was_dirty : Dirty v g.nodes b
  was_dirty = kind_dirty v g.nodes b o there alive owned phase (good.items b item)

  -- its current place is Invalid everywhere else
  empty : (n : ℕ) → n < g.nodes → n ≢ o → live v n ≡ true → current (v.entry n b) ≡ invalid
  empty n l d t = no_copy_lem v b n t (by_cases (copy v b n)
      (λ c. absurd (no_both
      (eq-eqb _ shared (others_shared v g.nodes b o there alive owned was_dirty.node was_dirty.owned n l c d))
      (none_shares g v b unshared n (test_live g v n l t))))
      (λ c. c))

  -- a node that does not fit has no frame and nothing to drop
  no_room : (n : ℕ) → n < g.nodes → n ≢ o → live v n ≡ true → fits g v Current b n ≡ false → has_room g v n b ≡ false
  unfolding fits place_fits
  no_room n l d t e =
      let f = neither (eqb (current (v.entry n b)) shared) _ (and_no_right (live v n) t e) in
      and_no_right (eqb (current (v.entry n b)) invalid) (eq-eqb _ invalid (empty n l d t)) f.1

  -- a node that keeps one of the two saved copies
  keeper : (code n : ℕ) → has_kept v b code n ≡ true → (live v n ≡ true) × (kept (v.entry n b) ≡ code)
  keeper code n h = let k = both (live v n) h in (k.0, eqb-true _ code k.1)

  module _ (none : (n : ℕ) → n < g.nodes → n ≢ o → fits g v Current b n ≡ false) where
    -- with a frame for every place a node with an Invalid one has a frame, so every other live node fits,
    module _ (ample : 2 * g.items ≤ g.frames) where
      no_other_lem : (n : ℕ) → n < g.nodes → n ≢ o → live v n ≡ true → ⊥
      unfolding has_room ample_for half_free
      no_other_lem n l d t =
          let free : frame_free g v n b ≡ true =
          ample_free g v n b (and_both (lt-ltb b g.items item) (le-leb (2 * g.items) (set_frames g) ample))
          (or_left _ (eq-eqb _ 0 (empty n l d t))) in
          no_both (or_left _ free) (no_room n l d t (none n l d))

      -- and there is one, since two keep the saved copies
      pub not_ample : ⊥
      not_ample =
          let k = was_dirty.saved in
          let p = keeper inv_ck1 k.one k.first.holds in
          let q = keeper inv_ck2 k.two k.second.holds in
          elim (ℕ_discrete k.one o) [
            | no d ↦ no_other_lem k.one k.first.within d p.0
            | yes e ↦ no_other_lem k.two k.second.within
                (λ z. omega (arith, p.1, q.1, ap (λ n. kept (v.entry n b)) (e ∙ sym z))) q.0
          ]

    -- else every other live node is full of pinned copies
    full : (n : ℕ) → n < g.nodes → n ≢ o → live v n ≡ true → g.frames ≤ sum (pinned_copies v n) g.items
    unfolding has_room
    full n l d t =
        let f = neither (frame_free g v n b) _ (no_room n l d t (none n l d)) in
        omega (arith, ltb-false (used g v n (set_of g b)) (set_frames g) f.0, used_pinned g v n t f.1 (set_of g b))

    own : 1 ≤ pinned_copies v o b
    own =
        let q = owns_not (current (v.entry o b)) owned in
        let p : pinned v b o ≡ true =
        and_both alive (and_both (ap not (ne_eqb _ _ q.1)) (ap not (ne_eqb _ _ q.0))) in
        omega (arith, ap one p)

    pub four_each : dead_nodes g v ≤ 1 → 4 * g.items - 1 ≤ (g.nodes - 2) * g.frames → ⊥
    four_each dead room =
        let most : g.nodes ≤ count (live v) g.nodes + 1 = omega (arith, dead, count_not g.nodes (live v)) in
        let more : (g.nodes - 2) * g.frames ≤ (count (live v) g.nodes - 1) * g.frames =
        mul-le-mul (omega arith) (omega arith) in
        not_all_full g.nodes g.items g.frames 4 (live v) (pinned_copies v) o b there alive item own
        (λ c h. at_most_four v g.nodes c (forms_of c h) phase (good.items c h))
        (omega (arith, dirty_three v g.nodes b (forms_of b item) was_dirty))
        (omega (arith, room, more)) full
