-- One item under the numbering: what its entries become leaves a holder of each number, or a single copy.
use Prim.Native.Nat.{ℕ, zero, suc, ◌+◌, ◌-◌, ◌≤◌, ◌<◌}
use mathlib.Core.Path.{◌≡◌, sym, ap, ◌∙◌}
use mathlib.Core.Logic.{◌≢◌}
use mathlib.Core.Bool.{Bool, true, not}
use native.Mathlib.Omega.{arith}
use native.Mathlib.Decide.{ℕ_discrete, dec_lt}
use lib.Dec.{eqb}
use borrow.Author.Tests.{ne_eqb}
use Rattle.counting.proofs.Laws.Tests.{by_cases, no_both, other_holds}
use Rattle.counting.specs.Counting.{one, count}
use Rattle.counting.proofs.Laws.Counting.{count_some, none_counted, Only, only_counts}
use Rattle.table.specs.Words.{shared_ck}
use Rattle.table.specs.declared.geometry.Geometry.{Geometry}
use Rattle.table.specs.Changes.{checkpoint_of}
use Rattle.table.specs.View.{Entry, View, live, current}
use Rattle.entries.specs.Tally.{has, copy}
use Rattle.entries.proofs.Laws.Kinds.{has_live, has_code, has_at_lem, has_copy_lem, copy_live, copy_code}
use Rattle.recovery.specs.Numbering.{holders, number_after, number_at, holder_of}
use Rattle.counting.proofs.Laws.First.{first_only}
use Rattle.recovery.proofs.Laws.Tallies.{holders_of, Holder}
use Rattle.recovery.proofs.Laws.Ready.{Paired, Numbered, pair, alone}
use Rattle.counting.proofs.Laws.Ranks.{Ranked, count_above, ranked}
use Rattle.recovery.proofs.Laws.NumberEntry.{Coded, code_number, number_code, After, stays, turns, goes, number_after_lem, after_lowest, after_second}

-- what the numbering leaves of a live node's entry
pub record NumberEnd (g : Geometry) (u : View) (n b : ℕ) (e : Entry) : Type 0 where
  pub none : live u n ≡ true → number_at u n b ≡ 0 → current e ≡ 0
  pub some :
      live u n ≡ true → number_at u n b ≢ 0
      → current e ≡ number_after (number_at u n b) (holders u b (number_at u n b) n) (holders u b (3 - number_at u n b) g.nodes)

-- u at the start, x at the end
-- a holder of either number is a copy
has_either : (w : View) (b n : ℕ) → one (has w b 4 n) + one (has w b 5 n) ≤ one (copy w b n)
has_either w b n =
    by_cases (live w n)
    (λ e. elim (ℕ_discrete (current (w.entry n b)) 4) [
      | yes c ↦ rw (e, c) (omega arith)
      | no c ↦ elim (ℕ_discrete (current (w.entry n b)) 5) [
        | yes d ↦ rw (e, d) (omega arith)
        | no d ↦ rw (e, ne_eqb _ 4 c, ne_eqb _ 5 d) (omega arith)
      ]
    ])
    (λ e. rw e (omega arith))

pair_copies : (w : View) (b n : ℕ) → count (has w b 4) n + count (has w b 5) n ≤ count (copy w b) n
unfolding count
pair_copies w b zero = omega arith
pair_copies w b (suc n) = omega (arith, pair_copies w b n, has_either w b n)

-- what numbering makes of item b's holders in u: of two or more not one copy, of one or none one, which is the holder's
pub record Told (g : Geometry) (u x : View) (b : ℕ) : Type 0 where
  pub some : 1 ≤ holders_of g u b
  pub many : 1 < holders_of g u b → count (copy x b) g.nodes ≢ 1
  pub single : holders_of g u b ≤ 1 → count (copy x b) g.nodes ≡ 1
  pub holder : holders_of g u b ≤ 1 → {m : ℕ} → Holder g u b m → m ≡ holder_of g x b

module _ (g : Geometry) (u x : View) (b : ℕ) (same : x.mark ≡ u.mark) (ends : (n : ℕ) → n < g.nodes → NumberEnd g u n b (x.entry n b)) where
  same_live : (n : ℕ) → live x n ≡ live u n
  same_live n = ap (λ f. not (eqb (f n) 0)) same

  -- node n held number i
  abbrev held : ℕ → ℕ → Bool
  held i = has u b (shared_ck i)

  held_end :
      (i j : ℕ) → 1 ≤ i → 1 ≤ j → i + j ≡ 3 → (n : ℕ) → n < g.nodes → held i n ≡ true
      → current (x.entry n b) ≡ number_after i (count (held i) n) (count (held j) g.nodes)
  unfolding holders
  held_end i j li lj three n l h =
      let q : number_at u n b ≡ i = ap checkpoint_of (has_code u b n (shared_ck i) h) ∙ code_number i li (omega arith) in
      let d : number_at u n b ≢ 0 = λ z. omega (arith, q, z) in
      let r : 3 - i ≡ j = omega arith in
      (ends n l).some (has_live u b n (shared_ck i) h) d
      ∙ ap (λ k. number_after k (count (held k) n) (count (held (3 - k)) g.nodes)) q
      ∙ ap (λ k. number_after i (count (held i) n) (count (held k) g.nodes)) r

  -- a copy at the end held a number
  was_coded : (n : ℕ) → n < g.nodes → copy x b n ≡ true → Coded (current (u.entry n b))
  was_coded n l h =
      number_code (current (u.entry n b))
      (λ z. copy_code x b n h ((ends n l).none (sym (same_live n) ∙ copy_live x b n h) z))

  was_held : (n : ℕ) → n < g.nodes → copy x b n ≡ true → (i : ℕ) → number_at u n b ≡ i → held i n ≡ true
  was_held n l h i e =
      has_at_lem u b n (shared_ck i) (sym (same_live n) ∙ copy_live x b n h) ((was_coded n l h).code ∙ ap shared_ck e)

  -- number i, and the other number j
  module _ (i j : ℕ) (li : 1 ≤ i) (lj : 1 ≤ j) (three : i + j ≡ 3) where
    -- how a node comes to hold number i at the end
    data Comes (n : ℕ) : Type 0 where
      lowest : held i n ≡ true → count (held i) n ≡ 0 → Comes n
      second : held j n ≡ true → count (held j) n ≡ 1 → count (held i) g.nodes ≡ 0 → Comes n

    ends_held : (n : ℕ) → n < g.nodes → Comes n → has x b (shared_ck i) n ≡ true
    ends_held n l (lowest h c) =
        has_at_lem x b n (shared_ck i) (same_live n ∙ has_live u b n (shared_ck i) h)
        (held_end i j li lj three n l h ∙ after_lowest i (count (held i) n) (count (held j) g.nodes) c)
    ends_held n l (second h c z) =
        let r : 3 - j ≡ i = omega arith in
        has_at_lem x b n (shared_ck i) (same_live n ∙ has_live u b n (shared_ck j) h)
        (held_end j i lj li (omega arith) n l h ∙ after_second j (count (held j) n) (count (held i) g.nodes) c z ∙ ap shared_ck r)

    comes : (n : ℕ) → n < g.nodes → has x b (shared_ck i) n ≡ true → Comes n
    comes n l h = elim (ℕ_discrete (number_at u n b) i) [
      | yes e ↦ (let k = was_held n l there i e in own k (held_end i j li lj three n l k) (number_after_lem i (count (held i) n) (count (held j) g.nodes)))
      | no e ↦
          (let r : number_at u n b ≡ j = omega (arith, (was_coded n l there).low, (was_coded n l there).high) in
          let k = was_held n l there j r in
          others k (held_end j i lj li (omega arith) n l k) (number_after_lem j (count (held j) n) (count (held i) g.nodes)))
    ]
      where
        there : copy x b n ≡ true
        there = has_copy_lem x b n (shared_ck i) (λ z. omega arith) h

        now : current (x.entry n b) ≡ shared_ck i
        now = has_code x b n (shared_ck i) h

        own : held i n ≡ true → {c : ℕ} → current (x.entry n b) ≡ c → After i (count (held i) n) (count (held j) g.nodes) c → Comes n
        own k e (stays z q) = lowest k z
        own k e (turns z f q) = absurd (let s : shared_ck i ≡ shared_ck (3 - i) = sym now ∙ e ∙ q in omega arith)
        own k e (goes q) = absurd (let s : shared_ck i ≡ 0 = sym now ∙ e ∙ q in omega arith)

        others : held j n ≡ true → {c : ℕ} → current (x.entry n b) ≡ c → After j (count (held j) n) (count (held i) g.nodes) c → Comes n
        others k e (stays z q) = absurd (let s : shared_ck i ≡ shared_ck j = sym now ∙ e ∙ q in omega arith)
        others k e (turns z f q) = second k z f
        others k e (goes q) = absurd (let s : shared_ck i ≡ 0 = sym now ∙ e ∙ q in omega arith)

    -- "each number's lowest holder stays"
    stays_only : 1 ≤ count (held i) g.nodes → (m : ℕ) × Only g.nodes (has x b (shared_ck i)) m
    stays_only c =
        let (m, r) = ranked g.nodes (held i) 0 (omega arith) in
        (m, record { within = r.within; holds = ends_held m r.within (lowest r.holds r.lower); alone = λ k l t. same_node m r k l (comes k l t) })
      where
        same_node : (m : ℕ) → Ranked g.nodes (held i) 0 m → (k : ℕ) → k < g.nodes → Comes k → k ≡ m
        same_node m r k l (lowest h z) = r.alone k l h z
        same_node m r k l (second h z n) = absurd (omega arith)

    -- "if one number is absent, the second lowest holder of the other, where there is one, takes it"
    takes_only : count (held i) g.nodes ≡ 0 → 2 ≤ count (held j) g.nodes → (m : ℕ) × Only g.nodes (has x b (shared_ck i)) m
    takes_only c d =
        let (m, r) = ranked g.nodes (held j) 1 (omega arith) in
        (m, record { within = r.within; holds = ends_held m r.within (second r.holds r.lower c); alone = λ k l t. same_node m r k l (comes k l t) })
      where
        same_node : (m : ℕ) → Ranked g.nodes (held j) 1 m → (k : ℕ) → k < g.nodes → Comes k → k ≡ m
        same_node m r k l (lowest h z) = absurd (no_both h (none_counted g.nodes (held i) c k l))
        same_node m r k l (second h z n) = r.alone k l h z

    -- the only holder of a number stays
    lone_copy : count (held i) g.nodes ≤ 1 → (m : ℕ) → m < g.nodes → held i m ≡ true → copy x b m ≡ true
    lone_copy c m l h = has_copy_lem x b m (shared_ck i) (λ z. omega arith) (ends_held m l (lowest h (omega (arith, count_above g.nodes (held i) m l h))))

    -- a single copy stays alone
    single_only : count (held i) g.nodes ≡ 1 → count (held j) g.nodes ≡ 0 → (m : ℕ) × Only g.nodes (copy x b) m
    single_only c d =
        let (m, r) = ranked g.nodes (held i) 0 (omega arith) in (
          m,
          record {
            within = r.within;
            holds = has_copy_lem x b m (shared_ck i) (λ z. omega arith) (ends_held m r.within (lowest r.holds r.lower));
            alone = λ k l t. same_node m r k l t;
          },
        )
      where
        same_node : (m : ℕ) → Ranked g.nodes (held i) 0 m → (k : ℕ) → k < g.nodes → copy x b k ≡ true → k ≡ m
        same_node m r k l t = elim (ℕ_discrete (number_at u k b) i) [
          | yes e ↦ (let h = was_held k l t i e in r.alone k l h (omega (arith, count_above g.nodes (held i) k l h)))
          | no e ↦
              (let q : number_at u k b ≡ j = omega (arith, (was_coded k l t).low, (was_coded k l t).high) in
              absurd (no_both (was_held k l t j q) (none_counted g.nodes (held j) d k l)))
        ]

  abbrev ones : ℕ
  ones = count (held 1) g.nodes

  abbrev twos : ℕ
  twos = count (held 2) g.nodes

  paired : (m : ℕ) × Only g.nodes (has x b 4) m → (m : ℕ) × Only g.nodes (has x b 5) m → Paired g x b
  paired (p, o) (q, r) = record { one = p; two = q; first = o; second = r }

  -- with two holders or more a pair is left
  pair_left : 2 ≤ ones + twos → Paired g x b
  pair_left h = elim (ℕ_discrete ones 0) [
    | yes e ↦ paired (takes_only 1 2 (omega arith) (omega arith) (omega arith) e (omega arith)) (stays_only 2 1 (omega arith) (omega arith) (omega arith) (omega arith))
    | no e ↦ elim (ℕ_discrete twos 0) [
      | no f ↦ paired (stays_only 1 2 (omega arith) (omega arith) (omega arith) (omega arith)) (stays_only 2 1 (omega arith) (omega arith) (omega arith) (omega arith))
      | yes f ↦ paired (stays_only 1 2 (omega arith) (omega arith) (omega arith) (omega arith)) (takes_only 2 1 (omega arith) (omega arith) (omega arith) f (omega arith))
    ]
  ]

  -- a single one stays alone
  single_left : ones + twos ≡ 1 → (m : ℕ) × Only g.nodes (copy x b) m
  single_left h = elim (ℕ_discrete ones 0) [
    | yes e ↦ single_only 2 1 (omega arith) (omega arith) (omega arith) (omega arith) e
    | no e ↦ single_only 1 2 (omega arith) (omega arith) (omega arith) (omega arith) (omega arith)
  ]

  -- a holder of a number at the start is enough
  module _ (m : ℕ) (l : m < g.nodes) (h : live u m ≡ true) (d : number_at u m b ≢ 0) where
    some : 1 ≤ ones + twos
    some =
        let k = number_code (current (u.entry m b)) d in
        elim (ℕ_discrete (number_at u m b) 1) [
          | yes e ↦ omega (arith, count_some g.nodes (has u b 4) m l (has_at_lem u b m 4 h (k.code ∙ ap shared_ck e)))
          | no e ↦
              (let q : number_at u m b ≡ 2 = omega (arith, k.low, k.high) in
              omega (arith, count_some g.nodes (has u b 5) m l (has_at_lem u b m 5 h (k.code ∙ ap shared_ck q))))
        ]

    pub item_numbered : Numbered g x b
    item_numbered = elim (dec_lt 1 (ones + twos)) [
      | yes f ↦ pair (pair_left f)
      | no f ↦ single (single_left (omega (arith, some)))
    ]
      where
        single : (m : ℕ) × Only g.nodes (copy x b) m → Numbered g x b
        single (p, o) = alone p o

    holder_copy : ones + twos ≤ 1 → {k : ℕ} → Holder g u b k → copy x b k ≡ true
    holder_copy f {k} q = by_cases (has u b 4 k)
        (λ e. lone_copy 1 2 (omega arith) (omega arith) (omega arith) (omega arith) k q.within e)
        (λ e. lone_copy 2 1 (omega arith) (omega arith) (omega arith) (omega arith) k q.within (other_holds (has u b 4 k) q.held e))

    pub item_told : Told g u x b
    unfolding holder_of
    item_told = record {
      some = some;
      holder = λ f q.
          let (p, o) = single_left (omega (arith, some)) in
          o.alone _ q.within (holder_copy f q) ∙ sym (first_only g.nodes (copy x b) p o);
      many = λ f e.
          let p = pair_left f in
          omega (arith, e, only_counts g.nodes (has x b 4) p.one p.first, only_counts g.nodes (has x b 5) p.two p.second, pair_copies x b g.nodes);
      single = λ f. let (p, o) = single_left (omega (arith, some)) in only_counts g.nodes (copy x b) p o;
    }
