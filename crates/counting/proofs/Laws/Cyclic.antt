-- The nodes in cyclic order: the step, the nodes that a search meets, what it finds, and the ways of its code.
use Rattle.std.proofs.Common.{◌≡◌, ℕ, ◌+◌, ◌-◌, ◌%◌, ◌<◌, ◌≤◌, Bool, true, false, ltb, ◌≢◌, sym, refl, ap, ◌∙◌, mod-lt, mod-eq_of_lt, arith, ltb-false, ltb-true, le-ltb, lt-ltb}
use native.Mathlib.Nat.{mod_self, mod-add-mod, add-mod_right}
use native.Mathlib.Decide.{ℕ_discrete, dec_lt}
use Rattle.counting.specs.Counting.{first}
use Rattle.counting.specs.Cyclic.{next_node, node_after, test_after, first_after, cursor_after, cursor_step}
use Rattle.counting.specs.declared.cyclic.Cursor.{Cursor}
use Rattle.counting.proofs.Laws.Tests.{by_cases}
use Rattle.counting.proofs.Laws.First.{first_starts, first_turns, first_found, first_ends, first_le, first_least}
use Rattle.counting.proofs.Laws.First.{first_passes, first_none, first_ext}

-- ---- the step: a comparison

module _ (N n : ℕ) where
  pub next_mod : n < N → next_node N n ≡ (n + 1) % N
  unfolding next_node
  next_mod h = rw (lt-ltb n N h) refl

  pub next_follows : n + 1 < N → n + 1 ≡ next_node N n
  next_follows h = sym (next_mod (omega arith) ∙ mod-eq_of_lt {n = n + 1} {m = N} h)

  pub next_wraps : N ≤ n + 1 → 0 ≡ next_node N n
  unfolding next_node
  next_wraps h =
      by_cases (ltb n N)
      (λ q. let l = ltb-true n N q in let e : n + 1 ≡ N = omega arith in
      sym (next_mod l ∙ ap (λ k. k % N) e ∙ mod_self N))
      (λ q. rw q refl)

-- ---- the nodes after n: each other node once, n at the end

module _ (N n : ℕ) where
  -- the steps to another node, and no others lead there
  pub record Met (m : ℕ) : Type 0 where
    pub steps : ℕ
    pub few : steps < N - 1
    pub reach : node_after N n steps ≡ m
    pub once : (i : ℕ) → i < N - 1 → node_after N n i ≡ m → i ≡ steps

  module _ (h : n < N) where
    after_below : (i : ℕ) → node_after N n i < N
    unfolding node_after
    after_below i = mod-lt (n + 1 + i) {m = N} (omega arith)

    -- the first step
    after_starts : next_node N n ≡ node_after N n 0
    unfolding node_after
    after_starts = next_mod N n h ∙ ap (λ k. k % N) (omega arith)

    -- the step from the node i + 1 steps after n gives the next one
    after_steps : (i : ℕ) → next_node N (node_after N n i) ≡ node_after N n (i + 1)
    unfolding node_after
    after_steps i =
        next_mod N (node_after N n i) (after_below i) ∙ mod-add-mod (n + 1 + i) N 1 ∙ ap (λ k. k % N) (omega arith)

    -- straight on, or once round
    after_ways :
        {R : Type 0} (i : ℕ) → i < N → (n + 1 + i < N → node_after N n i ≡ n + 1 + i → R)
        → (node_after N n i + N ≡ n + 1 + i → R) → R
    unfolding node_after
    after_ways i l straight round =
        by_cases (ltb (n + 1 + i) N)
        (λ q. let k = ltb-true (n + 1 + i) N q in straight k (mod-eq_of_lt {n = n + 1 + i} {m = N} k))
        (λ q. let k = ltb-false (n + 1 + i) N q in
        let j = n + 1 + i - N in
        let e : n + 1 + i ≡ j + N = omega arith in
        let r = ap (λ m. m % N) e ∙ add-mod_right j N ∙ mod-eq_of_lt {n = j} {m = N} (omega arith) in
        round (omega arith))

    after_other : (i : ℕ) → i < N - 1 → node_after N n i ≢ n
    after_other i l e = after_ways i (omega arith) (λ k s. omega arith) (λ s. omega arith)

    after_all : node_after N n (N - 1) ≡ n
    after_all = after_ways (N - 1) (omega arith) (λ k s. omega arith) (λ s. omega arith)

    after_once : (i j : ℕ) → i < N → j < N → node_after N n i ≡ node_after N n j → i ≡ j
    after_once i j k l e =
        after_ways i k
        (λ a s. after_ways j l (λ b t. omega arith) (λ t. omega arith))
        (λ s. after_ways j l (λ b t. omega arith) (λ t. omega arith))

    abbrev met_by : (m k : ℕ) → k < N - 1 → node_after N n k ≡ m → Met m
    met_by m k l e = record {
      steps = k;
      few = l;
      reach = e;
      once = λ i h q. after_once i k (omega arith) (omega arith) (q ∙ sym e);
    }

    -- each other node is met once
    pub after_meets : (m : ℕ) → m < N → m ≢ n → Met m
    after_meets m l d =
        by_cases (ltb n m)
        (λ q. let k = ltb-true n m q in let i = m - n - 1 in
        met_by m i (omega arith) (after_ways i (omega arith) (λ a s. omega arith) (λ s. omega arith)))
        (λ q. let k = ltb-false n m q in let i = m + N - n - 1 in
        met_by m i (omega arith) (after_ways i (omega arith) (λ a s. omega arith) (λ s. omega arith)))

-- ---- what a search finds

module _ (test : ℕ → Bool) (N n : ℕ) where
  abbrev passed : ℕ
  passed = first (test_after test N n) (N - 1)

  first_after_outside : N ≤ n → first_after test N n ≡ n
  unfolding first_after
  first_after_outside h = rw (le-ltb n N h) refl

  -- the node found: another one, that passes, and none that is met before it does
  pub record FoundAfter (m : ℕ) : Type 0 where
    pub there : m < N
    pub other : m ≢ n
    pub passes : test m ≡ true
    pub met : Met N n m
    pub before : (i : ℕ) → i < met.steps → test (node_after N n i) ≡ false

  module _ (h : n < N) where
    first_after_there : first_after test N n ≡ node_after N n passed
    unfolding first_after
    first_after_there = rw (lt-ltb n N h) refl

    pub first_after_below : first_after test N n < N
    first_after_below = rw first_after_there (after_below N n h passed)

    passed_some : first_after test N n ≢ n → passed < N - 1
    passed_some d =
        let m = first_le (test_after test N n) (N - 1) in
        elim (ℕ_discrete passed (N - 1)) [
          | yes q ↦ absurd (d (first_after_there ∙ ap (node_after N n) q ∙ after_all N n h))
          | no q ↦ omega arith
        ]

    passed_all : first_after test N n ≡ n → passed ≡ N - 1
    passed_all e =
        let m = first_le (test_after test N n) (N - 1) in
        elim (ℕ_discrete passed (N - 1)) [
          | yes q ↦ q
          | no q ↦ absurd (after_other N n h passed (omega arith) (sym first_after_there ∙ e))
        ]

    found_there : first_after test N n ≢ n → FoundAfter (first_after test N n)
    unfolding test_after
    found_there d =
        let l = passed_some d in
        let e = first_after_there in
        record {
          there = first_after_below;
          other = d;
          passes = ap test e ∙ first_passes (test_after test N n) (N - 1) l;
          met = met_by N n h (first_after test N n) passed l (sym e);
          before = first_least (test_after test N n) (N - 1);
        }

    -- none is found only if none passes
    pub after_none : first_after test N n ≡ n → (m : ℕ) → m < N → m ≢ n → test m ≡ false
    unfolding test_after
    after_none e m l d =
        let s = after_meets N n h m l d in
        sym (ap test s.reach)
        ∙ first_least (test_after test N n) (N - 1) s.steps (omega (arith, s.few, passed_all e))

    none_there : ((m : ℕ) → m < N → m ≢ n → test m ≡ false) → first_after test N n ≡ n
    unfolding test_after
    none_there f =
        first_after_there
        ∙ ap (node_after N n) (first_none (test_after test N n) (N - 1)
        (λ i l. f (node_after N n i) (after_below N n h i) (after_other N n h i l)))
        ∙ after_all N n h

  pub after_found : first_after test N n ≢ n → FoundAfter (first_after test N n)
  after_found d =
      elim (dec_lt n N) [ yes h ↦ found_there h d | no h ↦ absurd (d (first_after_outside (omega arith))) ]

  -- and whenever none does
  pub none_after : ((m : ℕ) → m < N → m ≢ n → test m ≡ false) → first_after test N n ≡ n
  none_after f = elim (dec_lt n N) [ yes h ↦ none_there h f | no h ↦ first_after_outside (omega arith) ]

-- by tests that agree on the nodes
pub first_after_ext :
    (f p : ℕ → Bool) (N n : ℕ) → ((m : ℕ) → m < N → f m ≡ p m) → first_after f N n ≡ first_after p N n
unfolding test_after
first_after_ext f p N n e =
    elim (dec_lt n N) [
      | yes h ↦
          first_after_there f N n h
          ∙ ap (node_after N n) (first_ext (N - 1) (test_after f N n) (test_after p N n)
          (λ i l. e (node_after N n i) (after_below N n h i)))
          ∙ sym (first_after_there p N n h)
      | no h ↦ first_after_outside f N n (omega arith) ∙ sym (first_after_outside p N n (omega arith))
    ]

-- ---- the search by its code

module _ (N n : ℕ) where
  pub cursor_outside : N ≤ n → record { node = n; untried = 0 } ≡ cursor_after N n
  unfolding cursor_after
  cursor_outside h = rw (le-ltb n N h) refl

  pub cursor_starts : n < N → {m : ℕ} → m ≡ next_node N n → record { node = m; untried = N - 1 } ≡ cursor_after N n
  unfolding cursor_after
  cursor_starts h e = rw (lt-ltb n N h, e) refl

pub cursor_steps :
    (N : ℕ) (c : Cursor) {m k : ℕ} → m ≡ next_node N c.node → k ≡ c.untried - 1
    → record { node = m; untried = k } ≡ cursor_step N c
unfolding cursor_step
cursor_steps N c e q = rw (e, q) refl

-- each step leaves one fewer to be tried
pub step_falls : (N : ℕ) (c : Cursor) {d : Cursor} → 0 < c.untried → d ≡ cursor_step N c → d.untried < c.untried
unfolding cursor_step
step_falls N c l e = rw e (omega arith)

-- the search has come to the cursor, and no node before it passes
pub record Searching (test : ℕ → Bool) (N n : ℕ) (c : Cursor) : Type 0 where
  pub tried : ℕ
  pub some : 0 < c.untried → n < N
  pub all : n < N → tried + c.untried ≡ N - 1
  pub here : n < N → c.node ≡ node_after N n tried
  pub none : first (test_after test N n) tried ≡ tried

module _ (test : ℕ → Bool) (N n : ℕ) {c : Cursor} where
  pub search_starts : c ≡ cursor_after N n → Searching test N n c
  unfolding cursor_after
  search_starts e = rw e (elim (dec_lt n N) [
    | yes h ↦ rw (lt-ltb n N h) (record {
      tried = 0;
      some = λ _. h;
      all = λ _. omega arith;
      here = λ _. after_starts N n h;
      none = first_starts _;
    })
    | no h ↦ rw (le-ltb n N (omega arith)) (record {
      tried = 0;
      some = λ l. omega arith;
      all = λ l. omega arith;
      here = λ l. absurd (h l);
      none = first_starts _;
    })
  ])

  module _ (s : Searching test N n c) where
    module _ (l : 0 < c.untried) where
      -- the node to be tried
      pub search_there : c.node < N
      search_there = let h = s.some l in rw (s.here h) (after_below N n h s.tried)

      module _ {passes : Bool} (q : passes ≡ test c.node) where
        tried_test : {r : Bool} → passes ≡ r → test_after test N n s.tried ≡ r
        unfolding test_after
        tried_test e = sym (q ∙ ap test (s.here (s.some l))) ∙ e

        pub search_found : passes ≡ true → c.node ≡ first_after test N n
        search_found e =
            let h = s.some l in
            let a = s.all h in
            s.here h
            ∙ ap (node_after N n)
            (sym (first_found (test_after test N n) s.tried (N - 1) s.none (tried_test e) (omega arith)))
            ∙ sym (first_after_there test N n h)

        pub search_on : passes ≡ false → {d : Cursor} → d ≡ cursor_step N c → Searching test N n d
        unfolding cursor_step
        search_on e k =
            let h = s.some l in
            let a = s.all h in
            rw k (record {
              tried = s.tried + 1;
              some = λ _. h;
              all = λ _. omega arith;
              here = λ _. ap (next_node N) (s.here h) ∙ after_steps N n h s.tried;
              none = first_turns (test_after test N n) s.tried s.none (tried_test e);
            })

    -- none was found
    pub search_ends : c.untried ≤ 0 → n ≡ first_after test N n
    search_ends l =
        elim (dec_lt n N) [
          | yes h ↦
              (let a = s.all h in
              sym (first_after_there test N n h
              ∙ ap (node_after N n)
              (sym (first_ends (test_after test N n) s.tried (N - 1) s.none (omega arith) (omega arith)))
              ∙ after_all N n h))
          | no h ↦ sym (first_after_outside test N n (omega arith))
        ]
