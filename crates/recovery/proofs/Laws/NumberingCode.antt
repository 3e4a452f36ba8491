-- The laws of `specs/code/NumberingCode.antt`.
use Rattle.std.specs.Prelude.{Option}
use Prim.Native.Nat.{ℕ, ◌+◌, ◌-◌, ◌*◌, ◌/◌, ◌%◌, ◌≤◌, ◌<◌}
use mathlib.Core.Path.{◌≡◌, refl, sym, ap, ◌∙◌}
use mathlib.Core.Bool.{true, false, cond, not, ◌&&◌}
use mathlib.Core.List.{List, [], map}
use native.Mathlib.Omega.{arith}
use native.Mathlib.Decide.{ℕ_discrete}
use lib.Arith.{digits_div, digits_mod}
use lib.Dec.{eqb}
use lib.ListN.{length, get_or}
use borrow.Author.Tests.{eq-eqb, ne_eqb}
use Rattle.counting.proofs.Laws.Tests.{by_cases}
use Rattle.counting.specs.Counting.{one}
use Rattle.counting.proofs.Laws.Counting.{count_none, count_next, count_le, count_ext}
use Rattle.table.specs.declared.geometry.Geometry.{Geometry}
use Rattle.table.specs.Geometry.{words_of}
use Rattle.table.specs.Words.{invalid, current_of, shared_ck}
use Rattle.table.specs.Changes.{checkpoint_of}
use Rattle.table.proofs.Laws.Changes.{checkpoint_low}
use Rattle.table.specs.Stores.{Store, Stored, entry_store, runs}
use Rattle.table.proofs.Laws.Stores.{runs_ext, runs_add, stored_then, stored_as, stored_none, loop-starts, loop-turns}
use Rattle.table.specs.View.{Entry, View, view, live, current, pass}
use Rattle.table.proofs.Laws.Pass.{columns_within, grid_once}
use Rattle.table.proofs.Laws.PassLeaves.{pass_marks, pass_entry}
use Rattle.entries.specs.Tally.{has}
use Rattle.recovery.specs.declared.numbering.Holders.{Holders}
use Rattle.recovery.proofs.Laws.Followed.{stored_any}
use Rattle.survivors.specs.Survivors.{survivors}
use Rattle.recovery.specs.Sides.{settled}
use Rattle.recovery.specs.Numbering.{holders, number_after, number_at, number_change, number_stores}
use Rattle.survivors.proofs.Laws.SurvivorsCode.{survivor_entry, survivor_marks}
use Rattle.recovery.proofs.Laws.RollingCode.{runs_empty}
use Rattle.recovery.specs.code.Tallies.{plain}
use Rattle.recovery.proofs.Laws.Tallies.{plain_nothing}
use Rattle.recovery.specs.code.NumberingCode.{survivor_code, of_number, Met, HoldersTo, number_by, Numberable, Numbering}

-- ---- the copy of one node

pub code_dead : (w : View) (b n : ℕ) {mark : ℕ} → mark ≡ w.mark n → mark ≡ 0 → invalid ≡ survivor_code w b n
unfolding survivor_code
code_dead w b n h d = rw (← h, eq-eqb _ 0 d) refl

pub code_live :
    (lost : Option ℕ) (v : View) (b n : ℕ) {mark state c : ℕ} → mark ≡ (survivors lost v).mark n → (mark ≡ 0 → ⊥) → state ≡ (v.entry n b).state
    → c ≡ current_of state → c ≡ survivor_code (survivors lost v) b n
unfolding survivor_code
code_live lost v b n h d s e = rw (← h, ne_eqb _ 0 d, survivor_entry lost v, ← s) e

-- a node holds a code that is not Invalid exactly if that is its copy's
held_as : (w : View) (b code n : ℕ) → (code ≡ 0 → ⊥) → has w b code n ≡ eqb (survivor_code w b n) code
unfolding survivor_code
held_as w b code n d = by_cases (live w n) (λ e. rw e refl) (λ e. rw (e, ne_eqb 0 code (λ z. d (sym z))) refl)

-- ---- the holders of an item

holders_one : (w : View) (b number n : ℕ) {x y : ℕ} → x ≡ holders w b number n → y ≡ x + one (eqb (survivor_code w b n) (shared_ck number))
    → y ≡ holders w b number (n + 1)
unfolding holders
holders_one w b number n h e =
    rw (count_next (has w b (shared_ck number)) n, held_as w b (shared_ck number) n (λ (z : 3 + number ≡ 0). omega arith), ← h) e

holders_few : (w : View) (b number n : ℕ) {x : ℕ} → x ≡ holders w b number n → x ≤ n
unfolding holders
holders_few w b number n h = omega (arith, count_le n (has w b (shared_ck number)))

module _ (w : View) (b : ℕ) where
  holders_made : (n : ℕ) {h : Holders} → h.first ≡ holders w b 1 n → h.second ≡ holders w b 2 n → HoldersTo w b n h
  holders_made n p q = record { first = p; second = q; few = holders_few w b 1 n p; fewer = holders_few w b 2 n q }

  pub holders_start : {h : Holders} → (h.first ≡ 0) × (h.second ≡ 0) → HoldersTo w b 0 h
  unfolding holders
  holders_start e =
      holders_made 0 (e.0 ∙ count_none (has w b (shared_ck 1))) (e.1 ∙ count_none (has w b (shared_ck 2)))

  pub holders_turn : (n : ℕ) {h r : Holders} {c : ℕ} → HoldersTo w b n h → c ≡ survivor_code w b n → Met c h r → HoldersTo w b (n + 1) r
  holders_turn n h e m =
      holders_made (n + 1) (holders_one w b 1 n h.first (rw (← e) m.first)) (holders_one w b 2 n h.second (rw (← e) m.second))

  pub holders_end : (n m : ℕ) {h : Holders} → n ≤ m → m ≤ n → HoldersTo w b n h → HoldersTo w b m h
  holders_end n m l k h = let e : n ≡ m = omega arith in rw e at h

-- ---- the code that a copy gets

module _ (number lower others : ℕ) where
  pub after_lowest : {code : ℕ} → number < 3 → lower ≡ 0 → code ≡ shared_ck (number % 4) → code ≡ number_after number lower others
  unfolding number_after
  after_lowest l h q = rw (eq-eqb lower 0 h) (omega (arith, q))

  module _ (h : lower ≡ 0 → ⊥) where
    pub after_second :
        {code : ℕ} → number < 3 → (eqb lower 1 && eqb others 0) ≡ true → code ≡ shared_ck ((3 - number) % 4) → code ≡ number_after number lower others
    unfolding number_after
    after_second l e q = rw (ne_eqb lower 0 h, e) (omega (arith, q))

    pub after_further : (eqb lower 1 && eqb others 0) ≡ false → invalid ≡ number_after number lower others
    unfolding number_after
    after_further e = rw (ne_eqb lower 0 h, e) refl

pub number_fits : (c : ℕ) {number : ℕ} → number ≡ checkpoint_of c → number < 3
number_fits c e = omega (arith, checkpoint_low c)

-- ---- the turn of one entry

module _ (c : ℕ) (lower all : Holders) (e : Entry) {number : ℕ} (h : number ≡ checkpoint_of c) where
  pub by_none : number ≡ 0 → number_by c lower all e ≡ []
  unfolding number_by
  by_none d = rw (← h, eq-eqb number 0 d) refl

  pub by_copy :
      (number ≡ 0 → ⊥) → {x y next : ℕ} → x ≡ of_number lower number → y ≡ of_number all (3 - number) → next ≡ number_after number x y
      → number_by c lower all e ≡ settled next e
  unfolding number_by
  by_copy d p q r = rw (← h, ne_eqb number 0 d, ← p, ← q, ← r) refl

of_holders :
    (w : View) (b n : ℕ) {h : Holders} → HoldersTo w b n h → (number : ℕ) → 0 < number → number < 3 → of_number h number ≡ holders w b number n
of_holders w b n k number l m =
    elim (ℕ_discrete number 1) [ yes e ↦ rw e k.first | no d ↦ let e : number ≡ 2 = omega arith in rw e k.second ]

numbered :
    (g : Geometry) (w : View) (n b : ℕ) (e : Entry) {lower all : Holders} → HoldersTo w b n lower → HoldersTo w b g.nodes all
    → (m : ℕ) → m < 3
    → cond (not (eqb m 0)) (settled (number_after m (holders w b m n) (holders w b (3 - m) g.nodes)) e) []
    ≡ cond (eqb m 0) [] (settled (number_after m (of_number lower m) (of_number all (3 - m))) e)
numbered g w n b e p q m l =
    elim (ℕ_discrete m 0) [
      | yes z ↦ rw z refl
      | no z ↦ rw (ne_eqb m 0 z, of_holders w b n p m (omega arith) l, of_holders w b g.nodes q (3 - m) (omega arith) (omega arith)) refl
    ]

-- what the code does at its turn is what the list says, by the holders of the table at the item's start
changes_by :
    (g : Geometry) (w : View) (n b : ℕ) {c : ℕ} {lower all : Holders} → c ≡ survivor_code w b n → HoldersTo w b n lower → HoldersTo w b g.nodes all
    → number_change g w n b ≡ number_by c lower all (w.entry n b)
unfolding number_change number_by survivor_code
changes_by g w n b {c} h p q =
    by_cases (live w n)
    (λ e. let s : c ≡ current (w.entry n b) = h ∙ rw e refl in
    rw (e, s) (numbered g w n b (w.entry n b) p q (checkpoint_of (current (w.entry n b))) (checkpoint_low (current (w.entry n b)))))
    (λ e. let z : c ≡ 0 = h ∙ rw e refl in rw (e, z) refl)

-- ---- one item: a turn finds its entry as it was at the item's start, whatever the limit

survivor_code_same :
    (lost : Option ℕ) (v u : View) (b n : ℕ) → u.mark n ≡ v.mark n → u.entry n b ≡ v.entry n b
    → survivor_code (survivors lost u) b n ≡ survivor_code (survivors lost v) b n
unfolding survivor_code
survivor_code_same lost v u b n m e = rw (survivor_marks lost v u n m, survivor_entry lost u, survivor_entry lost v, e) refl

module _ (g : Geometry) (lost : Option ℕ) (b n : ℕ) (hn : n < g.nodes) (hb : b < g.items) {left left₁ : ℕ} {t t₁ : List ℕ} (long : words_of g ≤ length t)
    (s : Stored g left (pass (λ d. d) (λ d. b) (λ d. number_change g (survivors lost (view g t)) d b) n) t t₁ left₁) where
  turn_mark : (view g t₁).mark n ≡ (view g t).mark n
  turn_mark =
      ap (λ f. f n)
      (pass_marks g (λ d. d) (λ d. b) n (λ d l. (omega arith, hb)) (λ d e _ _ q _. q) (λ d. number_change g (survivors lost (view g t)) d b) long s)

  turn_entry : (view g t₁).entry n b ≡ (view g t).entry n b
  turn_entry =
      pass_entry g (λ d. d) (λ d. b) n (λ d l. (omega arith, hb)) (λ d e _ _ q _. q) (λ d. number_change g (survivors lost (view g t)) d b) long s n b
      (λ d l q _. absurd (omega arith))

  -- the code that is read at the turn
  pub code_found : {c : ℕ} → c ≡ survivor_code (survivors lost (view g t₁)) b n → c ≡ survivor_code (survivors lost (view g t)) b n
  code_found h = h ∙ survivor_code_same lost (view g t) (view g t₁) b n turn_mark turn_entry

  pub number_turn :
      {c : ℕ} {lower all : Holders} → c ≡ survivor_code (survivors lost (view g t₁)) b n → HoldersTo (survivors lost (view g t)) b n lower
      → HoldersTo (survivors lost (view g t)) b g.nodes all → {left₂ : ℕ} {t₂ : List ℕ}
      → Stored g left₁ (map (entry_store n b) (number_by c lower all ((view g t₁).entry n b))) t₁ t₂ left₂
      → Stored g left (pass (λ d. d) (λ d. b) (λ d. number_change g (survivors lost (view g t)) d b) (n + 1)) t t₂ left₂
  number_turn {c} {lower} {all} h p q r =
      let same : number_change g (survivors lost (view g t)) n b ≡ number_by c lower all ((view g t₁).entry n b) =
      changes_by g (survivors lost (view g t)) n b (code_found h) p q ∙ ap (λ f. number_by c lower all (f n b)) (survivor_entry lost (view g t))
      ∙ ap (number_by c lower all) (sym turn_entry) in
      loop-turns _ n s (stored_as (ap (map (entry_store n b)) same) r)

pub number_nothing :
    (g : Geometry) (lost : Option ℕ) {left b tally : ℕ} {t : List ℕ} → Numberable g lost left t b tally → plain tally ≡ true
    → Stored g left (pass (λ d. d) (λ d. b) (λ d. number_change g (survivors lost (view g t)) d b) g.nodes) t t left
number_nothing g lost {left} {b} {tally} {t} h p = elim (ℕ_discrete left 0) [
  | yes z ↦ rw z (stored_any (pass (λ d. d) (λ d. b) (λ d. number_change g (survivors lost (view g t)) d b) g.nodes) (stored_none g 0 t))
  | no z ↦ stored_as (runs_empty g.nodes _ (λ n l. ap (map (entry_store n b)) (h.nothing z p n l))) (stored_none g left t)
]

-- ---- all items: an item's row is found as it was at the start

-- the changes of an item look at the marks and at the item's row alone
module _ (v u : View) (b : ℕ) (m : (k : ℕ) → u.mark k ≡ v.mark k) (e : (k : ℕ) → u.entry k b ≡ v.entry k b) where
  holders_row : (number n : ℕ) → holders u b number n ≡ holders v b number n
  unfolding holders
  holders_row number n = count_ext n (has u b (shared_ck number)) (has v b (shared_ck number)) (λ k l. rw (m k, e k) refl)

  number_row : (g : Geometry) (n : ℕ) → number_change g u n b ≡ number_change g v n b
  unfolding number_change
  number_row g n = rw (m n, e n, holders_row (number_at v n b) n, holders_row (3 - number_at v n b) g.nodes) refl

-- the pass over the items before b
unfoldable pub numbers_before : Geometry → View → ℕ → List Store
numbers_before g w b = pass (λ k. k % g.nodes) (λ k. k / g.nodes) (λ k. number_change g w (k % g.nodes) (k / g.nodes)) (b * g.nodes)

pub numbers_start : (g : Geometry) (w : View) (left : ℕ) (t : List ℕ) → Stored g left (numbers_before g w 0) t t left
unfolding numbers_before
numbers_start g w left t = let e : 0 * g.nodes ≡ 0 = omega arith in rw e (loop-starts g _ left t)

pub numbers_end :
    (g : Geometry) (w : View) (b : ℕ) {left left₁ : ℕ} {t t₁ : List ℕ} → b ≤ g.items → g.items ≤ b → Stored g left (numbers_before g w b) t t₁ left₁
    → Stored g left (number_stores g w) t t₁ left₁
unfolding numbers_before number_stores
numbers_end g w b h k s = let e : b ≡ g.items = omega arith in rw e at s

module _ (g : Geometry) (lost : Option ℕ) (b : ℕ) (hb : b < g.items) {left left₁ : ℕ} {t t₁ : List ℕ} (long : words_of g ≤ length t)
    (s : Stored g left (numbers_before g (survivors lost (view g t)) b) t t₁ left₁) where
  within : (d : ℕ) → d < b * g.nodes → (d % g.nodes < g.nodes) × (d / g.nodes < g.items)
  within d l = let r = columns_within g.nodes b d l in (r.0, omega (arith, r.1))

  row_found : (n : ℕ) → number_change g (survivors lost (view g t₁)) n b ≡ number_change g (survivors lost (view g t)) n b
  unfolding numbers_before
  row_found n =
      let N = g.nodes in
      let w = survivors lost (view g t) in
      number_row w (survivors lost (view g t₁)) b
      (λ k. survivor_marks lost (view g t) (view g t₁) k
      (ap (λ f. f k) (pass_marks g (λ k. k % N) (λ k. k / N) (b * N) within (λ d e _ _ p q. grid_once N d e q p) (λ k. number_change g w (k % N) (k / N)) long s)))
      (λ k. ap (λ f. f k b) (survivor_entry lost (view g t₁))
      ∙ pass_entry g (λ k. k % N) (λ k. k / N) (b * N) within (λ d e _ _ p q. grid_once N d e q p) (λ k. number_change g w (k % N) (k / N)) long s k b
      (λ d l _ q. absurd (omega (arith, (columns_within N b d l).1)))
      ∙ ap (λ f. f k b) (sym (survivor_entry lost (view g t)))) g n

  -- an item's turn, by its tally at the start
  pub numbers_ready :
      {tally : ℕ} {tallies : List ℕ} → g.nodes < 256 → Numbering g lost left t tallies → tally ≡ get_or tallies b 0 → Numberable g lost left₁ t₁ b tally
  numbers_ready small u e = record {
    there = hb;
    long = omega (arith, s.size);
    nothing = λ z p n l.
        let more : left ≡ 0 → ⊥ = λ q. z (omega (arith, s.rest)) in
        row_found n ∙ plain_nothing g (survivors lost (view g t)) b small (e ∙ u.tallied more b hb) n l (u.unkept more n b l hb) p;
  }

  pub numbers_turn :
      {left₂ : ℕ} {t₂ : List ℕ}
      → Stored g left₁ (pass (λ d. d) (λ d. b) (λ d. number_change g (survivors lost (view g t₁)) d b) g.nodes) t₁ t₂ left₂
      → Stored g left (numbers_before g (survivors lost (view g t)) (b + 1)) t t₂ left₂
  unfolding numbers_before
  numbers_turn r =
      let N = g.nodes in
      let w = survivors lost (view g t) in
      let flat : ℕ → List Store = λ k. map (entry_store (k % N) (k / N)) (number_change g w (k % N) (k / N)) in
      let e : (b + 1) * N ≡ b * N + N = omega arith in
      stored_as (ap (runs flat) e ∙ runs_add flat (b * N) N)
      (stored_then s
      (stored_as
      (runs_ext N (λ i. flat (b * N + i)) (λ d. map (entry_store d b) (number_change g (survivors lost (view g t₁)) d b))
      (λ i l. rw (digits_div b l, digits_mod b l) (ap (map (entry_store i b)) (sym (row_found i))))) r))
