-- The laws of `specs/code/RollingCode.antt`.
use Rattle.std.specs.Prelude.{Option}
use Prim.Native.Nat.{ℕ, zero, suc, ◌+◌, ◌*◌, ◌%◌, ◌≤◌, ◌<◌}
use mathlib.Core.Path.{◌≡◌, refl, sym, ap, ◌∙◌}
use mathlib.Core.Bool.{Bool, true, false, not, ◌&&◌}
use mathlib.Core.List.{List, [], ◌∷◌, ◌++◌, map, append_assoc}
use native.Mathlib.Omega.{arith}
use lib.Dec.{eqb}
use lib.ListN.{length, get_or}
use borrow.Author.Tests.{eq-eqb}
use Rattle.table.specs.declared.geometry.Geometry.{Geometry}
use Rattle.table.specs.Geometry.{words_of, entry_words, Placed}
use Rattle.table.specs.Words.{invalid, shared_ck, current_of, kept_of}
use Rattle.table.specs.Changes.{change_of}
use Rattle.table.specs.Stores.{Store, Change, Stored, entry_store, state_to, value_to, runs}
use Rattle.table.specs.code.Stores.{StoredIn}
use Rattle.table.specs.declared.stores.Stores.{Stores}
use Rattle.table.specs.Made.{Made, shown}
use Rattle.table.proofs.Laws.Made.{made_as, made_none}
use Rattle.table.proofs.Laws.Stores.{runs_ext, stored_none, stored_three, stored_as, loop-starts, loop-turns}
use Rattle.table.specs.View.{Entry, View, view, current, kept, pass}
use Rattle.table.proofs.Laws.PassTurns.{Local, items_turn, nodes_turn}
use Rattle.entries.proofs.Laws.Row.{row_read, row_state_lem}
use Rattle.checkpoints.specs.Checkpoint.{live_changes, entries_before}
use Rattle.checkpoints.proofs.Laws.Checkpoint.{changes_local, changes_live, changes_dead}
use Rattle.survivors.specs.Survivors.{survivors}
use Rattle.recovery.specs.Sides.{side_event, bring_back, settled, roll_change}
use Rattle.survivors.proofs.Laws.SurvivorsCode.{survivor_entry, survivor_marks}
use Rattle.recovery.specs.code.Rows.{state_in, reached}
use Rattle.recovery.proofs.Laws.Rows.{reached_start, reached_next, listed_turn, listed_end}
use Rattle.recovery.specs.code.RollingCode.{cleared, RollListed, RolledNode, Rolled}

-- ---- one entry

module _ (e : Entry) {w c k : ℕ} (z : w ≡ e.state) (p : c ≡ current_of w) (q : k ≡ kept_of w) where
  pub settle_stays : (next : ℕ) → (eqb next c && eqb k invalid) ≡ true → settled next e ≡ []
  unfolding settled
  settle_stays next h = rw (← z, ← p, ← q, h) refl

  pub settle_stores : (next : ℕ) → (eqb next c && eqb k invalid) ≡ false → settled next e ≡ state_to next invalid ∷ []
  unfolding settled
  settle_stores next h = rw (← z, ← p, ← q, h) refl

  module _ (forward : Bool) where
    pub roll_back : (not forward && not (eqb k invalid)) ≡ true → roll_change forward e ≡ bring_back e
    unfolding roll_change
    roll_back h = rw (← z, ← q, h) refl

    pub roll_settles :
        (not forward && not (eqb k invalid)) ≡ false → {next : ℕ} → next ≡ change_of c (side_event forward) → roll_change forward e ≡ settled next e
    unfolding roll_change
    roll_settles h b = rw (← z, ← p, ← q, h, b) refl

pub clear_stays : (c k : ℕ) → c ≡ invalid → cleared c k ≡ []
clear_stays c k h = rw (eq-eqb c invalid h) refl

-- "state with current Invalid if it was not; current value; state": the premises are in the order of the code's stores
pub back_all :
    {g : Geometry} (n b : ℕ) (e : Entry) {w c k x code left left₁ left₂ left₃ : ℕ} {t t₁ t₂ t₃ : List ℕ}
    → w ≡ e.state → c ≡ current_of w → k ≡ kept_of w → x ≡ e.kept_value → code ≡ shared_ck (k % 4)
    → StoredIn g left n b (cleared c k) t t₁ left₁
    → StoredIn g left₁ n b (value_to x ∷ []) t₁ t₂ left₂
    → StoredIn g left₂ n b (state_to code invalid ∷ []) t₂ t₃ left₃ → StoredIn g left n b (bring_back e) t t₃ left₃
unfolding bring_back
back_all n b e {w} {c} {k} {x} {code} z p q h d first second third =
    let own : code ≡ shared_ck k = omega (arith, d, q) in
    let same : bring_back e ≡ (cleared c k ++ (value_to x ∷ [])) ++ (state_to code invalid ∷ []) =
    rw (own, p, q, z, h) (sym (append_assoc (cleared (current e) (kept e)) (value_to e.kept_value ∷ []) (state_to (shared_ck (kept e)) invalid ∷ []))) in
    stored_as (ap (map (entry_store n b)) same)
    (stored_three n b (cleared c k) (value_to x ∷ []) (state_to code invalid ∷ []) first second third)

-- ---- the survivors' entries

-- changes of a survivor's entry look at its mark and at the entry alone
survivor_local : (change : Entry → List Change) (lost : Option ℕ) → Local (λ v. live_changes change (survivors lost v))
survivor_local change lost v w n b m e =
    changes_local change (survivors lost v) (survivors lost w) n b (survivor_marks lost v w n m)
    (rw (survivor_entry lost w, survivor_entry lost v) e)

pub survivor_changes :
    (change : Entry → List Change) (lost : Option ℕ) (v : View) (n b : ℕ) {mark : ℕ} → mark ≡ (survivors lost v).mark n → (mark ≡ 0 → ⊥)
    → live_changes change (survivors lost v) n b ≡ change (v.entry n b)
survivor_changes change lost v n b h d =
    changes_live change (survivors lost v) n b h d ∙ ap (λ f. change (f n b)) (survivor_entry lost v)

-- ---- a node's entries

-- a state word 0 stays
roll_blank : (forward : Bool) (e : Entry) → e.state ≡ 0 → roll_change forward e ≡ []
unfolding roll_change settled change_of
roll_blank true e h = rw h refl
roll_blank false e h = rw h refl

entry_local : (forward : Bool) → Local (λ v n b. roll_change forward (v.entry n b))
entry_local forward v w n b m e = ap (roll_change forward) e

-- the items before the k-th of the list are passed
unfoldable pub rolled_to : Geometry → ℕ → Bool → View → ℕ → List Store
rolled_to g n forward v i = pass (λ d. n) (λ d. d) (λ d. roll_change forward (v.entry n d)) i

pub listed_first :
    (g : Geometry) (n : ℕ) (forward : Bool) (left : ℕ) (t l : List ℕ) → Stored g left (rolled_to g n forward (view g t) (reached l 0)) t t left
unfolding rolled_to
listed_first g n forward left t l = rw (reached_start l) (loop-starts g _ left t)

module _ (g : Geometry) (n : ℕ) (forward : Bool) {left left₁ : ℕ} {t t₁ : List ℕ} where
  passed_blank :
      (j : ℕ) → state_in (view g t) n j ≡ 0 → Stored g left (rolled_to g n forward (view g t) j) t t₁ left₁
      → Stored g left (rolled_to g n forward (view g t) (j + 1)) t t₁ left₁
  unfolding rolled_to
  passed_blank j z s =
      loop-turns _ j s (stored_as (ap (map (entry_store n j)) (roll_blank forward ((view g t).entry n j) z)) (stored_none g left₁ t₁))

  module _ {l : List ℕ} (o : RollListed g n t l) (k : ℕ) (s : Stored g left (rolled_to g n forward (view g t) (reached l k)) t t₁ left₁) where
    -- the turn's state word, at its place in the node's row
    module _ {start : ℕ} (a : Placed g n 0 start) (h : k < length l) where
      pub listed_state : get_or t₁ (start + entry_words * get_or l k 0) 0 ≡ ((view g t₁).entry n (get_or l k 0)).state
      listed_state = row_read t₁ start (get_or l k 0) refl refl ∙ row_state_lem g t₁ n o.there a (get_or l k 0) (o.listed.below k h)

    pub listed_next :
        k < length l → {left₂ : ℕ} {t₂ : List ℕ}
        → StoredIn g left₁ n (get_or l k 0) (roll_change forward ((view g t₁).entry n (get_or l k 0))) t₁ t₂ left₂
        → Stored g left (rolled_to g n forward (view g t) (reached l (k + 1))) t t₂ left₂
    unfolding rolled_to
    listed_next h r =
        rw (reached_next l k)
        (items_turn (λ v n b. roll_change forward (v.entry n b)) (entry_local forward) g o.long n (get_or l k 0) o.there (o.listed.below k h)
        (listed_turn (λ i. Stored g left (rolled_to g n forward (view g t) i) t t₁ left₁) (state_in (view g t) n) passed_blank o.listed k h s) r)

    pub listed_all :
        k ≤ length l → length l ≤ k
        → Stored g left (pass (λ d. n) (λ d. d) (λ d. roll_change forward ((view g t).entry n d)) g.items) t t₁ left₁
    unfolding rolled_to
    listed_all h q =
        listed_end (λ i. Stored g left (rolled_to g n forward (view g t) i) t t₁ left₁) (state_in (view g t) n) passed_blank o.listed k h q s

pub runs_empty : (n : ℕ) (f : ℕ → List Store) → ((i : ℕ) → i < n → f i ≡ []) → runs f n ≡ []
unfolding runs
runs_empty zero f h = refl
runs_empty (suc n) f h = rw (runs_empty n f (λ i l. h i (omega arith)), h n (omega arith)) refl

module _ (lost : Option ℕ) (n : ℕ) (forward : Bool) {s : Stores} {mark : ℕ} {l : List ℕ} (h : mark ≡ (survivors lost (shown s)).mark n) where
  pub node_passed_over : mark ≡ 0 → RolledNode lost n forward s s l l
  node_passed_over d = record {
    made = made_as
        (runs_empty s.g.items _ (λ b _. ap (map (entry_store n b)) (changes_dead (roll_change forward) (survivors lost (shown s)) n b h d)))
        (made_none s);
    size = refl;
  }

  pub node_rolled :
      (mark ≡ 0 → ⊥) → {s' : Stores} {l' : List ℕ} → length l' ≡ length l
      → Made s (pass (λ d. n) (λ d. d) (λ d. roll_change forward ((shown s).entry n d)) s.g.items) s' → RolledNode lost n forward s s' l l'
  node_rolled d q m = record {
    made = made_as (runs_ext s.g.items _ _ (λ b _. ap (map (entry_store n b)) (survivor_changes (roll_change forward) lost (shown s) n b h d))) m;
    size = q;
  }

-- ---- the pass over them

module _ (change : Entry → List Change) (lost : Option ℕ) (g : Geometry) {left left₁ : ℕ} {t t₁ : List ℕ} (long : words_of g ≤ length t) where
  -- node n
  pub survivor_node :
      (n : ℕ) → n < g.nodes → Stored g left (entries_before g (survivors lost (view g t)) change n) t t₁ left₁ → {left₂ : ℕ} {t₂ : List ℕ}
      → Stored g left₁ (pass (λ d. n) (λ d. d) (λ d. live_changes change (survivors lost (view g t₁)) n d) g.items) t₁ t₂ left₂
      → Stored g left (entries_before g (survivors lost (view g t)) change (n + 1)) t t₂ left₂
  unfolding entries_before
  survivor_node n l s r = nodes_turn (λ v. live_changes change (survivors lost v)) (survivor_local change lost) g long n l s r

pub rolled_all :
    (lost : Option ℕ) (forward : Bool) (n : ℕ) {s s' : Stores} {l l' : List ℕ} → n ≤ s.g.nodes → s.g.nodes ≤ n → length l' ≡ length l
    → Made s (entries_before s.g (survivors lost (shown s)) (roll_change forward) n) s' → Rolled lost forward s s' l l'
rolled_all lost forward n {s} h k q m = let e : n ≡ s.g.nodes = omega arith in record { made = rw e at m; size = q }
