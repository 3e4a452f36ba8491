-- A pass over the live marks, ascending: laws of `marks_to`.
use Prim.Native.Nat.{ℕ, suc, ◌+◌, ◌≤◌, ◌<◌}
use mathlib.Core.Path.{◌≡◌, refl, sym, ap, ◌∙◌, subst}
use mathlib.Core.Logic.{◌⊎◌, inl, inr}
use mathlib.Core.Bool.{Bool, true, false, not, cond}
use mathlib.Core.List.{List, [], ◌∷◌}
use native.Mathlib.Omega.{arith}
use native.Mathlib.Decide.{ℕ_discrete}
use lib.Dec.{eqb}
use lib.ListN.{length}
use borrow.Author.Tests.{eq-eqb, ne_eqb}
use Rattle.counting.proofs.Laws.Tests.{no_both}
use Rattle.table.specs.declared.geometry.Geometry.{Geometry}
use Rattle.table.specs.Geometry.{words_of}
use Rattle.table.specs.Stores.{mark_store, Stored, runs}
use Rattle.table.proofs.Laws.Stores.{runs_ext, loop-turns}
use Rattle.table.specs.View.{View, view, live, update, mark_to, marks_to}
use Rattle.table.proofs.Laws.Puts.{put₁_case}
use Rattle.table.proofs.Laws.Via.{Via, done, step, via_runs, via_cut}

-- the same words, said otherwise
pub marks_as :
    (g : Geometry) (v : View) (f h : ℕ → ℕ) → ((n : ℕ) → n < g.nodes → live v n ≡ true → f (v.mark n) ≡ h (v.mark n)) → marks_to g v f ≡ marks_to g v h
unfolding marks_to mark_to
marks_as g v f h e = runs_ext g.nodes (mark_to v f) (mark_to v h) (λ n l. go n l (live v n) refl)
  where
    go : (n : ℕ) → n < g.nodes → (b : Bool) → live v n ≡ b → cond b (mark_store n (f (v.mark n)) ∷ []) [] ≡ cond b (mark_store n (h (v.mark n)) ∷ []) []
    go n l true q = ap (λ w. mark_store n w ∷ []) (e n l q)
    go n l false q = refl

-- ---- every cut

module _ (g : Geometry) (v : View) (f : ℕ → ℕ) where
  -- each mark as it was, or, of a live node, new
  abbrev pub Mixed : View → Type 0
  Mixed w = (n : ℕ) → (w.mark n ≡ v.mark n) ⊎ ((live v n ≡ true) × (w.mark n ≡ f (v.mark n)))

  -- before node i
  pub record Marking (i : ℕ) (w : View) : Type 0 where
    pub entries : w.entry ≡ v.entry
    pub new : (n : ℕ) → n < i → live v n ≡ true → w.mark n ≡ f (v.mark n)
    pub later : (n : ℕ) → i ≤ n → w.mark n ≡ v.mark n
    pub dead : (n : ℕ) → live v n ≡ false → w.mark n ≡ v.mark n
    pub mixed : Mixed w

  -- the pass up to node k
  module _ (k : ℕ) (hk : k ≤ g.nodes) (P : View → Type 0)
      (all : (w : View) → w.entry ≡ v.entry → Mixed w → ((n : ℕ) → k ≤ n → w.mark n ≡ v.mark n) → P w) where
    turn : (i : ℕ) → i < k → (w : View) → P w → Marking i w → Via g P (Marking (suc i)) w (mark_to v f i)
    unfolding mark_to
    turn i hi w pw m = go (live v i) refl
      where
        new_or : (u : View) (n : ℕ) → n < suc i → (n < i → u.mark n ≡ f (v.mark n)) → (n ≡ i → u.mark n ≡ f (v.mark n)) → u.mark n ≡ f (v.mark n)
        new_or u n l a b = elim (ℕ_discrete n i) [ yes e ↦ b e | no e ↦ a (omega arith) ]

        go : (b : Bool) → live v i ≡ b → Via g P (Marking (suc i)) w (cond b (mark_store i (f (v.mark i)) ∷ []) [])
        go false q = done pw (record {
          entries = m.entries;
          new = λ n l t. new_or w n l (λ l. m.new n l t) (λ e. absurd (no_both (rw e at t) q));
          later = λ n l. m.later n (omega arith);
          dead = m.dead;
          mixed = m.mixed;
        })
        go true q =
            let u = update (mark_store i (f (v.mark i))) w in
            let mx : Mixed u = λ n. put₁_case (λ y. (y ≡ v.mark n) ⊎ ((live v n ≡ true) × (y ≡ f (v.mark n)))) w.mark i (f (v.mark i)) n
            (λ e. inr (rw e (q, refl))) (λ _. m.mixed n) in
            let later : (n : ℕ) → suc i ≤ n → u.mark n ≡ v.mark n =
            λ n l. put₁_case (λ y. y ≡ v.mark n) w.mark i (f (v.mark i)) n (λ e. absurd (omega arith)) (λ _. m.later n (omega arith)) in
            let here : i < g.nodes = omega arith in
            step {s = mark_store i (f (v.mark i))} pw here (done (all u m.entries mx (λ n l. later n (omega arith))) (record {
              entries = m.entries;
              new = λ n l t. put₁_case (λ y. y ≡ f (v.mark n)) w.mark i (f (v.mark i)) n (λ e. rw e refl) (λ d. m.new n (omega arith) t);
              later = later;
              dead = λ n t. put₁_case (λ y. y ≡ v.mark n) w.mark i (f (v.mark i)) n (λ e. absurd (no_both q (rw e at t))) (λ _. m.dead n t);
              mixed = mx;
            }))

    pub marks_via_to : P v → Via g P (Marking k) v (runs (mark_to v f) k)
    marks_via_to pv = via_runs Marking k (mark_to v f) turn pv
        (record { entries = refl; new = λ n l. absurd (omega arith); later = λ n l. refl; dead = λ n t. refl; mixed = λ n. inl refl })

  pub marks_via :
      (P : View → Type 0) → ((w : View) → w.entry ≡ v.entry → Mixed w → P w) → P v → Via g P (Marking g.nodes) v (marks_to g v f)
  unfolding marks_to
  marks_via P all pv = marks_via_to g.nodes (omega arith) P (λ w e m _. all w e m) pv

-- ---- code that makes the pass finds the marks that it has not come to as they were, and so all entries

module _ (g : Geometry) (f : ℕ → ℕ) (k : ℕ) (hk : k ≤ g.nodes) {left left₁ : ℕ} {t t₁ : List ℕ} (long : words_of g ≤ length t)
    (s : Stored g left (runs (mark_to (view g t) f) k) t t₁ left₁) where
  -- what the pass up to node k leaves, cut anywhere
  pub record MarksLeave (w : View) : Type 0 where
    pub entries : w.entry ≡ (view g t).entry
    pub mixed : Mixed g (view g t) f w
    pub later : (n : ℕ) → k ≤ n → w.mark n ≡ (view g t).mark n

  pub marks_leave : MarksLeave (view g t₁)
  marks_leave = subst (λ u. MarksLeave (view g u)) (sym s.table)
      (via_cut t long
      (marks_via_to g (view g t) f k hk MarksLeave (λ w e m l. record { entries = e; mixed = m; later = l })
      (record { entries = refl; mixed = λ n. inl refl; later = λ n l. refl })) left)

  -- one turn more
  pub marks_turn :
      {left₂ : ℕ} {t₂ : List ℕ} → Stored g left₁ (mark_to (view g t₁) f k) t₁ t₂ left₂ → Stored g left (runs (mark_to (view g t) f) (k + 1)) t t₂ left₂
  unfolding mark_to
  marks_turn r = loop-turns _ k s (rw (marks_leave.later k (omega arith)) at r)

-- live nodes are the same ones after it, where every new mark is that of a live node
pub marks_live : (g : Geometry) (v : View) (f : ℕ → ℕ) → ((w : ℕ) → f w ≡ 0 → ⊥) → (w : View) → Mixed g v f w → (n : ℕ) → live w n ≡ live v n
marks_live g v f new w m n = go (m n)
  where
    go : (w.mark n ≡ v.mark n) ⊎ ((live v n ≡ true) × (w.mark n ≡ f (v.mark n))) → live w n ≡ live v n
    go (inl e) = ap (λ x. not (eqb x 0)) e
    go (inr (l, e)) = ap (λ x. not (eqb x 0)) e ∙ ap not (ne_eqb (f (v.mark n)) 0 (new (v.mark n))) ∙ sym l

-- the ways of the code: a dead node, a live one
module _ (v : View) (f : ℕ → ℕ) (n : ℕ) {mark : ℕ} (h : mark ≡ v.mark n) where
  pub mark_passed : mark ≡ 0 → mark_to v f n ≡ []
  unfolding mark_to
  mark_passed d = rw (← h, eq-eqb mark 0 d) refl

  pub mark_turned : (mark ≡ 0 → ⊥) → mark_to v f n ≡ mark_store n (f (v.mark n)) ∷ []
  unfolding mark_to
  mark_turned d = ap (λ b. cond b (mark_store n (f (v.mark n)) ∷ []) []) (ap not (ne_eqb (v.mark n) 0 (λ z. d (h ∙ z))))
