-- Laws of `specs/View.antt`: a pass over entries.
use Prim.Native.Nat.{ℕ, suc, ◌+◌, ◌*◌, ◌/◌, ◌%◌, ◌<◌}
use mathlib.Core.Path.{◌≡◌, refl, sym, ap, ap₂, ◌∙◌}
use mathlib.Core.List.{List, [], ◌∷◌, map}
use native.Mathlib.Omega.{arith}
use native.Mathlib.Decide.{ℕ_discrete, dec_lt}
use native.Mathlib.Nat.{mod-lt, div-lt_iff_lt-mul, div-add-mod'}
use Rattle.counting.proofs.Laws.Counting.{below}
use Rattle.table.specs.declared.geometry.Geometry.{Geometry}
use Rattle.table.specs.Stores.{Change, entry_store}
use Rattle.table.specs.View.{Entry, View, changed, update, pass}
use Rattle.table.proofs.Laws.Puts.{put₂_same, put₂_other}
use Rattle.table.proofs.Laws.Via.{Via, done, step, via_weaken, via_runs}

-- one entry: p before each change and at the end, where z holds too
pub data Steps (p z : Entry → Type 0) : Entry → List Change → Type 0 where
  last : {e : Entry} → p e → z e → Steps p z e []
  next : {e : Entry} {c : Change} {cs : List Change} → p e → Steps p z (changed c e) cs → Steps p z e (c ∷ cs)

pub steps_map :
    {p p' z z' : Entry → Type 0} {e : Entry} {cs : List Change} → ((e : Entry) → p e → p' e) → ((e : Entry) → z e → z' e) → Steps p z e cs
    → Steps p' z' e cs
steps_map {e = e} f k (last p z) = last (f e p) (k e z)
steps_map {e = e} f k (next p h) = next (f e p) (steps_map f k h)

-- marks as in v, and p of every entry
pub record Each (p : ℕ → ℕ → Entry → Type 0) (v w : View) : Type 0 where
  pub marks : w.mark ≡ v.mark
  pub entries : (n b : ℕ) → p n b (w.entry n b)

-- after the changes of one entry of u: z of that entry, and the others as they were
pub record Changed (z : Entry → Type 0) (i j : ℕ) (u w : View) : Type 0 where
  pub good : z (w.entry i j)
  pub rest : (n b : ℕ) → (n ≡ i → b ≡ j → ⊥) → w.entry n b ≡ u.entry n b

-- before place k of a pass that began on u: z of the entries passed, and the others as they were
pub record Passed (nd it : ℕ → ℕ) (z : ℕ → Entry → Type 0) (u : View) (k : ℕ) (w : View) : Type 0 where
  pub good : (d : ℕ) → d < k → z d (w.entry (nd d) (it d))
  pub rest : (n b : ℕ) → ((d : ℕ) → d < k → n ≡ nd d → b ≡ it d → ⊥) → w.entry n b ≡ u.entry n b

-- the place (i, j), or another
here_or : (P : ℕ → ℕ → Type 0) (i j n b : ℕ) → P i j → ((n ≡ i → b ≡ j → ⊥) → P n b) → P n b
here_or P i j n b p f =
    elim (ℕ_discrete n i) [ no d ↦ f (λ q _. d q) | yes q ↦ elim (ℕ_discrete b j) [ no d ↦ f (λ _ r. d r) | yes r ↦ rw (q, r) p ] ]

module _ (g : Geometry) (p : ℕ → ℕ → Entry → Type 0) (v : View) where
  module _ (z : Entry → Type 0) (i j : ℕ) (hi : i < g.nodes) (hj : j < g.items) (u : View) (eu : Each p v u) where
    changed_each :
        (w : View) → w.mark ≡ v.mark → ((n b : ℕ) → (n ≡ i → b ≡ j → ⊥) → w.entry n b ≡ u.entry n b) → {e : Entry} → p i j e
        → w.entry i j ≡ e → Each p v w
    changed_each w m r pe q =
        record { marks = m; entries = λ n b. here_or (λ n b. p n b (w.entry n b)) i j n b (rw q pe) (λ d. rw (r n b d) (eu.entries n b)) }

    changes_via :
        (w : View) → w.mark ≡ v.mark → ((n b : ℕ) → (n ≡ i → b ≡ j → ⊥) → w.entry n b ≡ u.entry n b) → {e : Entry} {cs : List Change}
        → Steps (p i j) z e cs → w.entry i j ≡ e → Via g (Each p v) (Changed z i j u) w (map (entry_store i j) cs)
    changes_via w m r (last pe ze) q = done (changed_each w m r pe q) (record { good = rw q ze; rest = r })
    changes_via w m r (next {c = c} pe h) q =
        step {s = entry_store i j c} (changed_each w m r pe q) (hi, hj)
        (changes_via (update (entry_store i j c) w) m
        (λ n b d. put₂_other w.entry i j (changed c (w.entry i j)) n b d ∙ r n b d)
        h (put₂_same w.entry i j (changed c (w.entry i j)) ∙ ap (changed c) q))

    -- one entry: what is shown of it and its changes holds of the table before each
    pub entry_via : {cs : List Change} → Steps (p i j) z (u.entry i j) cs → Via g (Each p v) (Changed z i j u) u (map (entry_store i j) cs)
    entry_via h = changes_via u eu.marks (λ n b d. refl) h refl

  module _ (nd it : ℕ → ℕ) (places : ℕ)
      (within : (k : ℕ) → k < places → (nd k < g.nodes) × (it k < g.items))
      (once : (k d : ℕ) → k < places → d < places → nd k ≡ nd d → it k ≡ it d → k ≡ d)
      (z : ℕ → Entry → Type 0) (changes : ℕ → List Change) (u : View)
      (local : (k : ℕ) → k < places → Steps (p (nd k) (it k)) (z k) (u.entry (nd k) (it k)) (changes k)) where
    turn : (k : ℕ) → k < places → (w : View) → Each p v w → Passed nd it z u k w
        → Via g (Each p v) (Passed nd it z u (suc k)) w (map (entry_store (nd k) (it k)) (changes k))
    turn k hk w ew pw = via_weaken
        (entry_via (z k) (nd k) (it k) (within k hk).0 (within k hk).1 w ew {cs = changes k}
        (rw (pw.rest (nd k) (it k) (λ d l e e'. earlier d l (once k d hk (omega arith) e e'))) (local k hk)))
        (λ w' _ f. record {
          good = λ d l. below (λ d. z d (w'.entry (nd d) (it d))) l
              (λ l. rw (f.rest (nd d) (it d) (λ e e'. earlier d l (once k d hk (omega arith) (sym e) (sym e')))) (pw.good d l)) f.good;
          rest = λ n b h. f.rest n b (h k (omega arith)) ∙ pw.rest n b (λ d l. h d (omega arith));
        })
      where
        earlier : (d : ℕ) → d < k → k ≡ d → ⊥
        earlier d l e = omega arith

    -- THE LAW: what is shown of one entry and its own changes holds of the table before every store of the pass
    pub pass_via : Each p v u → Via g (Each p v) (Passed nd it z u places) u (pass nd it changes places)
    pass_via eu = via_runs (Passed nd it z u) places _ turn eu (record { good = λ d l. absurd (omega arith); rest = λ n b h. refl })

-- ---- by item, then node: place k is item k / N, node k % N, of the b items before item b

pub columns_within : (N b k : ℕ) → k < b * N → (k % N < N) × (k / N < b)
columns_within N b k h =
    elim (dec_lt 0 N) [
      | yes s ↦ (mod-lt k s, (div-lt_iff_lt-mul s).1 h)
      | no s ↦ absurd (let z : N ≡ 0 = omega arith in let h' : k < b * 0 = rw z at h in omega arith)
    ]

-- ---- by node, then item: place k is node k / M, item k % M

pub grid_within : (g : Geometry) (k : ℕ) → k < g.nodes * g.items → (k / g.items < g.nodes) × (k % g.items < g.items)
grid_within g k h = let r = columns_within g.items g.nodes k h in (r.1, r.0)

pub grid_once : (M k d : ℕ) → k / M ≡ d / M → k % M ≡ d % M → k ≡ d
grid_once M k d p q = sym (div-add-mod' k M) ∙ ap₂ (λ x y. x * M + y) p q ∙ div-add-mod' d M
