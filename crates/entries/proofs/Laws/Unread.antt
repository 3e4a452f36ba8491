-- "A dead node's words, mark apart, are never read": views that have the same marks, and the same entries of live nodes,
-- are sound or not alike, and show the same frames, owners and dirty items.
use Rattle.std.specs.Prelude.{Err, Ok, Result}
use mathlib.Core.Path.{◌≡◌, refl, sym, ap, ap₂, ◌∙◌, fun_ext}
use mathlib.Core.Bool.{Bool, true, false, cond, not, ◌&&◌, ◌||◌}
use mathlib.Core.List.{List, [], ◌∷◌}
use Prim.Native.Nat.{ℕ, ◌≤◌}
use native.Mathlib.Omega.{arith}
use native.Mathlib.Decide.{dec_lt}
use lib.Dec.{leb, eqb, ltb}
use borrow.Author.Tests.{eqb-true}
use Rattle.counting.proofs.Laws.Tests.{both, and_same, by_cases}
use Rattle.counting.specs.Counting.{count, first}
use Rattle.counting.proofs.Laws.Counting.{every_ext, sum_ext, count_ext}
use Rattle.counting.proofs.Laws.First.{first_ext, first_passes}
use Rattle.counting.proofs.Laws.Values.{values_ext}
use Rattle.table.specs.declared.answers.Refusal.{Refusal}
use Rattle.table.specs.declared.geometry.Geometry.{Geometry}
use Rattle.table.specs.declared.answers.Refusal.TheVariants.{NotSound}
use Rattle.table.specs.Words.{state_form}
use Rattle.table.specs.Stores.{Store, size_store, mark_store, entry_store}
use Rattle.table.specs.View.{Entry, View, view, live, current, kept, changed, put₂, update, updates}
use Rattle.entries.specs.Frames.{sets_of, set_of, set_frames, frames_at, used, frames_fit, frame_free}
use Rattle.entries.specs.Tally.{counts_of, has, has_kept, copy, kept_copy, item_test}
use Rattle.entries.specs.Dirty.{owns, owns_at, owner_of, dirty, dirty_item}
use Rattle.entries.specs.Sound.{marks_form, phases_of, points_of, marks_agree, states_form, node_sound, nodes_sound, item_sound, items_sound, sound}
use Rattle.entries.specs.Check.{sizes_of, sound_of, fault_of}

-- a view with other entries
abbrev pub over : View → (ℕ → ℕ → Entry) → View
over v e = record { mark = v.mark; entry = e }

-- entries that are the view's own but for those of dead nodes
pub record Agrees (g : Geometry) (v : View) (e : ℕ → ℕ → Entry) : Type 0 where
  pub alive : (n b : ℕ) → live v n ≡ true → e n b ≡ v.entry n b
  pub outside : (n b : ℕ) → g.nodes ≤ n → e n b ≡ v.entry n b

-- ---- tests that look only where a first test holds

or_same : (a x y : Bool) → (a ≡ true → x ≡ y) → (not a || x) ≡ (not a || y)
or_same true x y f = f refl
or_same false x y f = refl

module _ (g : Geometry) (v : View) (e : ℕ → ℕ → Entry) (s : Agrees g v e) where
  -- a test of a live node's entry of item b
  pub same_test : (b : ℕ) (f : Entry → Bool) (n : ℕ) → (live v n && f (e n b)) ≡ (live v n && f (v.entry n b))
  same_test b f n = and_same (live v n) (f (e n b)) (f (v.entry n b)) (λ t. ap f (s.alive n b t))

  -- the first node whose live entry of item b passes a test, and its entry
  pub same_first :
      (b : ℕ) (f : Entry → Bool)
      → first (λ n. live v n && f (e n b)) g.nodes ≡ first (λ n. live v n && f (v.entry n b)) g.nodes
  same_first b f = first_ext g.nodes _ _ (λ n l. same_test b f n)

  pub same_found :
      (f : ℕ → Bool) → ((n : ℕ) → f n ≡ true → live v n ≡ true)
      → (b : ℕ) → e (first f g.nodes) b ≡ v.entry (first f g.nodes) b
  same_found f h b = elim (dec_lt (first f g.nodes) g.nodes) [
    | yes l ↦ s.alive (first f g.nodes) b (h _ (first_passes f g.nodes l))
    | no l ↦ s.outside (first f g.nodes) b (omega arith)
  ]

  -- ---- what is counted of an item

  pub same_counts : (b : ℕ) → counts_of (over v e) b g.nodes ≡ counts_of v b g.nodes
  same_counts b =
      let N = g.nodes in
      let w = over v e in
      let c : ◌≡◌ {A = ℕ → ℕ} (λ code. count (has w b code) N) (λ code. count (has v b code) N) =
      fun_ext λ code. count_ext N (has w b code) (has v b code) (λ n l. same_test b (λ x. eqb (current x) code) n) in
      let q : ◌≡◌ {A = ℕ → ℕ} (λ code. count (has_kept w b code) N) (λ code. count (has_kept v b code) N) =
      fun_ext λ code.
      count_ext N (has_kept w b code) (has_kept v b code) (λ n l. same_test b (λ x. eqb (kept x) code) n) in
      let n = count_ext N (copy w b) (copy v b) (λ n l. same_test b (λ x. not (eqb (current x) 0)) n) in
      let x = values_ext N (copy v b) (copy w b) (λ n. (v.entry n b).value) (λ n. (e n b).value)
      (λ n l. same_test b (λ x. not (eqb (current x) 0)) n)
      (λ n l t. ap (λ x. x.value) (s.alive n b (both (live v n) t).0)) in
      let y = values_ext N (kept_copy v b) (kept_copy w b) (λ n. (v.entry n b).kept_value) (λ n. (e n b).kept_value)
      (λ n l. same_test b (λ x. not (eqb (kept x) 0)) n)
      (λ n l t. ap (λ x. x.kept_value) (s.alive n b (both (live v n) t).0)) in
      λ i. record { current = c i; kept = q i; copies = n i; values = x i; keeps = y i }

  pub same_owner : (b : ℕ) → owner_of g (over v e) b ≡ owner_of g v b
  unfolding owner_of owns_at
  same_owner b = same_first b (λ x. owns (current x))

  pub same_dirty : dirty_item g (over v e) ≡ dirty_item g v
  unfolding dirty_item dirty
  same_dirty = first_ext g.items _ _ (λ b l. ap (λ n. ltb n g.nodes) (same_owner b))

  -- ---- frames of a live node

  pub same_used : (n x : ℕ) → live v n ≡ true → used g (over v e) n x ≡ used g v n x
  unfolding used frames_at
  same_used n x t = sum_ext g.items (frames_at g (over v e) n x) (frames_at g v n x) (λ b k. rw (s.alive n b t) refl)

  pub same_free : (n b : ℕ) → live v n ≡ true → frame_free g (over v e) n b ≡ frame_free g v n b
  same_free n b t = ap (λ u. ltb u (set_frames g)) (same_used n (set_of g b) t)

  -- ---- soundness

  same_node : (n : ℕ) → node_sound g (over v e) n ≡ node_sound g v n
  unfolding node_sound states_form frames_fit
  same_node n = or_same (live v n) _ _ (λ t. ap₂ (λ (x y : Bool). x && y)
      (every_ext g.items (λ b. state_form (e n b).state) (λ b. state_form (v.entry n b).state)
      (λ b k. ap (λ x. state_form x.state) (s.alive n b t)))
      (every_ext (sets_of g) (λ x. leb (used g (over v e) n x) (set_frames g)) (λ x. leb (used g v n x) (set_frames g))
      (λ x _. ap (λ u. leb u (set_frames g)) (same_used n x t))))

  pub same_nodes : nodes_sound g (over v e) ≡ nodes_sound g v
  unfolding nodes_sound
  same_nodes = every_ext g.nodes (node_sound g (over v e)) (node_sound g v) (λ n l. same_node n)

  pub same_sound : sound g (over v e) ≡ sound g v
  unfolding sound items_sound item_sound marks_form phases_of points_of
  same_sound =
      ap (λ (x : Bool). marks_form v g.nodes && (marks_agree (phases_of v g.nodes) (points_of v g.nodes) && x))
      (ap₂ (λ (x y : Bool). x && y) same_nodes
      (every_ext g.items _ _ (λ b k. ap (item_test (phases_of v g.nodes).first) (same_counts b))))

-- ---- stores on two such views

-- the marks that they leave
updates_marks : (ss : List Store) (v : View) (e : ℕ → ℕ → Entry) → (updates ss (over v e)).mark ≡ (updates ss v).mark
updates_marks [] v e = refl
updates_marks (size_store h ∷ ss) v e = updates_marks ss v e
updates_marks (mark_store n w ∷ ss) v e = updates_marks ss (update (mark_store n w) v) e
updates_marks (entry_store n b c ∷ ss) v e =
    updates_marks ss (update (entry_store n b c) v) (put₂ e n b (changed c (e n b)))

-- and the entries of a node, where they agree
updates_entry :
    (ss : List Store) (v : View) (e : ℕ → ℕ → Entry) (n : ℕ) → ((b : ℕ) → e n b ≡ v.entry n b)
    → (b : ℕ) → (updates ss (over v e)).entry n b ≡ (updates ss v).entry n b
updates_entry [] v e n h b = h b
updates_entry (size_store k ∷ ss) v e n h b = updates_entry ss v e n h b
updates_entry (mark_store m w ∷ ss) v e n h b = updates_entry ss (update (mark_store m w) v) e n h b
updates_entry (entry_store m d c ∷ ss) v e n h b =
    updates_entry ss (update (entry_store m d c) v) (put₂ e m d (changed c (e m d))) n put_same b
  where
    put_same : (b : ℕ) → put₂ e m d (changed c (e m d)) n b ≡ put₂ v.entry m d (changed c (v.entry m d)) n b
    put_same b = by_cases (eqb n m && eqb b d)
        (λ q. let p = eqb-true n m (both (eqb n m) q).0 in rw q (ap (λ x. changed c x) (rw p at (h d))))
        (λ q. rw q (h b))

module _ (g : Geometry) (v : View) (e : ℕ → ℕ → Entry) (ss : List Store) where
  pub updates_over : updates ss (over v e) ≡ over (updates ss v) (updates ss (over v e)).entry
  updates_over = λ i. record { mark = updates_marks ss v e i; entry = (updates ss (over v e)).entry }

  pub updates_agree :
      (updates ss v).mark ≡ v.mark → Agrees g v e → Agrees g (updates ss v) (updates ss (over v e)).entry
  updates_agree m s = record {
    alive = λ n b t. updates_entry ss v e n (λ d. s.alive n d (ap (λ (f : ℕ → ℕ). not (eqb (f n) 0)) (sym m) ∙ t)) b;
    outside = λ n b l. updates_entry ss v e n (λ d. s.outside n d l) b;
  }

-- ---- tables

-- tables of the same sizes, whose views differ in nothing but dead nodes' entries
pub record Alike (t t' : List ℕ) : Type 0 where
  pub sizes : sizes_of t' ≡ sizes_of t
  pub marks : (g : Geometry) → sizes_of t ≡ Ok g → (view g t').mark ≡ (view g t).mark
  pub entries : (g : Geometry) → sizes_of t ≡ Ok g → Agrees g (view g t) (view g t').entry

-- the other's view
pub alike_view :
    (g : Geometry) {t t' : List ℕ} → Alike t t' → sizes_of t ≡ Ok g → view g t' ≡ over (view g t) (view g t').entry
alike_view g {t' = t'} a h = λ i. record { mark = a.marks g h i; entry = (view g t').entry }

-- they pass the table checks alike
pub alike_fault : {t t' : List ℕ} → Alike t t' → fault_of t' ≡ fault_of t
unfolding fault_of sound_of
alike_fault {t} {t'} a = ap (sound_of t') a.sizes ∙ go (sizes_of t) refl
  where
    go : (c : Result Geometry Refusal) → sizes_of t ≡ c → sound_of t' c ≡ sound_of t c
    go (Err x) h = refl
    go (Ok g) h =
        ap (λ q. cond q (Ok g) (Err NotSound))
        (ap (sound g) (alike_view g a h) ∙ same_sound g (view g t) (view g t').entry (a.entries g h))
