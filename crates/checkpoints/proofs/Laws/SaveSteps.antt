-- The steps of a save on a table that passes its checks: Open leaves the dirty items as they are; with at most one node
-- dead each Create is carried out and leaves one fewer, and none after the last; then Commit is carried out.
use Rattle.std.specs.Prelude.{Ok}
use Prim.Native.Nat.{ℕ, ◌+◌, ◌-◌, ◌^◌, ◌≤◌, ◌<◌}
use mathlib.Core.Path.{◌≡◌, refl, sym, ap, ap₂, ◌∙◌}
use mathlib.Core.Logic.{◌≢◌, inl}
use mathlib.Core.Bool.{true, false, not, ◌&&◌}
use mathlib.Core.List.{List}
use native.Mathlib.Omega.{arith}
use native.Mathlib.Decide.{ℕ_discrete, dec_lt}
use lib.Dec.{eqb, ltb}
use lib.ListN.{length}
use borrow.Author.Tests.{eq-eqb, ne_eqb, ltb-true, le-ltb}
use Rattle.counting.proofs.Laws.Tests.{both, by_cases}
use Rattle.counting.specs.Counting.{one, count, first}
use Rattle.counting.proofs.Laws.Counting.{count_ext, none_counted, sum_change, sum_count}
use Rattle.counting.proofs.Laws.First.{first_ext, first_none, first_passes, found_counted}
use Rattle.table.specs.declared.geometry.Geometry.{Geometry}
use Rattle.table.specs.Words.{phase_of, number_of, invalid}
use Rattle.table.specs.Stores.{Store, after}
use Rattle.table.specs.View.{View, view, live, current}
use Rattle.table.specs.Answers.{nothing_left, carry}
use Rattle.entries.specs.Check.{fault_of}
use Rattle.entries.specs.Dirty.{owns, owns_at, owner_of, dirty, dirty_item}
use Rattle.entries.proofs.Laws.Kinds.{created_code, Created, copy_at}
use Rattle.entries.proofs.Laws.SoundFacts.{SoundTable}
use Rattle.homes.proofs.Laws.Placed.{placed_current}
use Rattle.homes.proofs.Laws.Plans.{plan_admitted_lem}
use Rattle.homes.proofs.Laws.Kept.{live_test}
use Rattle.checkpoints.specs.Checkpoint.{common_mark, is_open, open_admission}
use Rattle.checkpoints.specs.Open.{open_stores, start_admission, open_of}
use Rattle.checkpoints.specs.Create.{create_stores, create_plan, create_of}
use Rattle.checkpoints.specs.Commit.{commit_stores, created_admission, commit_admission, commit_of}
use Rattle.checkpoints.specs.CreateRoom.{dead_nodes, dirty_items}
use Rattle.checkpoints.proofs.Laws.Created.{Pairing, Paired}
use Rattle.checkpoints.proofs.Laws.CreateVia.{owns_not}
use Rattle.checkpoints.proofs.Laws.CreateTheorem.{facts, some, create_found, create_keeps, create_created}
use Rattle.checkpoints.proofs.Laws.CreateSound.{owns_dirty, created_item}
use Rattle.checkpoints.proofs.Laws.CreateNone.{none_left_told}
use Rattle.checkpoints.proofs.Laws.CreateRoom.{partnered}
use Rattle.checkpoints.proofs.Laws.MarksSound.{common_phase, new_live}
use Rattle.checkpoints.proofs.Laws.OpenTheorem as opening
use Rattle.checkpoints.proofs.Laws.OpenSound.{open_marks, open_accepted}

-- ---- v before a call, w after it

module _ (g : Geometry) (v w : View) (lives : (n : ℕ) → n < g.nodes → live w n ≡ live v n) where
  dead_same : dead_nodes g w ≡ dead_nodes g v
  dead_same = count_ext g.nodes _ _ (λ n l. ap not (lives n l))

  -- an item that is owned where it was
  dirty_same :
      (c : ℕ) → ((n : ℕ) → n < g.nodes → owns (current (w.entry n c)) ≡ owns (current (v.entry n c)))
      → dirty g w c ≡ dirty g v c
  unfolding dirty owner_of owns_at
  dirty_same c e = ap (λ k. ltb k g.nodes) (first_ext g.nodes _ _ (λ n l. ap₂ ◌&&◌ (lives n l) (e n l)))

-- ---- Create: item b, its owner o, its partner p, the item d that p drops

module _
    (g : Geometry) (b o p d : ℕ) (v w : View) (phase number : ℕ) (good : SoundTable g v phase number)
    (f : Pairing g b o p d v) (z : Paired g b o p d v w) (made : Created w g.nodes b) where
  same_live : (n : ℕ) → live w n ≡ live v n
  same_live n = ap (λ m. not (eqb (m n) 0)) z.marks

  -- a Shared copy that is dropped was no owner's
  dropped_owns : d < g.items → owns (current (w.entry p d)) ≡ owns (current (v.entry p d))
  dropped_owns h =
      let form = good.forms p d f.partner.there h (live_test g v p f.partner) in
      ap owns
      (ap current (z.dropped h) ∙ placed_current (v.entry p d) form invalid (v.entry p d).value (omega arith))
      ∙ sym (ap owns (f.drops h))

  other_owns : (c : ℕ) → c ≢ b → (n : ℕ) → owns (current (w.entry n c)) ≡ owns (current (v.entry n c))
  other_owns c x n = elim (dec_lt d g.items) [
    | no h ↦ rest (λ l _ _. h l)
    | yes h ↦ elim (ℕ_discrete n p) [
      | no y ↦ rest (λ _ e _. y e)
      | yes y ↦ elim (ℕ_discrete c d) [ no r ↦ rest (λ _ _ e. r e) | yes r ↦ rw (y, r) (dropped_owns h) ]
    ]
  ]
    where
      rest : (d < g.items → n ≡ p → c ≡ d → ⊥) → owns (current (w.entry n c)) ≡ owns (current (v.entry n c))
      rest q = ap (λ e. owns (current e)) (z.rest n c (λ _ e. x e) (λ _ e. x e) q)

  -- a created item has no owner
  no_owner : (n : ℕ) → n < g.nodes → owns_at w b n ≡ false
  unfolding owns_at
  no_owner n l = by_cases (live w n && owns (current (w.entry n b)))
      (λ t. let k = both (live w n) t in
      absurd (owns_dirty created_code refl refl (current (w.entry n b)) k.1
      (made.others n l (copy_at w b n k.0 (owns_not _ k.1).1))))
      (λ t. t)

  not_dirty : dirty g w b ≡ false
  unfolding dirty owner_of
  not_dirty =
      ap (λ k. ltb k g.nodes) (first_none (owns_at w b) g.nodes no_owner)
      ∙ le-ltb g.nodes g.nodes (omega arith)

  one_fewer : dirty g v b ≡ true → dirty_items g w + 1 ≡ dirty_items g v
  one_fewer was =
      omega (
        arith,
        ap one was,
        ap one not_dirty,
        sum_count (dirty g v) g.items,
        sum_count (dirty g w) g.items,
        sum_change g.items (λ c. one (dirty g v c)) (λ c. one (dirty g w c)) b f.item
            (λ c x. ap one (dirty_same g v w (λ n _. same_live n) c (λ n _. other_owns c x n))),
      )

module _
    (t : List ℕ) {g : Geometry} {value : ℕ} {ss : List Store} (accepted : create_of t ≡ carry g value ss) (limit : ℕ)
    (whole : length ss ≤ limit) where
  abbrev w : View
  w = view g (after g limit ss t)

  pub create_fewer : dirty_items g w + 1 ≡ dirty_items g (view g t)
  unfolding dirty_item
  create_fewer =
      one_fewer g _ _ _ _ (view g t) w _ _ (facts t accepted).table (create_found t accepted)
      (create_created t accepted limit whole) (created_item t accepted limit whole)
      (first_passes (dirty g (view g t)) g.items (some t accepted))

  pub create_dead : dead_nodes g w ≡ dead_nodes g (view g t)
  create_dead = ap (λ m. count (λ n. not (not (eqb (m n) 0))) g.nodes) (create_keeps t accepted limit).marks

  pub create_open : is_open g w ≡ is_open g (view g t)
  unfolding is_open common_mark
  create_open =
      ap (λ m. eqb (phase_of (m (first (λ n. not (eqb (m n) 0)) g.nodes))) 1) (create_keeps t accepted limit).marks

-- ---- Open

module _
    (t : List ℕ) {g : Geometry} {value : ℕ} {ss : List Store} (accepted : open_of t ≡ carry g value ss) (limit : ℕ)
    (whole : length ss ≤ limit) where
  abbrev u : View
  u = view g (after g limit ss t)

  some_item : 0 < g.items
  some_item = omega (arith, (opening.facts t accepted).shape.sizes)

  lives : (n : ℕ) → n < g.nodes → live u n ≡ live (view g t) n
  lives =
      new_live g (view g t) u 1 _
      (open_marks g (view g t) u _ _ (opening.facts t accepted).table some_item (opening.carried t accepted).admitted
      (opening.open_keeps t accepted limit).entries (opening.open_opened t accepted limit whole))

  pub open_dirty : dirty_items g u ≡ dirty_items g (view g t)
  open_dirty =
      count_ext g.items _ _ (λ c _. dirty_same g (view g t) u lives c
      (λ n _. ap (λ f. owns (current (f n c))) (opening.open_opened t accepted limit whole).entries))

  pub open_dead : dead_nodes g u ≡ dead_nodes g (view g t)
  open_dead = dead_same g (view g t) u lives

  pub open_open : is_open g u ≡ true
  unfolding is_open
  open_open =
      eq-eqb _ 1 (common_phase g u 1 _ (open_accepted t accepted limit whole).table some_item)

-- ---- on a table that passes its checks

module _ (t : List ℕ) (g : Geometry) (passed : fault_of t ≡ Ok g) where
  abbrev v : View
  v = view g t

  -- no checkpoint is open, and a number is left
  pub open_carried :
      is_open g v ≡ false → (number : ℕ) → number < 2 ^ 32 - 1 → number_of (common_mark g v) ≡ number
      → open_of t ≡ carry g 0 (open_stores g v)
  unfolding start_admission
  open_carried shut number room e =
      plan_admitted_lem start_admission (λ g v. carry g 0 (open_stores g v)) t refl passed {a = start_admission g v} refl
      (rw (shut, ne_eqb (number_of (common_mark g v)) (2 ^ 32 - 1) (λ z. omega (arith, room, e, z))) refl)

  module _ (opened : is_open g v ≡ true) where
    admitted : open_admission g v ≡ (Ok tt)
    unfolding open_admission
    admitted = rw opened refl

    pub create_carried : dead_nodes g v ≤ 1 → 0 < dirty_items g v → create_of t ≡ carry g 0 (create_stores g v)
    unfolding create_plan dirty_item
    create_carried dead more =
        let some : ltb (dirty_item g v) g.items ≡ true =
        found_counted (dirty g v) g.items ∙ ap not (ne_eqb (dirty_items g v) 0 (λ z. omega (arith, more, z))) in
        plan_admitted_lem open_admission create_plan t refl passed {a = open_admission g v} refl admitted
        ∙ rw (some, partnered t g passed (inl dead) (ltb-true _ _ some)) refl

    module _ (none : dirty_items g v ≡ 0) where
      all_clean : (b : ℕ) → b < g.items → dirty g v b ≡ false
      all_clean = none_counted g.items (dirty g v) none

      pub create_ends : create_of t ≡ nothing_left
      create_ends = none_left_told t (record { geometry = g; passed = passed; opened = opened; clean = all_clean })

      pub commit_carried : commit_of t ≡ carry g 0 (commit_stores g v)
      unfolding created_admission dirty_item
      commit_carried =
          plan_admitted_lem commit_admission (λ g v. carry g 0 (commit_stores g v)) t refl passed {a = commit_admission g v}
          refl
          (rw (admitted, first_none (dirty g v) g.items all_clean, le-ltb g.items g.items (omega arith)) refl)
