-- "A dead node's words, mark apart, are never read", by Recover, nor a lost node's, mark included: its plan does not rest
-- on them. Each stage finds views that agree as the first one does, for only the last one stores marks.
use Rattle.std.specs.Prelude.{Err, Ok, Option, Result}
use Prim.Native.Nat.{ℕ, zero, suc, ◌-◌, ◌*◌, ◌/◌, ◌%◌, ◌≤◌}
use mathlib.Core.Path.{◌≡◌, refl, ap, ap₂, ◌∙◌}
use mathlib.Core.Bool.{Bool, not, ◌&&◌}
use mathlib.Core.List.{List, ◌++◌, map}
use native.Mathlib.Omega.{arith}
use lib.Dec.{eqb}
use Rattle.counting.specs.Counting.{count}
use Rattle.counting.specs.Values.{Values}
use Rattle.counting.proofs.Laws.Counting.{every_ext, count_ext}
use Rattle.counting.proofs.Laws.Cyclic.{first_after_ext}
use Rattle.counting.proofs.Laws.Tests.{both, and_same, by_cases}
use Rattle.counting.proofs.Laws.Values.{values_ext}
use Rattle.table.specs.declared.geometry.Geometry.{Geometry}
use Rattle.table.specs.declared.answers.Refusal.{Refusal}
use Rattle.table.specs.Words.{invalid}
use Rattle.table.specs.Stores.{Store, size_store, mark_store, entry_store}
use Rattle.table.proofs.Laws.Stores.{All, none, more, runs_ext}
use Rattle.table.specs.View.{Entry, View, view, live, current, update, updates, mark_to, marks_to}
use Rattle.table.specs.Copies.{copy_number, copy_value}
use Rattle.table.specs.Answers.{Plan, carry}
use Rattle.entries.specs.Check.{sizes_of}
use Rattle.entries.specs.Tally.{has, copy}
use Rattle.entries.specs.Sound.{marks_form}
use Rattle.entries.proofs.Laws.Unread.{over, Agrees, same_test, same_first, same_found, same_free, same_nodes, updates_over, updates_agree}
use Rattle.homes.specs.Admission.{Admission, plan_admitted}
use Rattle.checkpoints.proofs.Laws.Unread.{same_entries_to}
use Rattle.survivors.specs.Survivors.{lost_stores, survivors, survivor_count, too_few, largest_number, closing_stores}
use Rattle.survivors.specs.Direction.{forward_in}
use Rattle.recovery.specs.Sides.{copy_on, has_copy, copies_on, item_fits, items_fit, roll_change, roll_stores}
use Rattle.recovery.specs.Numbering.{holders, number_at, number_change, number_stores, single, holder_of, takes}
use Rattle.recovery.specs.Numbering.{partner_of, partner_from, partner_stores, staged, partners_stores}
use Rattle.recovery.specs.Recover.{followed, survivor_stores, recover_stores, survivors_formed, recover_admission, recover_checked, recover_of}
use Rattle.recovery.proofs.Laws.Followed.{Entered}
use Rattle.recovery.proofs.Laws.PartnersCode.{entered_staged, entered_partners}
use Rattle.recovery.proofs.Laws.RecoverStages.{entered_roll, entered_number}

module _ (g : Geometry) (w : View) (e : ℕ → ℕ → Entry) (s : Agrees g w e) where
  -- ---- what is refused

  same_copies : (forward : Bool) (b : ℕ) → copies_on g forward (over w e) b ≡ copies_on g forward w b
  unfolding copies_on
  same_copies forward b =
      values_ext g.nodes (has_copy forward w b) (has_copy forward (over w e) b)
      (λ n. copy_value (copy_on forward (w.entry n b))) (λ n. copy_value (copy_on forward (e n b)))
      (λ n l. same_test g w e s b (λ x. not (eqb (copy_number (copy_on forward x)) 0)) n)
      (λ n l t. ap (λ x. copy_value (copy_on forward x)) (s.alive n b (both (live w n) t).0))

  same_fit : items_fit g (over w e) ≡ items_fit g w
  unfolding items_fit item_fits forward_in
  same_fit = every_ext g.items _ _ (λ b l. ap (λ (x : Values). x.seen && x.equal) (same_copies (forward_in g w) b))

  same_formed : survivors_formed g (over w e) ≡ survivors_formed g w
  unfolding survivors_formed marks_form
  same_formed = ap (λ (x : Bool). marks_form w g.nodes && x) (same_nodes g w e s)

  same_admission :
      (lost : Option ℕ) (scratch : ℕ) → recover_admission g (over w e) lost scratch ≡ recover_admission g w lost scratch
  unfolding recover_admission too_few survivor_count
  same_admission lost scratch = rw (same_formed, same_fit) refl

  -- ---- the stages

  same_roll : roll_stores g (over w e) ≡ roll_stores g w
  unfolding roll_stores forward_in
  same_roll = same_entries_to g w e s (roll_change (forward_in g w))

  same_has : (b code n : ℕ) → count (has (over w e) b code) n ≡ count (has w b code) n
  same_has b code n = count_ext n _ _ (λ m l. same_test g w e s b (λ x. eqb (current x) code) m)

  same_holders : (b number n : ℕ) → holders (over w e) b number n ≡ holders w b number n
  unfolding holders
  same_holders b number n = same_has b _ n

  same_number : (n b : ℕ) → number_change g (over w e) n b ≡ number_change g w n b
  unfolding number_change
  same_number n b = by_cases (live w n)
      (λ t. rw (s.alive n b t, same_holders b (number_at w n b) n, same_holders b (3 - number_at w n b) g.nodes) refl)
      (λ t. rw t refl)

  same_numbers : number_stores g (over w e) ≡ number_stores g w
  unfolding number_stores
  same_numbers =
      runs_ext (g.items * g.nodes) _ _
      (λ k l. ap (map (entry_store (k % g.nodes) (k / g.nodes))) (same_number (k % g.nodes) (k / g.nodes)))

  same_single : (b : ℕ) → single g (over w e) b ≡ single g w b
  unfolding single
  same_single b =
      ap (λ n. eqb n 1) (count_ext g.nodes _ _ (λ n l. same_test g w e s b (λ x. not (eqb (current x) 0)) n))

  same_holder : (b : ℕ) → holder_of g (over w e) b ≡ holder_of g w b
  unfolding holder_of
  same_holder b = same_first g w e s b (λ x. not (eqb (current x) 0))

  same_held : (b : ℕ) → e (holder_of g w b) b ≡ w.entry (holder_of g w b) b
  unfolding holder_of
  same_held b = same_found g w e s (copy w b) (λ n h. (both (live w n) h).0) b

  same_takes : (b n : ℕ) → takes g (over w e) b n ≡ takes g w b n
  unfolding takes
  same_takes b n =
      and_same (live w n) _ _
      (λ t. ap₂ (λ (x : Entry) (free : Bool). eqb (current x) invalid && free) (s.alive n b t) (same_free g w e s n b t))

  same_partner_of : (b n : ℕ) → partner_of g (over w e) b n ≡ partner_of g w b n
  unfolding partner_of
  same_partner_of b n = first_after_ext _ _ g.nodes n (λ m l. same_takes b m)

  same_partner : (b : ℕ) → partner_stores g b (over w e) ≡ partner_stores g b w
  unfolding partner_stores partner_from
  same_partner b = rw (same_single b, same_holder b, same_partner_of b (holder_of g w b), same_held b) refl

  same_closing : closing_stores g (over w e) ≡ closing_stores g w
  unfolding closing_stores largest_number marks_to mark_to
  same_closing = refl

-- ---- the stages one after the other

-- stores in entries leave the marks
entered_marks : (g : Geometry) {ss : List Store} (v : View) → All (Entered g) ss → (updates ss v).mark ≡ v.mark
entered_marks g v none = refl
entered_marks g v (more {s = size_store h} p a) = absurd p
entered_marks g v (more {s = mark_store n x} p a) = absurd p
entered_marks g v (more {s = entry_store n b c} p a) = entered_marks g (update (entry_store n b c) v) a

-- a stage that stores the same in views that agree
abbrev Steady : Geometry → (View → List Store) → Type 0
Steady g f = (w : View) (e : ℕ → ℕ → Entry) → Agrees g w e → f (over w e) ≡ f w

module _ (g : Geometry) where
  -- one stage, and then another
  then_steady : (f h : View → List Store) → Steady g f → ((w : View) → All (Entered g) (f w)) → Steady g h
      → (w : View) (e : ℕ → ℕ → Entry) → Agrees g w e → h (updates (f (over w e)) (over w e)) ≡ h (updates (f w) w)
  then_steady f h p entered q w e s =
      ap (λ (ss : List Store). h (updates ss (over w e))) (p w e s) ∙ ap h (updates_over g w e (f w))
      ∙ q (updates (f w) w) (updates (f w) (over w e)).entry
      (updates_agree g w e (f w) (entered_marks g w (entered w)) s)

  followed_steady :
      (f h : View → List Store) → Steady g f → ((w : View) → All (Entered g) (f w)) → Steady g h → Steady g (followed f h)
  unfolding followed
  followed_steady f h p entered q w e s =
      ap₂ (λ (xs ys : List Store). xs ++ ys) (p w e s) (then_steady f h p entered q w e s)

  staged_steady : (i : ℕ) → i ≤ g.items → Steady g (staged (partner_stores g) i)
  unfolding staged
  staged_steady zero h w e s = refl
  staged_steady (suc i) h w e s =
      let p = staged_steady i (omega arith) in
      ap₂ (λ (xs ys : List Store). xs ++ ys) (p w e s)
      (then_steady (staged (partner_stores g) i) (partner_stores g i) p (λ u. entered_staged g i u (omega arith))
      (λ u f k. same_partner g u f k i) w e s)

  partners_steady : Steady g (partners_stores g)
  unfolding partners_stores
  partners_steady = staged_steady g.items (omega arith)

  stores_steady : Steady g (survivor_stores g)
  unfolding survivor_stores
  stores_steady =
      followed_steady _ _ (same_roll g) (entered_roll g)
      (followed_steady _ _ (same_numbers g) (entered_number g)
      (followed_steady _ _ partners_steady (entered_partners g) (same_closing g)))

-- ---- the plan

-- tables of the same sizes, whose survivors' views differ in nothing but the entries of nodes that do not survive
pub record AlikeBut (lost : Option ℕ) (t t' : List ℕ) : Type 0 where
  pub sizes : sizes_of t' ≡ sizes_of t
  pub views :
      (g : Geometry) → sizes_of t ≡ Ok g
      → survivors lost (view g t') ≡ over (survivors lost (view g t)) (view g t').entry
  pub entries : (g : Geometry) → sizes_of t ≡ Ok g → Agrees g (survivors lost (view g t)) (view g t').entry

pub recover_alike :
    (lost : Option ℕ) (scratch : ℕ) {t t' : List ℕ} → AlikeBut lost t t'
    → recover_of t' lost scratch ≡ recover_of t lost scratch
unfolding recover_of recover_checked recover_stores
recover_alike lost scratch {t} {t'} a = ap (recover_checked t' lost scratch) a.sizes ∙ go (sizes_of t) refl
  where
    planned : Geometry → View → Plan
    planned g w = plan_admitted (recover_admission g w lost scratch) (carry g 0 (lost_stores lost ++ survivor_stores g w))

    go : (c : Result Geometry Refusal) → sizes_of t ≡ c → recover_checked t' lost scratch c ≡ recover_checked t lost scratch c
    go (Err x) h = refl
    go (Ok g) h =
        let w = survivors lost (view g t) in
        let e = (view g t').entry in
        ap (planned g) (a.views g h)
        ∙ ap₂ (λ (c : Admission) (ss : List Store). plan_admitted c (carry g 0 (lost_stores lost ++ ss)))
        (same_admission g w e (a.entries g h) lost scratch) (stores_steady g w e (a.entries g h))
