-- Stores that change one entry only: before each the others are as they were, and the frames of every node stay within bounds.
use Prim.Native.Nat.{ℕ, ◌+◌, ◌≤◌, ◌<◌}
use mathlib.Core.Path.{◌≡◌, refl, ap, ◌∙◌, subst}
use mathlib.Core.List.{List, map}
use mathlib.Core.Bool.{true}
use native.Mathlib.Omega.{arith}
use native.Mathlib.Decide.{ℕ_discrete}
use Rattle.table.specs.declared.geometry.Geometry.{Geometry}
use Rattle.table.specs.Words.{state_form}
use Rattle.table.specs.Stores.{Change, entry_store}
use Rattle.table.specs.View.{Entry, View}
use Rattle.table.proofs.Laws.Via.{Via, via_loosen}
use Rattle.table.proofs.Laws.Pass.{Steps, last, next, steps_map, Changed, entry_via}
use Rattle.entries.specs.Frames.{sets_of, set_of, set_frames, frames_in, used}
use Rattle.homes.proofs.Laws.KeptOn.{used_less as used-less-by}
use Rattle.homes.proofs.Laws.Kept.{Live, Held}
use Rattle.homes.proofs.Laws.FramesKept.{uses, used_no_more, used_more, used_elsewhere}

-- ---- one entry changes

-- q of the entry (i, j) of w; the others, and the marks, as in u
pub record OneAt (q : Entry → Type 0) (i j : ℕ) (u w : View) : Type 0 where
  pub marks : w.mark ≡ u.mark
  pub here : q (w.entry i j)
  pub rest : (k c : ℕ) → (k ≡ i → c ≡ j → ⊥) → w.entry k c ≡ u.entry k c

steps_first : {q z : Entry → Type 0} {e : Entry} {cs : List Change} → Steps q z e cs → q e
steps_first (last p z) = p
steps_first (next p h) = p

module _ (g : Geometry) (q z : Entry → Type 0) (i j : ℕ) (hi : i < g.nodes) (hj : j < g.items) (u : View) where
  record Apart (k c : ℕ) (e : Entry) : Type 0 where
    same : (k ≡ i → c ≡ j → ⊥) → e ≡ u.entry k c
    one : k ≡ i → c ≡ j → q e

  pub one_via : {cs : List Change} → Steps q z (u.entry i j) cs → Via g (OneAt q i j u) (Changed z i j u) u (map (entry_store i j) cs)
  one_via h =
      via_loosen
      (entry_via g Apart u z i j hi hj u
      (record { marks = refl; entries = λ k c. record { same = λ _. refl; one = λ p p'. rw (p, p') (steps_first h) } })
      (steps_map (λ e p. record { same = λ d. absurd (d refl refl); one = λ _ _. p }) (λ e p. p) h))
      (λ w e. record { marks = e.marks; here = (e.entries i j).one refl refl; rest = λ k c d. (e.entries k c).same d })

-- ---- forms and frames

module _ (g : Geometry) (v u w : View) (held : Held g v u) (i j d : ℕ) (own : Live g v i) (item : j < g.items)
    (room : used g u i (set_of g j) + d ≤ set_frames g) (marks : w.mark ≡ u.mark) (form : state_form (w.entry i j).state ≡ true)
    (more : frames_in (w.entry i j).state ≤ frames_in (u.entry i j).state + d)
    (rest : (k c : ℕ) → (k ≡ i → c ≡ j → ⊥) → w.entry k c ≡ u.entry k c) where
  same_uses : (k c : ℕ) → (k ≡ i → c ≡ j → ⊥) → uses g u w k c 0
  same_uses k c q = let e = ap (λ e. frames_in e.state) (rest k c q) in omega arith

  -- d frames more at one entry, where so many are free
  pub one_held : Held g v w
  one_held = record {
    marks = marks ∙ held.marks;
    forms = λ k c l h. elim (ℕ_discrete k i) [
      | no p ↦ rw (rest k c (λ e _. p e)) (held.forms k c l h)
      | yes p ↦ elim (ℕ_discrete c j) [ no q ↦ rw (rest k c (λ _ e. q e)) (held.forms k c l h) | yes q ↦ rw (p, q) form ]
    ];
    frames = λ k s l h. elim (ℕ_discrete k i) [ no p ↦ other k s l h p | yes p ↦ rw p (here s h) ];
  }
    where
      other : (k s : ℕ) → Live g v k → s < sets_of g → (k ≡ i → ⊥) → used g w k s ≤ set_frames g
      other k s l h p =
          let f = used_no_more g u w k s (λ c _. same_uses k c (λ e _. p e)) in
          let m = held.frames k s l h in
          omega arith

      here : (s : ℕ) → s < sets_of g → used g w i s ≤ set_frames g
      here s h = elim (ℕ_discrete (set_of g j) s) [
        | yes e ↦ (let f = used_more g u w i j d (λ c _ q. same_uses i c (λ _ e. q e)) (set_of g j) more in
            let x : used g w i (set_of g j) ≤ set_frames g = omega (arith, room) in
            subst (λ s. used g w i s ≤ set_frames g) e x)
        | no q ↦ (let f = used_elsewhere g u w i j 0 (λ c _ q. same_uses i c (λ _ e. q e)) s q in let m = held.frames i s own h in omega arith)
      ]

-- ---- an entry that leaves a frame

-- items j and b are of one set
pub used_less :
    (g : Geometry) (u w : View) (i j b : ℕ) → j < g.items → ((c : ℕ) → (c ≡ j → ⊥) → w.entry i c ≡ u.entry i c)
    → frames_in (w.entry i j).state + 1 ≤ frames_in (u.entry i j).state → used g w i (set_of g b) + 1 ≤ used g u i (set_of g b)
used_less g u w i j b h rest l =
    used-less-by g u w i j 1 h (λ c _ q. let e = ap (λ e. frames_in e.state) (rest c q) in omega arith) l
