-- A call that changes entries one after the other: from any view that it has reached, what holds of one entry more keeps what Kept says.
use Prim.Native.Nat.{ℕ, ◌+◌, ◌≤◌, ◌<◌}
use mathlib.Core.Path.{◌≡◌, refl, subst, ◌∙◌}
use mathlib.Core.Bool.{false, cond, ◌&&◌}
use mathlib.Core.List.{List, map}
use native.Mathlib.Omega.{arith}
use native.Mathlib.Decide.{ℕ_discrete}
use lib.Dec.{eqb}
use borrow.Author.Tests.{eq-eqb, ne_eqb}
use Rattle.counting.proofs.Laws.Counting.{sum_one_less}
use Rattle.table.specs.declared.geometry.Geometry.{Geometry}
use Rattle.table.specs.Stores.{Change, entry_store}
use Rattle.table.specs.View.{Entry, View}
use Rattle.table.proofs.Laws.Via.{Via, via_loosen}
use Rattle.table.proofs.Laws.Pass.{Steps, steps_map, Each, Changed, entry_via}
use Rattle.entries.specs.Frames.{sets_of, set_of, set_frames, frames_in, frames_at, used}
use Rattle.entries.proofs.Laws.SoundFacts.{SoundTable}
use Rattle.homes.proofs.Laws.Kept.{Live, Kept, live_test}
use Rattle.homes.proofs.Laws.FramesKept.{uses, used_no_more, used_more, used_elsewhere}
use Rattle.homes.proofs.Laws.Safe.{Safe, safe_with}
use Rattle.homes.proofs.Laws.SoundTells.{formed_at}

-- nothing stored yet
pub kept_begins : (g : Geometry) (v : View) (phase number : ℕ) → SoundTable g v phase number → Kept g v v
kept_begins g v phase number good = record {
  back = λ n b l h. refl;
  forms = formed_at g v phase number good;
  frames = λ n s l h. good.frames n s l.there h (live_test g v n l);
  marks = refl;
}

-- the frames that a call may need, at its own entry only: node n, item b
module _ (n b d : ℕ) where
  abbrev pub more_at : ℕ → ℕ → ℕ
  more_at k c = cond (eqb k n && eqb c b) d 0

  pub more_here : more_at n b ≡ d
  more_here = rw (eq-eqb n n refl, eq-eqb b b refl)

-- v at entry, u reached, w later: node n's entry of item b may use d frames more than in u
module _ (g : Geometry) (v u : View) (sofar : Kept g v u) (n b d : ℕ) (own : Live g v n) (item : b < g.items)
    (room : used g u n (set_of g b) + d ≤ set_frames g) where
  abbrev pub on_at : ℕ → ℕ → Entry → Type 0
  on_at k c e = Live g v k → c < g.items → Safe (u.entry k c) (more_at n b d k c) e

  pub kept_on : (w : View) → Each on_at v w → Kept g v w
  kept_on w s = record {
    back = λ k c l h. (s.entries k c l h).back ∙ sofar.back k c l h;
    forms = λ k c l h. (s.entries k c l h).form;
    frames = λ k t l h. elim (ℕ_discrete k n) [ yes e ↦ rw e (own_frames t h) | no q ↦ other_frames k t l h q ];
    marks = s.marks;
  }
    where
      unchanged : (k c : ℕ) → eqb k n && eqb c b ≡ false → Live g v k → c < g.items → uses g u w k c 0
      unchanged k c q l h = let f = rw q at (s.entries k c l h).frames in omega arith

      other_frames : (k t : ℕ) → Live g v k → t < sets_of g → (k ≡ n → ⊥) → used g w k t ≤ set_frames g
      other_frames k t l h q =
          let f = used_no_more g u w k t (λ c i. unchanged k c (rw (ne_eqb k n q)) l i) in
          let m = sofar.frames k t l h in
          omega arith

      own_others : (c : ℕ) → c < g.items → (c ≡ b → ⊥) → uses g u w n c 0
      own_others c h q = unchanged n c (rw (eq-eqb n n refl, ne_eqb c b q)) own h

      own_uses : uses g u w n b d
      own_uses = let q = more_here n b d in let p = (s.entries n b own item).frames in omega arith

      own_frames : (t : ℕ) → t < sets_of g → used g w n t ≤ set_frames g
      own_frames t h = elim (ℕ_discrete (set_of g b) t) [
        | yes e ↦ (let f = used_more g u w n b d own_others (set_of g b) own_uses in
            let r : used g w n (set_of g b) ≤ set_frames g = omega (arith, room) in
            subst (λ t. used g w n t ≤ set_frames g) e r)
        | no q ↦ (let f = used_elsewhere g u w n b 0 own_others t q in let m = sofar.frames n t own h in omega arith)
      ]

  begins : Each on_at v u
  begins = record { marks = sofar.marks; entries = λ k c l h. record { back = refl; form = sofar.forms k c l h; frames = omega arith } }

  -- THE LAW
  pub on_via :
      (z : Entry → Type 0) {cs : List Change} → Steps (Safe (u.entry n b) d) z (u.entry n b) cs
      → Via g (Kept g v) (Changed z n b u) u (map (entry_store n b) cs)
  on_via z {cs} h =
      let q = more_here n b d in
      via_loosen
      (entry_via g on_at v z n b own.there item u begins {cs = cs} (steps_map (λ e s _ _. safe_with (omega arith) s) (λ e x. x) h))
      kept_on

-- ---- frames given back

-- a node whose entry of item c uses d frames less, and no other more, uses d frames less in the set of that item
pub used_less :
    (g : Geometry) (v w : View) (n c d : ℕ) → c < g.items → ((i : ℕ) → i < g.items → (i ≡ c → ⊥) → uses g v w n i 0)
    → frames_in (w.entry n c).state + d ≤ frames_in (v.entry n c).state → used g w n (set_of g c) + d ≤ used g v n (set_of g c)
unfolding used frames_at
used_less g v w n c d h others e =
    sum_one_less g.items (frames_at g w n (set_of g c)) (frames_at g v n (set_of g c)) c d h (λ i l q. let u = others i l q in omega arith) e
