-- Rolling on a view: however it is cut the table is as ready as at the start; at the end all entries of survivors are plain.
use Prim.Native.Nat.{ℕ, ◌≤◌, ◌<◌}
use mathlib.Core.Path.{refl, sym, ap, ◌∙◌}
use native.Mathlib.Omega.{arith}
use Rattle.table.specs.declared.geometry.Geometry.{Geometry}
use Rattle.table.specs.View.{View}
use Rattle.table.specs.Copies.{copy_number, copy_value}
use Rattle.table.proofs.Laws.Via.{Via, via_loosen, via_weaken}
use Rattle.table.proofs.Laws.Pass.{Each}
use Rattle.entries.specs.Frames.{sets_of, set_frames, used}
use Rattle.homes.proofs.Laws.Kept.{Live}
use Rattle.homes.proofs.Laws.FramesKept.{used_no_more}
use Rattle.checkpoints.proofs.Laws.LivePass.{live_each, entries_via}
use Rattle.survivors.specs.Direction.{forward_in}
use Rattle.recovery.specs.Sides.{roll_change, roll_stores}
use Rattle.recovery.proofs.Laws.Ready.{Sided, Ready, Going, Plain}
use Rattle.recovery.proofs.Laws.SameMarks.{same_live, live_same, same_going}
use Rattle.recovery.proofs.Laws.PlainSides.{plain_copied, copied_plain, plain_value}
use Rattle.recovery.proofs.Laws.RollEntry.{SafeOn, Rolled, roll_steps}

module _ (g : Geometry) (saved : ℕ → ℕ) (number : ℕ) (w : View) (r : Ready g saved number w) where
  -- marks as they were, and of each survivor's entry the copy on the side, the form, no more frames
  abbrev Rolling : View → Type 0
  Rolling = Each (live_each g w (roll_change (forward_in g w)) (SafeOn (forward_in g w)) Rolled) w

  module _ (u : View) (c : Rolling u) where
    safe_at : (n b : ℕ) → Live g u n → b < g.items → SafeOn (forward_in g w) (w.entry n b) (u.entry n b)
    safe_at n b l h = c.entries n b (same_live g w u c.marks n l) h

    frames_on : (n s : ℕ) → Live g u n → s < sets_of g → used g u n s ≤ set_frames g
    frames_on n s l h =
        let f = used_no_more g w u n s (λ b i. (safe_at n b l i).frames) in
        let m = r.frames n s (same_live g w u c.marks n l) h in
        omega arith

    sided : Sided g saved (forward_in g w) u
    sided = record {
      there = λ b h.
          let (n, o) = r.side.there b h in
          let l = live_same g w u c.marks n o.alive in
          (n, record { alive = l; copied = λ z. o.copied (ap copy_number (sym (safe_at n b l h).copy) ∙ z) });
      values = λ n b l h d.
          let q = (safe_at n b l h).copy in
          ap copy_value q ∙ r.side.values n b (same_live g w u c.marks n l) h (λ z. d (ap copy_number q ∙ z));
    }

    rolling_going : Going g saved number w u
    rolling_going = same_going g w u c.marks saved number r (λ n b l h. (safe_at n b l h).form) frames_on sided

    module _ (rolled : (n b : ℕ) → Live g w n → b < g.items → Rolled (w.entry n b) (u.entry n b)) where
      rolled_at : (n b : ℕ) → Live g u n → b < g.items → Rolled (w.entry n b) (u.entry n b)
      rolled_at n b l h = rolled n b (same_live g w u c.marks n l) h

      -- a copy that is there is the one on the side, with the value saved
      rolled_plain : Plain g saved w u
      rolled_plain = record {
        marks = c.marks;
        entries = λ n b l h.
            let p = rolled_at n b l h in
            record {
              form = p.form;
              code = p.code;
              nothing = p.nothing;
              value = λ d.
                  let k = plain_copied (u.entry n b).value (u.entry n b) p (forward_in g w) d in
                  sym (plain_value (u.entry n b).value (u.entry n b) p (forward_in g w) k) ∙ sided.values n b l h k;
            };
        frames = frames_on;
        there = λ b h.
            let (n, o) = sided.there b h in (
              n,
              record {
                alive = o.alive;
                copied = copied_plain (u.entry n b).value (u.entry n b) (rolled_at n b o.alive h) (forward_in g w) o.copied;
              },
            );
      }

pub roll_via :
    (g : Geometry) (saved : ℕ → ℕ) (number : ℕ) (w : View) → Ready g saved number w
    → Via g (Going g saved number w) (Plain g saved w) w (roll_stores g w)
unfolding roll_stores
roll_via g saved number w r =
    via_loosen
    (via_weaken
    (entries_via g w (roll_change (forward_in g w)) (SafeOn (forward_in g w)) Rolled
    (λ n b l h. record { copy = refl; form = r.forms n b l h; frames = omega arith })
    (λ n b l h. roll_steps (w.entry n b) (r.forms n b l h) (forward_in g w)) w refl)
    (λ u c a. rolled_plain g saved number w r u c a.lives))
    (rolling_going g saved number w r)
