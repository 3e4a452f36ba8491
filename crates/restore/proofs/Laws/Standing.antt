-- What a table has before a strike, so that its survivors are ready, whichever node is lost: two recovery copies of each item on two live nodes.
use Rattle.std.specs.Prelude.{Option}
use Prim.Native.Nat.{ℕ, ◌≤◌, ◌<◌}
use mathlib.Core.Path.{◌≡◌, sym, ap, ◌∙◌}
use mathlib.Core.Logic.{◌⊎◌, inl, inr, ◌≢◌}
use mathlib.Core.Bool.{Bool, true, false}
use Rattle.table.specs.declared.geometry.Geometry.{Geometry}
use Rattle.table.specs.Words.{state_form, mark_form}
use Rattle.table.specs.View.{View, live}
use Rattle.table.specs.Copies.{copy_number, copy_value, back_copy, forward_copy}
use Rattle.entries.specs.Frames.{sets_of, set_frames, used}
use Rattle.homes.proofs.Laws.Kept.{Live, live_test, test_live}
use Rattle.survivors.specs.Survivors.{survivors, largest_number}
use Rattle.recovery.specs.Sides.{copy_on}
use Rattle.survivors.specs.Direction.{forward_in}
use Rattle.recovery.proofs.Laws.Ready.{Holds, Ready}
use Rattle.restore.proofs.Laws.Surviving.{survivor_live, survivor_entries, survivor_used, one_survives}

-- recovery copies of item b on two live nodes
pub record Two (g : Geometry) (forward : Bool) (w : View) (b : ℕ) : Type 0 where
  pub one : ℕ
  pub two : ℕ
  pub apart : one ≢ two
  pub first : Holds g forward w b one
  pub second : Holds g forward w b two

-- word forms, frames and the copies on one side
pub record Standing (g : Geometry) (saved : ℕ → ℕ) (forward : Bool) (w : View) : Type 0 where
  pub forms : (n b : ℕ) → Live g w n → b < g.items → state_form (w.entry n b).state ≡ true
  pub frames : (n s : ℕ) → Live g w n → s < sets_of g → used g w n s ≤ set_frames g
  pub pairs : (b : ℕ) → b < g.items → Two g forward w b
  pub values :
      (n b : ℕ) → Live g w n → b < g.items → copy_number (copy_on forward (w.entry n b)) ≢ 0
      → copy_value (copy_on forward (w.entry n b)) ≡ saved b

-- the marks of survivors: their forms, the side that they choose, the number of the point
pub record Chosen (g : Geometry) (number : ℕ) (forward : Bool) (w : View) : Type 0 where
  pub marks : (n : ℕ) → Live g w n → mark_form (w.mark n) ≡ true
  pub side : forward_in g w ≡ forward
  pub point : largest_number g w ≡ number

-- ---- whichever node is lost

module _ (g : Geometry) (saved : ℕ → ℕ) (forward : Bool) (u : View) (stands : Standing g saved forward u) (lost : Option ℕ) where
  -- a copy survives
  pub copy_survives : (b : ℕ) → b < g.items → (n : ℕ) × Holds g forward (survivors lost u) b n
  copy_survives b h =
      go (stands.pairs b h)
      (one_survives g u lost _ _ (stands.pairs b h).apart (stands.pairs b h).first.alive (stands.pairs b h).second.alive)
    where
      held : (n : ℕ) → Live g (survivors lost u) n → Holds g forward u b n → Holds g forward (survivors lost u) b n
      held n l k = record { alive = l; copied = rw (survivor_entries g u lost) k.copied }

      go : (p : Two g forward u b) → Live g (survivors lost u) p.one ⊎ Live g (survivors lost u) p.two
          → (n : ℕ) × Holds g forward (survivors lost u) b n
      go p (inl l) = (p.one, held p.one l p.first)
      go p (inr l) = (p.two, held p.two l p.second)

  -- so does a node
  pub node_survives : 0 < g.items → (n : ℕ) × Live g (survivors lost u) n
  node_survives h = let c = copy_survives 0 h in (c.0, c.1.alive)

  pub standing_ready : (number : ℕ) → Chosen g number forward (survivors lost u) → Ready g saved number (survivors lost u)
  standing_ready number c = record {
    marks = c.marks;
    forms = λ n b l h. rw (survivor_entries g u lost) (stands.forms n b (survivor_live g u lost n l) h);
    frames = λ n s l h. rw (survivor_used g u lost n s) (stands.frames n s (survivor_live g u lost n l) h);
    side = rw c.side (record {
      there = copy_survives;
      values = λ n b l h. rw (survivor_entries g u lost) (stands.values n b (survivor_live g u lost n l) h);
    });
    point = c.point;
  }

-- ---- v at entry, u at the cut, with the same live nodes

module _ (g : Geometry) (v u : View) (same : (n : ℕ) → n < g.nodes → live u n ≡ live v n) where
  pub live_before : (n : ℕ) → Live g u n → Live g v n
  live_before n l = test_live g v n l.there (sym (same n l.there) ∙ live_test g u n l)

  pub live_still : (n : ℕ) → Live g v n → Live g u n
  live_still n l = test_live g u n l.there (same n l.there ∙ live_test g v n l)

  -- the copies on a side as they were
  pub standing_kept :
      (saved : ℕ → ℕ) (forward : Bool) → Standing g saved forward v
      → ((n b : ℕ) → Live g v n → b < g.items → copy_on forward (u.entry n b) ≡ copy_on forward (v.entry n b))
      → ((n b : ℕ) → Live g v n → b < g.items → state_form (u.entry n b).state ≡ true)
      → ((n s : ℕ) → Live g v n → s < sets_of g → used g u n s ≤ set_frames g) → Standing g saved forward u
  standing_kept saved forward stands copies forms frames = record {
    forms = λ n b l. forms n b (live_before n l);
    frames = λ n s l. frames n s (live_before n l);
    pairs = λ b h.
        let p = stands.pairs b h in
        record { one = p.one; two = p.two; apart = p.apart; first = held b h p.one p.first; second = held b h p.two p.second };
    values = λ n b l h d.
        let e = copies n b (live_before n l) h in
        ap copy_value e ∙ stands.values n b (live_before n l) h (λ z. d (ap copy_number e ∙ z));
  }
    where
      held : (b : ℕ) → b < g.items → (n : ℕ) → Holds g forward v b n → Holds g forward u b n
      held b h n k = record { alive = live_still n k.alive; copied = λ z. k.copied (sym (ap copy_number (copies n b k.alive h)) ∙ z) }

-- where the two sides are one
pub standing_either :
    (g : Geometry) (saved : ℕ → ℕ) (u : View) → ((n b : ℕ) → Live g u n → b < g.items → back_copy (u.entry n b) ≡ forward_copy (u.entry n b))
    → Standing g saved true u → (forward : Bool) → Standing g saved forward u
standing_either g saved u one s true = s
standing_either g saved u one s false = record {
  forms = s.forms;
  frames = s.frames;
  pairs = λ b h.
      let p = s.pairs b h in
      record { one = p.one; two = p.two; apart = p.apart; first = held b h p.one p.first; second = held b h p.two p.second };
  values = λ n b l h d. let e = one n b l h in ap copy_value e ∙ s.values n b l h (λ z. d (ap copy_number e ∙ z));
}
  where
    held : (b : ℕ) → b < g.items → (n : ℕ) → Holds g true u b n → Holds g false u b n
    held b h n k = record { alive = k.alive; copied = λ z. k.copied (sym (ap copy_number (one n b k.alive h)) ∙ z) }
