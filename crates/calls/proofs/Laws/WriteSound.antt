-- A whole write leaves a sound table: the item written is dirty, one Modified copy of the value written; and what the memory then shows.
use Rattle.std.specs.Prelude.{Ok}
use Prim.Native.Nat.{ℕ, ◌≤◌, ◌<◌}
use mathlib.Core.Path.{◌≡◌, sym, ap, ◌∙◌}
use mathlib.Core.Logic.{◌≢◌}
use mathlib.Core.Bool.{true, not}
use mathlib.Core.List.{List}
use native.Mathlib.Omega.{arith}
use native.Mathlib.Decide.{ℕ_discrete}
use lib.Dec.{eqb}
use lib.ListN.{length}
use Rattle.table.specs.declared.geometry.Geometry.{Geometry}
use Rattle.table.specs.Words.{state_word, current_of, invalid, modified, shared_ck1}
use Rattle.table.specs.Stores.{Store, after}
use Rattle.table.proofs.Laws.Stores.{All, all_then}
use Rattle.table.specs.View.{View, view, live, current}
use Rattle.table.specs.Copies.{back_copy}
use Rattle.table.specs.Answers.{carry}
use Rattle.entries.specs.Check.{fault_of}
use Rattle.entries.proofs.Laws.Kinds.{Dirty, modified_at, dirty, has_at_lem, has_code, has_live, copy_live, copy_code}
use Rattle.entries.proofs.Laws.SoundFacts.{SoundTable, phase_in, number_in}
use Rattle.entries.proofs.Laws.CheckFacts.{Accepted, facts_accepted, sound_pair}
use Rattle.calls.specs.Write.{other_changes, other_stores, own_changes, write_stores, write_of}
use Rattle.homes.proofs.Laws.Kept.{Live, Kept, live_test, test_live}
use Rattle.homes.proofs.Laws.SoundKept.{Off, entry_off, pass_off, shape_after, kind_same, pair_saved, sound_kept}
use Rattle.calls.proofs.Laws.Written.{Written}
use Rattle.calls.proofs.Laws.WriteTheorem.{carried, facts, admits, write_keeps, write_written}

-- what the memory shows after a whole write: v at entry, w at the end
pub record WriteShows (g : Geometry) (n b x : ℕ) (v w : View) : Type 0 where
  -- the writer holds item b's one current copy, of value x
  pub held : current (w.entry n b) ≡ modified
  pub sole : (k : ℕ) → Live g v k → current (w.entry k b) ≢ 0 → k ≡ n
  pub value : (k : ℕ) → Live g v k → current (w.entry k b) ≢ 0 → (w.entry k b).value ≡ x
  -- every copy of any other item is as it was
  pub others : (k c : ℕ) → (c ≡ b → ⊥) → w.entry k c ≡ v.entry k c
  -- and so is every recovery copy
  pub back : (k c : ℕ) → Live g v k → c < g.items → back_copy (w.entry k c) ≡ back_copy (v.entry k c)

state_current : (c k : ℕ) → c < 16 → current_of (state_word c k) ≡ c
state_current c k h = omega arith

module _ (g : Geometry) (n b x : ℕ) (v w : View) (own : Live g v n) (z : Written g n b x v w) where
  own_current : current (w.entry n b) ≡ modified
  own_current = ap current z.own ∙ state_current modified _ (omega arith)

  other_current : (k : ℕ) → Live g v k → (k ≡ n → ⊥) → current (w.entry k b) ≡ invalid
  other_current k l d = ap current (z.others k l d) ∙ state_current invalid _ (omega arith)

  only_own : (k : ℕ) → Live g v k → current (w.entry k b) ≢ 0 → k ≡ n
  only_own k l c = elim (ℕ_discrete k n) [ yes e ↦ e | no d ↦ absurd (c (other_current k l d)) ]

  own_value : (k : ℕ) → Live g v k → current (w.entry k b) ≢ 0 → (w.entry k b).value ≡ x
  own_value k l c = ap (λ k. (w.entry k b).value) (only_own k l c) ∙ ap (λ e. e.value) z.own

  pub written_shows : Kept g v w → WriteShows g n b x v w
  written_shows k = record { held = own_current; sole = only_own; value = own_value; others = z.rest; back = k.back }

  low : (k : ℕ) → Live g v k → current (w.entry k b) < shared_ck1
  low k l = elim (ℕ_discrete k n) [ yes e ↦ rw e (let q = own_current in omega arith) | no d ↦ (let q = other_current k l d in omega arith) ]

  was_live : (k : ℕ) → k < g.nodes → live w k ≡ true → Live g v k
  was_live k l t = test_live g v k l (sym (ap (λ f. not (eqb (f k) 0)) z.marks) ∙ t)

  module _ (phase number : ℕ) (good : SoundTable g v phase number) (item : b < g.items) (kp : Kept g v w) where
    written_dirty : Dirty w g.nodes b
    written_dirty = record {
      node = n;
      value = x;
      owned = modified_at
          (record {
            within = own.there;
            holds = has_at_lem w b n modified (ap (λ f. not (eqb (f n) 0)) z.marks ∙ live_test g v n own) own_current;
            alone = λ k l t. only_own k (was_live k l (has_live w b k modified t)) (λ q. omega (arith, has_code w b k modified t));
          })
          (λ k l t. only_own k (was_live k l (copy_live w b k t)) (copy_code w b k t));
      values = λ k l t. own_value k (was_live k l (copy_live w b k t)) (copy_code w b k t);
      saved = pair_saved v w g.nodes b z.marks (λ k l t. kp.back k b (test_live g v k l t) item) (λ k l t. low k (test_live g v k l t))
          (sound_pair g v phase number good b item);
    }

    pub written_sound : SoundTable g w phase number
    written_sound = sound_kept g v w phase number good kp
        (λ c h. elim (ℕ_discrete c b) [
          | yes e ↦ rw e (dirty written_dirty)
          | no d ↦ kind_same v w g.nodes c phase z.marks (λ k l. z.rest k c d) (good.items c h)
        ])

pub write_off : (g : Geometry) (v : View) (n b x : ℕ) → All (Off g) (write_stores g v n b x)
unfolding write_stores other_stores
write_off g v n b x = all_then (pass_off g (λ k. k) (λ k. b) (other_changes v n b) g.nodes) (entry_off g n b (own_changes (v.entry n b) x))

module _
    (t : List ℕ) (n b x : ℕ) {g : Geometry} {value : ℕ} {ss : List Store} (accepted : write_of t n b x ≡ carry g value ss) (limit : ℕ)
    (whole : length ss ≤ limit) where
  writer : Live g (view g t) n
  writer = let a = admits t n b x accepted in record { there = a.place.node; marked = a.place.live }

  -- the memory
  pub write_shows : WriteShows g n b x (view g t) (view g (after g limit ss t))
  write_shows = written_shows g n b x _ _ writer (write_written t n b x accepted limit whole) (write_keeps t n b x accepted limit)

  pub write_accepted : Accepted (after g limit ss t) g (phase_in g (view g t)) (number_in g (view g t))
  write_accepted = record {
    shape = rw (carried t n b x accepted).stores_are (shape_after g limit t (write_off g (view g t) n b x) (facts t n b x accepted).shape);
    table = written_sound g n b x _ _ writer (write_written t n b x accepted limit whole) _ _ (facts t n b x accepted).table
        (admits t n b x accepted).place.item (write_keeps t n b x accepted limit);
  }

  -- the table after a whole write passes every check
  pub write_sound : fault_of (after g limit ss t) ≡ Ok g
  write_sound = facts_accepted (after g limit ss t) g _ _ write_accepted
