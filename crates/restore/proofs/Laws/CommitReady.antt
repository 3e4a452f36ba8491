-- However a Commit is cut, the survivors are ready: for the point that it commits if one of them carries its number, else for the point before.
use Rattle.std.specs.Prelude.{Ok, Option}
use Prim.Native.Nat.{ℕ, ◌+◌, ◌-◌, ◌^◌, ◌<◌, ◌≤◌}
use mathlib.Core.Path.{◌≡◌, refl, sym, ap, ◌∙◌}
use mathlib.Core.Logic.{◌⊎◌, inl, inr, ◌≢◌}
use mathlib.Core.Bool.{Bool, true, false, cond, ◌&&◌}
use mathlib.Core.List.{List}
use native.Mathlib.Omega.{arith}
use lib.Dec.{eqb}
use borrow.Author.Tests.{eqb-true, eq-eqb}
use Rattle.counting.proofs.Laws.Tests.{both, and_both, no_both}
use Rattle.counting.proofs.Laws.Counting.{Only}
use Rattle.table.specs.declared.geometry.Geometry.{Geometry}
use Rattle.table.specs.Words.{mark_form, phase_of, number_of, mark_word, shared_ck1, shared_ck2, precommit1, precommit2}
use Rattle.table.proofs.Laws.Words.{phase_mark, number_mark}
use Rattle.table.proofs.Laws.Forms.{mark_form_lem}
use Rattle.table.specs.Stores.{Store, after}
use Rattle.table.specs.View.{View, view, live}
use Rattle.table.proofs.Laws.MarksPass.{Mixed}
use Rattle.table.specs.Answers.{carry}
use Rattle.entries.specs.Tally.{has}
use Rattle.entries.proofs.Laws.Kinds.{Kind, clean, dirty, created, has_live, has_code, clean_apart, created_apart}
use Rattle.entries.proofs.Laws.SoundFacts.{SoundTable, phase_in}
use Rattle.checkpoints.specs.Commit.{committing_mark, committed_mark, commit_admission, commit_of}
use Rattle.homes.proofs.Laws.Kept.{Live, live_test, test_live}
use Rattle.checkpoints.proofs.Laws.KeptMarks.{same_entries}
use Rattle.checkpoints.proofs.Laws.Forward.{forward_number, forward_number_lem, forward_value}
use Rattle.checkpoints.proofs.Laws.MarksSound.{commit_opened}
use Rattle.checkpoints.proofs.Laws.CommitKept.{CommitCut, CommitStage, marking, changing, closing, stage_live}
use Rattle.checkpoints.proofs.Laws.CommitTheorem.{carried, commit_keeps}
use Rattle.checkpoints.proofs.Laws.CommitSound.{not_owned}
use Rattle.checkpoints.proofs.Laws.CommitServes.{no_forward}
use Rattle.homes.proofs.Laws.Serves.{CurrentHave, BackHave, Serves, same_geometry, serves_number}
use Rattle.counting.proofs.Laws.Exists.{exists_here, exists_at}
use Rattle.survivors.specs.Survivors.{survivors, carries}
use Rattle.survivors.specs.Direction.{committing, forward_in}
use Rattle.recovery.proofs.Laws.Ready.{Holds, Ready}
use Rattle.restore.proofs.Laws.Surviving.{survivor_mark, survivor_live}
use Rattle.recovery.proofs.Laws.Largest.{largest_is}
use Rattle.restore.proofs.Laws.Standing.{Two, Standing, Chosen, node_survives, standing_ready, live_before, standing_kept, standing_either}
use Rattle.restore.proofs.Laws.KeptReady.{facts, some_item, sound_standing, chosen_back}

-- ---- the table at entry: two copies of each item for a roll forward, at the current value

module _ (g : Geometry) (v : View) (phase number : ℕ) (good : SoundTable g v phase number) (admitted : commit_admission g v ≡ (Ok tt)) where
  forward_held : (b n code : ℕ) → code < 8 → forward_number code ≢ 0 → Only g.nodes (has v b code) n → Holds g true v b n
  forward_held b n code l d o =
      let e = has_code v b n code o.holds in
      record {
        alive = test_live g v n o.within (has_live v b n code o.holds);
        copied = λ z. d (sym (ap forward_number e) ∙ sym (forward_number_lem (v.entry n b) (omega arith)) ∙ z);
      }

  forward_two : (b : ℕ) → b < g.items → Kind phase v g.nodes b → Two g true v b
  forward_two b h (clean k) = record {
    one = k.one;
    two = k.two;
    apart = clean_apart v g.nodes b k;
    first = forward_held b k.one shared_ck1 (omega arith) (λ z. omega arith) k.first;
    second = forward_held b k.two shared_ck2 (omega arith) (λ z. omega arith) k.second;
  }
  forward_two b h (dirty k) = absurd (not_owned g v admitted b h k.node k.owned)
  forward_two b h (created e k) = record {
    one = k.one;
    two = k.two;
    apart = created_apart v g.nodes b k;
    first = forward_held b k.one precommit1 (omega arith) (λ z. omega arith) k.first;
    second = forward_held b k.two precommit2 (omega arith) (λ z. omega arith) k.second;
  }

  forward_standing : (values : ℕ → ℕ) → CurrentHave g v values → Standing g values true v
  forward_standing values have = record {
    forms = λ n b l h. good.forms n b l.there h (live_test g v n l);
    frames = λ n s l h. good.frames n s l.there h (live_test g v n l);
    pairs = λ b h. forward_two b h (good.items b h);
    values = λ n b l h d. forward_value (v.entry n b) d ∙ have n b l h (λ z. d (no_forward (v.entry n b) z));
  }

-- ---- marks

-- a mark of the new number
record Next (number x : ℕ) : Type 0 where
  form : mark_form x ≡ true
  next : number_of x ≡ number + 1

module _ (number : ℕ) (room : number < 2 ^ 32 - 1) where
  new_mark : (phase x y : ℕ) → phase < 3 → number_of x ≡ number → y ≡ mark_word phase (number_of x + 1) → Next number y
  new_mark phase x y h e q =
      let r : y ≡ mark_word phase (number + 1) = q ∙ ap (λ k. mark_word phase (k + 1)) e in
      record {
        form = ap mark_form r ∙ mark_form_lem phase (number + 1) h (omega arith);
        next = ap number_of r ∙ number_mark phase (number + 1) (omega arith) (omega arith);
      }

  committing_phase : (x y : ℕ) → number_of x ≡ number → y ≡ committing_mark x → phase_of y ≡ 2
  committing_phase x y e q =
      ap phase_of (q ∙ ap (λ k. mark_word 2 (k + 1)) e) ∙ phase_mark 2 (number + 1) (omega arith) (omega arith)

-- ---- v at entry, u at the cut

module _
    (g : Geometry) (v u : View) (number : ℕ) (good : SoundTable g v 1 number) (admitted : commit_admission g v ≡ (Ok tt)) (some : 0 < g.items)
    (values saved : ℕ → ℕ) (have : CurrentHave g v values) (back : BackHave g v saved) (cut : CommitCut g v u) (lost : Option ℕ) where
  abbrev left : View
  left = survivors lost u

  room : number < 2 ^ 32 - 1
  room = good.number_room refl

  same : (n : ℕ) → n < g.nodes → live u n ≡ live v n
  same = stage_live g v u cut.stage

  was_live : (n : ℕ) → Live g left n → Live g v n
  was_live n l = live_before g v u same n (survivor_live g u lost n l)

  was_number : (n : ℕ) → Live g left n → number_of (v.mark n) ≡ number
  was_number n l = let k = was_live n l in good.numbers n k.there (live_test g v n k)

  -- the copies for a roll forward stand at every cut
  forward_stands : Standing g values true u
  forward_stands =
      standing_kept g v u same values true (forward_standing g v 1 number good admitted values have) cut.kept.forward cut.kept.forms
      cut.kept.frames

  here : (n : ℕ) → Live g left n → number_of (left.mark n) ≡ number + 1 → carries g (number + 1) left ≡ true
  here n l e =
      exists_here g.nodes (λ n. live left n && eqb (number_of (left.mark n)) (number + 1)) n l.there
      (and_both (live_test g left n l) (eq-eqb (number_of (left.mark n)) (number + 1) e))

  found : carries g (number + 1) left ≡ true → (n : ℕ) × (Live g left n × (number_of (left.mark n) ≡ number + 1))
  found c =
      let r = exists_at g.nodes (λ n. live left n && eqb (number_of (left.mark n)) (number + 1)) c in
      let p = both (live left r.0) r.1.1 in
      (r.0, (test_live g left r.0 r.1.0 p.0, eqb-true (number_of (left.mark r.0)) (number + 1) p.1))

  -- a survivor in phase 2 chooses the roll forward
  phase_two : (n : ℕ) → Live g left n → phase_of (left.mark n) ≡ 2 → forward_in g left ≡ true
  unfolding forward_in
  phase_two n l e = exists_here g.nodes (committing left) n l.there (and_both (live_test g left n l) (eq-eqb (phase_of (left.mark n)) 2 e))

  -- ---- while marks are stored

  module _ (m : Mixed g v committing_mark u) where
    -- a survivor's mark is as it was, or new
    mixed_at : (n : ℕ) → Live g left n → (left.mark n ≡ v.mark n) ⊎ (left.mark n ≡ committing_mark (v.mark n))
    mixed_at n l = elim (m n) [ inl e ↦ inl (survivor_mark g u lost n l ∙ e) | inr q ↦ inr (survivor_mark g u lost n l ∙ q.1) ]

    mixed_form : (n : ℕ) → Live g left n → mark_form (left.mark n) ≡ true
    mixed_form n l = elim (mixed_at n l) [
      | inl e ↦ ap mark_form e ∙ good.marks n l.there
      | inr e ↦ (new_mark number room 2 (v.mark n) (left.mark n) (omega arith) (was_number n l) e).form
    ]

    mixed_number : (n : ℕ) → Live g left n → number_of (left.mark n) ≤ number + 1
    mixed_number n l = elim (mixed_at n l) [
      | inl e ↦ (let q = ap number_of e ∙ was_number n l in omega arith)
      | inr e ↦ (let q = (new_mark number room 2 (v.mark n) (left.mark n) (omega arith) (was_number n l) e).next in omega arith)
    ]

    mixed_chosen : carries g (number + 1) left ≡ true → Chosen g (number + 1) true left
    mixed_chosen c =
        let (n, (l, e)) = found c in
        record {
          marks = mixed_form;
          side = phase_two n l (elim (mixed_at n l) [
            | inl q ↦ (let z = ap number_of q ∙ was_number n l in absurd (omega arith))
            | inr q ↦ committing_phase number room (v.mark n) (left.mark n) (was_number n l) q
          ]);
          point = largest_is g left (number + 1) mixed_number n l e;
        }

    module _ (c : carries g (number + 1) left ≡ false) where
      -- where none is new all are old
      still_old : (n : ℕ) → Live g left n → left.mark n ≡ v.mark n
      still_old n l = elim (mixed_at n l) [
        | inl e ↦ e
        | inr e ↦ absurd (no_both (here n l (new_mark number room 2 (v.mark n) (left.mark n) (omega arith) (was_number n l) e).next) c)
      ]

      old_chosen : (n : ℕ) → Live g left n → Chosen g number false left
      old_chosen n l =
          chosen_back g number left mixed_form
          (λ n l z. let k = was_live n l in let p = ap phase_of (still_old n l) ∙ good.phases n k.there (live_test g v n k) in omega arith)
          (λ n l. ap number_of (still_old n l) ∙ was_number n l) n l

  -- ---- from the first entry store on every mark is new

  module _ (new : (n : ℕ) → Live g left n → Next number (left.mark n)) where
    new_chosen : (n : ℕ) → Live g left n → Chosen g (number + 1) (forward_in g left) left
    new_chosen n l = record {
      marks = λ n l. (new n l).form;
      side = refl;
      point = largest_is g left (number + 1) (λ n l. let e = (new n l).next in omega arith) n l (new n l).next;
    }

    not_old : carries g (number + 1) left ≡ false → ⊥
    not_old c = let (n, l) = node_survives g values true u forward_stands lost some in no_both (here n l (new n l).next) c

  changed_new : ((n : ℕ) → Live g v n → u.mark n ≡ committing_mark (v.mark n)) → (n : ℕ) → Live g left n → Next number (left.mark n)
  changed_new k n l = new_mark number room 2 (v.mark n) (left.mark n) (omega arith) (was_number n l) (survivor_mark g u lost n l ∙ k n (was_live n l))

  closed_new :
      ((n : ℕ) → Live g v n → (u.mark n ≡ committing_mark (v.mark n)) ⊎ (u.mark n ≡ committed_mark (v.mark n)))
      → (n : ℕ) → Live g left n → Next number (left.mark n)
  closed_new k n l = elim (k n (was_live n l)) [
    | inl e ↦ new_mark number room 2 (v.mark n) (left.mark n) (omega arith) (was_number n l) (survivor_mark g u lost n l ∙ e)
    | inr e ↦ new_mark number room 0 (v.mark n) (left.mark n) (omega arith) (was_number n l) (survivor_mark g u lost n l ∙ e)
  ]

  -- ---- at every cut

  -- a survivor carries the new number
  pub new_ready : carries g (number + 1) left ≡ true → Ready g values (number + 1) left
  new_ready c = go cut.stage
    where
      go : CommitStage g v u → Ready g values (number + 1) left
      go (marking e m) = standing_ready g values true u forward_stands lost (number + 1) (mixed_chosen m c)
      go (changing k d) =
          let (n, (l, e)) = found c in
          let f : forward_in g left ≡ true =
          phase_two n l (committing_phase number room (v.mark n) (left.mark n) (was_number n l) (survivor_mark g u lost n l ∙ k n (was_live n l))) in
          standing_ready g values true u forward_stands lost (number + 1) (rw f at (new_chosen (changed_new k) n l))
      go (closing a k d) =
          let (n, (l, e)) = found c in
          standing_ready g values (forward_in g left) u
          (standing_either g values u (λ n b l h. a n b (live_before g v u same n l) h) forward_stands (forward_in g left)) lost (number + 1)
          (new_chosen (closed_new k) n l)

  -- none does
  pub old_ready : carries g (number + 1) left ≡ false → Ready g saved number left
  old_ready c = go cut.stage
    where
      go : CommitStage g v u → Ready g saved number left
      go (marking e m) =
          let k = same_entries g v 1 number good u e in
          let stands = standing_kept g v u same saved false (sound_standing g v 1 number good saved back) k.back k.forms k.frames in
          let (n, l) = node_survives g saved false u stands lost some in
          standing_ready g saved false u stands lost number (old_chosen m c n l)
      go (changing k d) = absurd (not_old (changed_new k) c)
      go (closing a k d) = absurd (not_old (closed_new k) c)

  pub either_ready :
      Ready g (λ b. cond (carries g (number + 1) left) (values b) (saved b)) (cond (carries g (number + 1) left) (number + 1) number) left
  either_ready = go (carries g (number + 1) left) refl
    where
      go : (q : Bool) → carries g (number + 1) left ≡ q → Ready g (λ b. cond q (values b) (saved b)) (cond q (number + 1) number) left
      go true e = new_ready e
      go false e = old_ready e

-- ---- a table that serves

module _ (t : List ℕ) (g : Geometry) (values saved : ℕ → ℕ) (number : ℕ) (s : Serves t g values saved number) where
  module _ {value : ℕ} {ss : List Store} (accepted : commit_of t ≡ carry g value ss) where
    sound_number : SoundTable g (view g t) (phase_in g (view g t)) number
    sound_number = rw (serves_number t g values saved number s) at (facts t g values saved number s).table

    opened : phase_in g (view g t) ≡ 1
    opened = commit_opened g (view g t) _ _ sound_number (some_item t g values saved number s) (carried t accepted).admitted

    ready_here : (limit : ℕ) (lost : Option ℕ) →
        let w = survivors lost (view g (after g limit ss t)) in
        Ready g (λ b. cond (carries g (number + 1) w) (values b) (saved b)) (cond (carries g (number + 1) w) (number + 1) number) w
    ready_here limit lost =
        either_ready g (view g t) _ number (rw opened at sound_number) (carried t accepted).admitted (some_item t g values saved number s) values saved
        s.current s.back (commit_keeps t accepted limit) lost

  pub commit_ready :
      {g' : Geometry} {value : ℕ} {ss : List Store} → commit_of t ≡ carry g' value ss → (limit : ℕ) (lost : Option ℕ) →
      let w = survivors lost (view g (after g' limit ss t)) in
      Ready g (λ b. cond (carries g (number + 1) w) (values b) (saved b)) (cond (carries g (number + 1) w) (number + 1) number) w
  commit_ready accepted limit lost =
      let e = same_geometry t s.passed (carried t accepted).passed in
      rw e (ready_here (rw e at accepted) limit lost)
