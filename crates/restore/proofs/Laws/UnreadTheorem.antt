-- "A dead node's words, mark apart, are never read": it holds.
use Rattle.std.specs.Prelude.{Err, None, Ok, Option, Result, Some}
use Prim.Native.Nat.{ℕ, ◌+◌, ◌<◌, ◌≤◌}
use mathlib.Core.Path.{◌≡◌, refl, sym, ap, ◌∙◌, fun_ext}
use mathlib.Core.Bool.{true, false, not, cond}
use mathlib.Core.List.{List}
use native.Mathlib.Omega.{arith}
use native.Mathlib.Decide.{ℕ_discrete}
use lib.Dec.{eqb, ltb}
use lib.ListN.{length, get_or}
use borrow.Author.Tests.{eq-eqb, ne_eqb, lt-leb, ltb-true, le-ltb, leb-false}
use Rattle.counting.proofs.Laws.Tests.{both, by_cases, no_both, and_no, neither}
use Rattle.counting.proofs.Laws.Exists.{exists_not}
use Rattle.table.specs.declared.geometry.Geometry.{Geometry}
use Rattle.table.specs.declared.answers.Refusal.TheVariants.{NoNode}
use Rattle.table.specs.Geometry.{mark_at, entry_at, geometry_of}
use Rattle.table.specs.View.{View, view, live, there, entry_in}
use Rattle.table.proofs.Laws.View.{entry_same}
use Rattle.table.specs.Answers.{refuse}
use Rattle.entries.specs.Check.{made_of, length_of, sizes_of}
use Rattle.entries.proofs.Laws.CheckFacts.{sizes_facts}
use Rattle.entries.proofs.Laws.Unread.{over, Agrees, Alike, alike_fault}
use Rattle.layout.specs.Format.{format_made}
use Rattle.layout.specs.Stretch.{checked_plan, stretch_checked}
use Rattle.homes.specs.Admission.{plan_admitted}
use Rattle.homes.proofs.Laws.Unread.{evict_alike}
use Rattle.calls.proofs.Laws.Unread.{read_alike, write_alike}
use Rattle.checkpoints.proofs.Laws.Unread.{open_alike, create_alike, commit_alike, abandon_alike}
use Rattle.survivors.specs.Survivors.{survivors, lost_outside}
use Rattle.recovery.specs.Recover.{recover_admission, recover_checked, recover_of}
use Rattle.recovery.proofs.Laws.Unread.{recover_alike}
use Rattle.restore.specs.declared.call.Call.{Call}
use Rattle.restore.specs.declared.call.Call.TheVariants.{Format, Check, Stretch, Read, Write, Evict, Open, Create, Commit, Abandon, Recover}
use Rattle.restore.specs.Call.{plan_of}
use Rattle.restore.specs.Run.{geometry_in}
use Rattle.restore.specs.Strike.{of_entries, of_lost}
use Rattle.restore.specs.Unread.{of_dead, SameButDead, SameButLost, Unread}
use Rattle.restore.proofs.Laws.Good.{shape_geometry}
use Rattle.restore.proofs.Laws.HitReady.{mark_of_other, entry_of_other}
use Rattle.table.specs.declared.answers.Refusal.{Refusal}

-- ---- words that are no dead node's

entries_not_below : (g : Geometry) (n i : ℕ) → i ≤ g.nodes → of_entries g n i ≡ false
entries_not_below g n i h = rw (lt-leb (entry_at g n 0) i (omega arith)) refl

module _ (g : Geometry) (v : View) where
  -- word 0 and the marks
  low_not_dead : (i : ℕ) → i ≤ g.nodes → of_dead g v i ≡ false
  unfolding of_dead
  low_not_dead i h = exists_not g.nodes _ (λ m l. and_no (not (live v m)) (entries_not_below g m i h))

  -- the entries of live nodes
  entry_not_dead : (n b k : ℕ) → b < g.items → k < 3 → live v n ≡ true → of_dead g v (entry_at g n b + k) ≡ false
  unfolding of_dead
  entry_not_dead n b k hb hk t = exists_not g.nodes _ (λ m l. elim (ℕ_discrete n m) [
    | yes e ↦ (let q : live v m ≡ true = rw e at t in rw q refl)
    | no e ↦ (let i = entry_at g n b + k in
        and_no (not (live v m)) (neither (eqb i (mark_at m)) (of_entries g m i) (entry_of_other g m l n b k hb e hk)).1)
  ])

-- ---- views of words that are the same

module _ (g : Geometry) (t t' : List ℕ) where
  mark_same :
      (n : ℕ) → (n < g.nodes → get_or t' (mark_at n) 0 ≡ get_or t (mark_at n) 0) → (view g t').mark n ≡ (view g t).mark n
  unfolding view
  mark_same n h = by_cases (ltb n g.nodes) (λ y. rw y (h (ltb-true n g.nodes y))) (λ y. rw y refl)

  entry_there :
      (n b : ℕ) → (b < g.items → (k : ℕ) → k < 3 → get_or t' (entry_at g n b + k) 0 ≡ get_or t (entry_at g n b + k) 0)
      → (view g t').entry n b ≡ (view g t).entry n b
  unfolding view
  entry_there n b h =
      by_cases (there g n b) (λ y. rw y (same (ltb-true b g.items (both (ltb n g.nodes) y).1))) (λ y. rw y refl)
    where
      same : b < g.items → entry_in t' (entry_at g n b) ≡ entry_in t (entry_at g n b)
      same l = entry_same t t' (entry_at g n b) (h l)

  entry_outside : (n b : ℕ) → g.nodes ≤ n → (view g t').entry n b ≡ (view g t).entry n b
  unfolding view
  entry_outside n b h = rw (le-ltb n g.nodes h) refl

-- ---- the sizes: word 0 and the length

module _ (t t' : List ℕ) (size : length t' ≡ length t) where
  length_same : (m : Option Geometry) → length_of t' m ≡ length_of t m
  unfolding length_of
  length_same None = refl
  length_same (Some g) = rw size refl

  sizes_same : get_or t' 0 0 ≡ get_or t 0 0 → sizes_of t' ≡ sizes_of t
  unfolding sizes_of
  sizes_same word = rw (size, word, length_same (made_of t)) refl

  format_same : (m : Option Geometry) → format_made t' m ≡ format_made t m
  unfolding format_made
  format_same None = refl
  format_same (Some g) = rw size refl

sizes_geometry : (t : List ℕ) (g : Geometry) → sizes_of t ≡ Ok g → geometry_in t ≡ g
sizes_geometry t g h = shape_geometry t g (sizes_facts t g h)

-- ---- every call

dead_alike : (t t' : List ℕ) → SameButDead t t' → Alike t t'
dead_alike t t' s = record {
  sizes = sizes_same t t' s.size (s.rest 0 (low_not_dead g₀ (view g₀ t) 0 (omega arith)));
  marks = λ g h. rw (← sizes_geometry t g h) marks;
  entries = λ g h. rw (← sizes_geometry t g h) entries;
}
  where
    g₀ : Geometry
    g₀ = geometry_in t

    marks : (view g₀ t').mark ≡ (view g₀ t).mark
    marks = fun_ext (λ n. mark_same g₀ t t' n (λ l.
        s.rest (mark_at n) (low_not_dead g₀ (view g₀ t) (mark_at n) (omega arith))))

    entries : Agrees g₀ (view g₀ t) (view g₀ t').entry
    entries = record {
      alive = λ n b a. entry_there g₀ t t' n b (λ hb k hk.
          s.rest (entry_at g₀ n b + k) (entry_not_dead g₀ (view g₀ t) n b k hb hk a));
      outside = λ n b l. entry_outside g₀ t t' n b l;
    }

-- ---- Recover

zero_not_lost : (g : Geometry) (lost : Option ℕ) → of_lost g lost 0 ≡ false
zero_not_lost g None = refl
zero_not_lost g (Some n) = rw (ne_eqb 0 (mark_at n) (λ e. omega arith), lt-leb (entry_at g n 0) 0 (omega arith)) refl

-- a lost node that is none of the table's is refused
outside_refused :
    (t : List ℕ) (lost : Option ℕ) (scratch : ℕ) (g : Geometry) → lost_outside g lost ≡ true
    → recover_checked t lost scratch (Ok g) ≡ refuse NoNode
unfolding recover_checked recover_admission plan_admitted
outside_refused t lost scratch g h = rw h refl

module _ (t t' : List ℕ) where
  abbrev g₀ : Geometry
  g₀ = geometry_in t

  abbrev v₀ : View
  v₀ = view g₀ t

  -- of a node of the table, or of none
  lost_views :
      (lost : Option ℕ) → lost_outside g₀ lost ≡ false → SameButLost lost t t'
      → survivors lost (view g₀ t') ≡ over (survivors lost v₀) (view g₀ t').entry
  lost_views None o s = λ i. record { mark = marks i; entry = (view g₀ t').entry }
    where
      marks : (view g₀ t').mark ≡ v₀.mark
      marks = fun_ext (λ n. mark_same g₀ t t' n (λ l.
          s.rest (mark_at n) refl (low_not_dead g₀ v₀ (mark_at n) (omega arith))))
  lost_views (Some m) o s = λ i. record { mark = marks i; entry = (view g₀ t').entry }
    where
      marks : (survivors (Some m) (view g₀ t')).mark ≡ (survivors (Some m) v₀).mark
      marks = fun_ext (λ n. elim (ℕ_discrete n m) [
        | yes e ↦ rw (eq-eqb n m e) refl
        | no e ↦ rw (ne_eqb n m e) (mark_same g₀ t t' n (λ l.
            s.rest (mark_at n) (mark_of_other g₀ m (leb-false g₀.nodes m o) n l e)
            (low_not_dead g₀ v₀ (mark_at n) (omega arith))))
      ])

  lost_entries :
      (lost : Option ℕ) → lost_outside g₀ lost ≡ false → SameButLost lost t t'
      → Agrees g₀ (survivors lost v₀) (view g₀ t').entry
  lost_entries None o s = record {
    alive = λ n b a. entry_there g₀ t t' n b (λ hb k hk.
        s.rest (entry_at g₀ n b + k) refl (entry_not_dead g₀ v₀ n b k hb hk a));
    outside = λ n b l. entry_outside g₀ t t' n b l;
  }
  lost_entries (Some m) o s = record { alive = alive; outside = λ n b l. entry_outside g₀ t t' n b l }
    where
      alive : (n b : ℕ) → live (survivors (Some m) v₀) n ≡ true → (view g₀ t').entry n b ≡ v₀.entry n b
      alive n b a = elim (ℕ_discrete n m) [
        | yes e ↦ (let z : not (eqb (cond true 0 (v₀.mark n)) 0) ≡ true = rw (eq-eqb n m e) at a in
            absurd (no_both z refl))
        | no e ↦ entry_there g₀ t t' n b (λ hb k hk.
            s.rest (entry_at g₀ n b + k) (entry_of_other g₀ m (leb-false g₀.nodes m o) n b k hb e hk)
            (entry_not_dead g₀ v₀ n b k hb hk (rw (ne_eqb n m e) at a)))
      ]

  recover_unread :
      (lost : Option ℕ) → SameButLost lost t t' → (scratch : ℕ) → recover_of t' lost scratch ≡ recover_of t lost scratch
  unfolding recover_checked recover_of
  recover_unread lost s scratch = by_cases (lost_outside g₀ lost) out inside
    where
      sizes : sizes_of t' ≡ sizes_of t
      sizes = sizes_same t t' s.size (s.rest 0 (zero_not_lost g₀ lost) (low_not_dead g₀ v₀ 0 (omega arith)))

      inside : lost_outside g₀ lost ≡ false → recover_of t' lost scratch ≡ recover_of t lost scratch
      inside o = recover_alike lost scratch {t = t} {t' = t'} (record {
        sizes = sizes;
        views = λ g h. rw (← sizes_geometry t g h) (lost_views lost o s);
        entries = λ g h. rw (← sizes_geometry t g h) (lost_entries lost o s);
      })

      checked : lost_outside g₀ lost ≡ true → (c : Result Geometry Refusal) → sizes_of t ≡ c
          → recover_checked t' lost scratch c ≡ recover_checked t lost scratch c
      checked o (Err x) h = refl
      checked o (Ok g) h =
          let q : lost_outside g lost ≡ true = rw (sizes_geometry t g h) at o in
          outside_refused t' lost scratch g q ∙ sym (outside_refused t lost scratch g q)

      out : lost_outside g₀ lost ≡ true → recover_of t' lost scratch ≡ recover_of t lost scratch
      out o = ap (recover_checked t' lost scratch) sizes ∙ checked o (sizes_of t) refl

dead_lost : (lost : Option ℕ) (t t' : List ℕ) → SameButDead t t' → SameButLost lost t t'
dead_lost lost t t' s = record { size = s.size; rest = λ i _ h. s.rest i h }

-- ---- THE THEOREM

calls_unread :
    (t t' : List ℕ) → SameButDead t t' → (scratch : ℕ) (call : Call) → plan_of t' scratch call ≡ plan_of t scratch call
unfolding plan_of
calls_unread t t' s scratch (Format n m f) = format_same t t' s.size (geometry_of n m f)
calls_unread t t' s scratch Check = ap checked_plan (alike_fault (dead_alike t t' s))
calls_unread t t' s scratch (Stretch n) = ap (stretch_checked n) (dead_alike t t' s).sizes
calls_unread t t' s scratch (Read n b) = read_alike (dead_alike t t' s) n b
calls_unread t t' s scratch (Write n b x) = write_alike (dead_alike t t' s) n b x
calls_unread t t' s scratch (Evict n b place) = evict_alike (dead_alike t t' s) n b place
calls_unread t t' s scratch Open = open_alike (dead_alike t t' s)
calls_unread t t' s scratch Create = create_alike (dead_alike t t' s)
calls_unread t t' s scratch Commit = commit_alike (dead_alike t t' s)
calls_unread t t' s scratch Abandon = abandon_alike (dead_alike t t' s)
calls_unread t t' s scratch (Recover lost) = recover_unread t t' lost (dead_lost lost t t' s) scratch

pub unread : Unread
unfolding plan_of
unread = record { by_calls = calls_unread; by_recover = λ lost t t' s scratch. recover_unread t t' lost s scratch }
