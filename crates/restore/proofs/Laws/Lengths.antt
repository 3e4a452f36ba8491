-- How long lists of stores are: choices, passes over places, passes over marks. And a limit that a list does not reach is the whole list.
use Prim.Native.Nat.{ℕ, zero, suc, ◌+◌, ◌*◌, ◌/◌, ◌%◌, ◌≤◌}
use mathlib.Core.Path.{◌≡◌, refl}
use mathlib.Core.Bool.{Bool, true, false, cond}
use mathlib.Core.List.{List, [], ◌∷◌, ◌++◌, map}
use native.Mathlib.Omega.{arith}
use lib.ListN.{length, set, length-append, length-map}
use Rattle.table.specs.declared.geometry.Geometry.{Geometry}
use Rattle.table.specs.Stores.{Change, Store, entry_store, address_of, word_of, after, runs}
use Rattle.table.specs.View.{Entry, View, live, updates, pass, mark_to, marks_to}
use Rattle.checkpoints.specs.Checkpoint.{live_changes, entries_before, entries_to}
use Rattle.recovery.specs.Numbering.{staged}

-- ---- lists

pub cond_short : {A : Type 0} (q : Bool) (xs ys : List A) (c : ℕ) → length xs ≤ c → length ys ≤ c → length (cond q xs ys) ≤ c
cond_short true xs ys c h k = h
cond_short false xs ys c h k = k

pub then_short : {A : Type 0} (xs ys : List A) (c d : ℕ) → length xs ≤ c → length ys ≤ d → length (xs ++ ys) ≤ c + d
then_short xs ys c d h k = omega (arith, length-append xs ys)

pub changes_short : (n b : ℕ) (cs : List Change) (c : ℕ) → length cs ≤ c → length (map (entry_store n b) cs) ≤ c
changes_short n b cs c h = omega (arith, length-map cs (entry_store n b))

-- ---- passes: n places with at most c stores each

pub runs_short : (f : ℕ → List Store) (c : ℕ) → ((i : ℕ) → length (f i) ≤ c) → (n : ℕ) → length (runs f n) ≤ n * c
unfolding runs
runs_short f c h zero = omega arith
runs_short f c h (suc n) = omega (arith, length-append (runs f n) (f n), runs_short f c h n, h n)

pub pass_short :
    (nd it : ℕ → ℕ) (changes : ℕ → List Change) (c : ℕ) → ((k : ℕ) → length (changes k) ≤ c) → (n : ℕ) → length (pass nd it changes n) ≤ n * c
pass_short nd it changes c h n = runs_short _ c (λ k. changes_short (nd k) (it k) (changes k) c (h k)) n

pub staged_short :
    (f : ℕ → View → List Store) (c : ℕ) → ((i : ℕ) (w : View) → length (f i w) ≤ c) → (n : ℕ) (w : View) → length (staged f n w) ≤ n * c
unfolding staged
staged_short f c h zero w = omega arith
staged_short f c h (suc n) w =
    omega (arith, length-append (staged f n w) (f n (updates (staged f n w) w)), staged_short f c h n w, h n (updates (staged f n w) w))

pub marks_short : (g : Geometry) (v : View) (f : ℕ → ℕ) → length (marks_to g v f) ≤ g.nodes
unfolding marks_to mark_to
marks_short g v f =
    let s = runs_short (mark_to v f) 1 (λ n. cond_short (live v n) _ [] 1 (omega arith) (omega arith)) g.nodes in omega (arith, s)

pub entries_short :
    (g : Geometry) (v : View) (change : Entry → List Change) (c : ℕ) → ((e : Entry) → length (change e) ≤ c)
    → length (entries_to g v change) ≤ g.nodes * g.items * c
unfolding entries_before live_changes
entries_short g v change c h =
    pass_short (λ k. k / g.items) (λ k. k % g.items) (λ k. live_changes change v (k / g.items) (k % g.items)) c
    (λ k. cond_short (live v (k / g.items)) (change (v.entry (k / g.items) (k % g.items))) [] c (h (v.entry (k / g.items) (k % g.items))) (omega arith))
    (g.nodes * g.items)

-- ---- a limit past the list

pub after_past : (g : Geometry) (limit : ℕ) (ss : List Store) (t : List ℕ) → length ss ≤ limit → after g limit ss t ≡ after g (length ss) ss t
unfolding after
after_past g zero [] t h = refl
after_past g zero (s ∷ ss) t h = absurd (omega arith)
after_past g (suc limit) [] t h = refl
after_past g (suc limit) (s ∷ ss) t h = after_past g limit ss (set t (address_of g s) (word_of s)) (omega arith)
