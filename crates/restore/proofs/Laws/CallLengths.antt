-- How long the lists of Format, Read, Write, Evict, Open, Create, Commit and Abandon are.
use Rattle.std.specs.Prelude.{None, Option, Some}
use Prim.Native.Nat.{ℕ, ◌+◌, ◌*◌, ◌/◌, ◌%◌, ◌≤◌}
use mathlib.Core.Path.{◌≡◌, refl, ap, ◌∙◌}
use mathlib.Core.Bool.{cond, ◌||◌}
use mathlib.Core.List.{List, [], ◌∷◌, ◌++◌, map}
use native.Mathlib.Omega.{arith}
use lib.Dec.{eqb}
use lib.ListN.{length, length-append}
use Rattle.table.specs.declared.geometry.Geometry.{Geometry}
use Rattle.table.specs.Words.{current_of}
use Rattle.table.specs.Changes.{checkpoint_of, keep}
use Rattle.table.specs.Stores.{Store, entry_store, runs, value_to}
use Rattle.table.proofs.Laws.Stores.{runs_length}
use Rattle.table.specs.View.{Entry, View, current, marks_to}
use Rattle.table.specs.Answers.{carry}
use Rattle.layout.specs.Format.{first_entry, first_mark, first_entries, format_stores, format_of}
use Rattle.layout.proofs.Laws.Format.{format_accepted}
use Rattle.homes.specs.declared.places.Place.{Place}
use Rattle.homes.specs.declared.places.Place.TheVariants.{Current, Kept}
use Rattle.homes.specs.declared.home.Arrival.{Arrival}
use Rattle.homes.specs.declared.home.Dropped.{Dropped}
use Rattle.calls.specs.Transitions.{change_to}
use Rattle.calls.specs.Read.{fetches, fetch_from, fetch_stores, read_stores, server_of, served, server_changes, reader_changes}
use Rattle.calls.specs.Write.{other_change, other_changes, other_stores, own_keep, own_changes, write_stores}
use Rattle.homes.specs.Home.{arrival_of, drop_by, drop_stores, arrival_changes, takeover_stores, home_of, home_stores_by, home_stores}
use Rattle.homes.specs.Evict.{dropped, source_stores, moved_to, moved_stores, evict_stores}
use Rattle.checkpoints.specs.Create.{has_sharer, precommit2_stores, create_item}
use Rattle.checkpoints.specs.Checkpoint.{is_precommit, entries_to, to_commit, commit_change, abandon_change}
use Rattle.checkpoints.specs.Commit.{committing_mark, committed_mark, commit_stores, running_mark, abandon_stores}
use Rattle.restore.proofs.Laws.Lengths.{cond_short, then_short, changes_short, pass_short, marks_short, entries_short}

-- ---- Format: "all 1 + N + 3 × N × M words"

stores_length : (g : Geometry) → length (format_stores g) ≡ 1 + g.nodes + 3 * (g.nodes * g.items)
unfolding format_stores first_entries
stores_length g =
    let marks = runs_length first_mark 1 (λ n. refl) g.nodes in
    let words : ℕ → List Store = λ k. map (entry_store (k / g.items) (k % g.items)) (first_entry g (k / g.items) (k % g.items)) in
    let entries = runs_length words 3 (λ k. refl) (g.nodes * g.items) in
    omega (arith, length-append (runs first_mark g.nodes) (runs words (g.nodes * g.items)), marks, entries)

pub format_length :
    (t : List ℕ) (n m f : ℕ) {g : Geometry} {x : ℕ} {ss : List Store} → format_of t n m f ≡ carry g x ss
    → length ss ≡ 1 + g.nodes + 3 * (g.nodes * g.items)
format_length t n m f {g} e = ap length (format_accepted t n m f e).stores ∙ stores_length g

-- ---- an entry, by the state table

change_short : (next : ℕ) (e : Entry) → length (change_to next e) ≤ 2
unfolding change_to
change_short next e =
    cond_short (eqb next keep) _ _ 2 (omega arith) (cond_short (eqb next (current e)) [] _ 2 (omega arith) (omega arith))

-- ---- Read

pub read_length : (g : Geometry) (v : View) (n b : ℕ) → length (read_stores g v n b) ≤ 4
unfolding read_stores fetch_from
read_length g v n b =
    let server = server_of g v b in
    cond_short (fetches (v.entry n b)) (fetch_stores g v n b) [] 4
    (then_short (map (entry_store server b) (server_changes (v.entry server b))) (map (entry_store n b) (reader_changes (v.entry n b) (served g v b).value)) 2 2
    (changes_short server b (server_changes (v.entry server b)) 2 (change_short _ (v.entry server b))) (omega arith))
    (omega arith)

-- ---- Write

others_short : (g : Geometry) (v : View) (n b : ℕ) → length (other_stores g v n b) ≤ g.nodes * 2
unfolding other_stores other_changes
others_short g v n b =
    pass_short (λ k. k) (λ k. b) (other_changes v n b) 2
    (λ k. cond_short (eqb k n || eqb (v.mark k) 0) [] (other_change (v.entry k b)) 2 (omega arith) (change_short _ (v.entry k b))) g.nodes

own_short : (e : Entry) (x : ℕ) → length (own_changes e x) ≤ 4
unfolding own_changes own_keep
own_short e x =
    then_short (own_keep e.state e.value ++ (value_to x ∷ [])) _ 3 1
    (then_short (own_keep e.state e.value) (value_to x ∷ []) 2 1
    (cond_short (eqb (checkpoint_of (current_of e.state)) 0) [] _ 2 (omega arith) (omega arith)) (omega arith))
    (omega arith)

pub write_length : (g : Geometry) (v : View) (n b x : ℕ) → length (write_stores g v n b x) ≤ g.nodes * 2 + 4
unfolding write_stores
write_length g v n b x =
    then_short (other_stores g v n b) (map (entry_store n b) (own_changes (v.entry n b) x)) (g.nodes * 2) 4 (others_short g v n b)
    (changes_short n b (own_changes (v.entry n b) x) 4 (own_short (v.entry n b) x))

-- ---- a copy that goes home

arrival_short : (place : Place) (code value : ℕ) (a : Arrival) → length (arrival_changes place code value a) ≤ 2
unfolding arrival_changes
arrival_short Current code value a = omega arith
arrival_short Kept code value a = omega arith

home_short : (g : Geometry) (v : View) (place : Place) (h b code value : ℕ) → length (home_stores g v place h b code value) ≤ 3
unfolding home_stores home_stores_by drop_stores
home_short g v place h b code value =
    let a = arrival_of g v place h b in
    cond_short a.takeover (takeover_stores h b code a) _ 3 (omega arith)
    (then_short (drop_stores h a) (map (entry_store h b) (arrival_changes place code value a)) 1 2
    (drop_short a.drop)
    (changes_short h b (arrival_changes place code value a) 2 (arrival_short place code value a)))
  where
    drop_short : (d : Option Dropped) → length (drop_by h d) ≤ 1
    drop_short None = omega arith
    drop_short (Some d) = omega arith

-- ---- Evict

pub evict_length : (g : Geometry) (v : View) (place : Place) (n b : ℕ) → length (evict_stores g v place n b) ≤ 4
unfolding evict_stores moved_to source_stores
evict_length g v place n b =
    then_short (cond (dropped place (v.entry n b)) [] (moved_stores g v place n b)) (source_stores place n b (v.entry n b).state) 3 1
    (cond_short (dropped place (v.entry n b)) [] (moved_stores g v place n b) 3 (omega arith) (home_short g v place (home_of g v place n b) b _ _))
    (omega arith)

-- ---- Create

partner_short : (g : Geometry) (v : View) (b o : ℕ) → length (precommit2_stores g v b o) ≤ 3
unfolding precommit2_stores
partner_short g v b o = cond_short (has_sharer g v b) _ _ 3 (omega arith) (home_short g v Current (home_of g v Current o b) b _ (v.entry o b).value)

pub create_length : (g : Geometry) (v : View) (b o : ℕ) → length (create_item g v b o) ≤ 4
unfolding create_item
create_length g v b o = omega (arith, partner_short g v b o)

-- ---- Commit, Abandon

commit_short : (e : Entry) → length (commit_change e) ≤ 1
unfolding commit_change
commit_short e = cond_short (to_commit e.state) _ [] 1 (omega arith) (omega arith)

abandon_short : (e : Entry) → length (abandon_change e) ≤ 1
unfolding abandon_change
abandon_short e = cond_short (is_precommit (current e)) _ [] 1 (omega arith) (omega arith)

pub commit_length_lem : (g : Geometry) (v : View) → length (commit_stores g v) ≤ g.nodes + g.nodes * g.items * 1 + g.nodes
unfolding commit_stores
commit_length_lem g v =
    then_short (marks_to g v committing_mark ++ entries_to g v commit_change) (marks_to g v committed_mark) _ _
    (then_short (marks_to g v committing_mark) (entries_to g v commit_change) _ _ (marks_short g v committing_mark)
    (entries_short g v commit_change 1 commit_short))
    (marks_short g v committed_mark)

pub abandon_length : (g : Geometry) (v : View) → length (abandon_stores g v) ≤ g.nodes * g.items * 1 + g.nodes
unfolding abandon_stores
abandon_length g v =
    then_short (entries_to g v abandon_change) (marks_to g v running_mark) _ _ (entries_short g v abandon_change 1 abandon_short)
    (marks_short g v running_mark)
