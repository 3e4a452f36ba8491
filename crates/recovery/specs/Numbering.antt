-- "Next, items ascending, then node, one state store for each change: each number's lowest holder stays; if one number is absent, the second lowest
-- holder of the other, where there is one, takes it; further copies go Invalid."
use Rattle.std.specs.Prelude.{ℕ, ◌-◌, ◌*◌, ◌/◌, ◌%◌, zero, suc, not, cond, ◌&&◌, Bool, List, [], ◌∷◌, ◌++◌, map, eqb}
use Rattle.counting.specs.Counting.{count, first}
use Rattle.counting.specs.Cyclic.{first_after}
use Rattle.table.specs.declared.geometry.Geometry.{Geometry}
use Rattle.table.specs.Words.{invalid, shared_ck}
use Rattle.table.specs.Changes.{checkpoint_of}
use Rattle.table.specs.Stores.{Store, Change, entry_store, value_to, state_to}
use Rattle.table.specs.View.{View, live, current, Entry, updates, pass}
use Rattle.entries.specs.Tally.{has, copy}
use Rattle.recovery.specs.Sides.{settled}
use Rattle.entries.specs.Frames.{frame_free}

-- how many live nodes below n hold item b as the Shared-CK of this number
unfoldable pub holders : View → ℕ → ℕ → ℕ → ℕ
holders w b number n = count (has w b (shared_ck number)) n

-- what becomes of a copy with this number, after so many lower holders of its number, where the other number has so many
unfoldable pub number_after : ℕ → ℕ → ℕ → ℕ
number_after number lower others =
    cond (eqb lower 0) (shared_ck number) (cond (eqb lower 1 && eqb others 0) (shared_ck (3 - number)) invalid)

-- the number of node n's copy of item b, 0 if it has none
abbrev pub number_at : View → ℕ → ℕ → ℕ
number_at w n b = checkpoint_of (current (w.entry n b))

unfoldable pub number_change : Geometry → View → ℕ → ℕ → List Change
number_change g w n b =
    cond (live w n && not (eqb (number_at w n b) 0))
    (settled (number_after (number_at w n b) (holders w b (number_at w n b) n) (holders w b (3 - number_at w n b) g.nodes)) (w.entry n b)) []

-- "items ascending, then node": place k of the pass is item k / N, node k % N
unfoldable pub number_stores : Geometry → View → List Store
number_stores g w =
    pass (λ k. k % g.nodes) (λ k. k / g.nodes) (λ k. number_change g w (k % g.nodes) (k / g.nodes)) (g.items * g.nodes)

-- ---- "Then, items ascending, a single copy gets its partner, which takes the absent number: from its node, the first live node after it with current
-- Invalid and used < F (value, state)."

-- item b has one copy, and its holder
unfoldable pub single : Geometry → View → ℕ → Bool
single g w b = eqb (count (copy w b) g.nodes) 1

unfoldable pub holder_of : Geometry → View → ℕ → ℕ
holder_of g w b = first (copy w b) g.nodes

-- a node that can take the partner of item b's copy
unfoldable pub takes : Geometry → View → ℕ → ℕ → Bool
takes g w b n = live w n && (eqb (current (w.entry n b)) invalid && frame_free g w n b)

-- "from its node, the first live node after it" that can; the node itself if none can
unfoldable pub partner_of : Geometry → View → ℕ → ℕ → ℕ
partner_of g w b n = first_after (takes g w b) g.nodes n

-- "takes the absent number .. (value, state)": the partner of the copy in entry e
unfoldable pub partner_changes : Entry → List Change
partner_changes e = value_to e.value ∷ state_to (shared_ck (3 - checkpoint_of (current e))) invalid ∷ []

-- the partner of node n's copy of item b
unfoldable pub partner_from : Geometry → View → ℕ → ℕ → List Store
partner_from g w b n =
    cond (eqb (partner_of g w b n) n) [] (map (entry_store (partner_of g w b n) b) (partner_changes (w.entry n b)))

unfoldable pub partner_stores : Geometry → ℕ → View → List Store
partner_stores g b w = cond (single g w b) (partner_from g w b (holder_of g w b)) []

-- f 0, f 1, .. and f (n − 1), each on the view that the ones before it leave
unfoldable pub staged : (ℕ → View → List Store) → ℕ → View → List Store
staged f zero w = []
staged f (suc n) w = staged f n w ++ f n (updates (staged f n w) w)

-- "items ascending"
unfoldable pub partners_stores : Geometry → View → List Store
partners_stores g w = staged (partner_stores g) g.items w
