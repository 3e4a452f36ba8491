-- The laws of `specs/Made.antt`. A list of stores is made if it is stored: what stores do to the table, the laws of
-- `Stored` tell.
use Prim.Native.Nat.{ℕ, ◌-◌, ◌≤◌}
use mathlib.Core.Path.{◌≡◌, refl, ap, ◌∙◌}
use mathlib.Core.List.{List, [], ◌∷◌, ◌++◌, map}
use Rattle.table.specs.declared.geometry.Geometry.{Geometry}
use Rattle.table.specs.declared.stores.Stores.{Stores}
use Rattle.table.specs.Stores.{Change, Store, entry_store, address_of, word_of, Wrote, Stored, runs}
use Rattle.table.specs.View.{view}
use Rattle.table.specs.Made.{Made, MadeIn, shown}
use Rattle.table.specs.declared.answers.Answer.TheVariants.{Done}
use Rattle.table.specs.Answers.{Plan, carry, Meets}
use Rattle.table.proofs.Laws.Answers.{meets_done}
use Rattle.table.proofs.Laws.Stores.{stored_none, stored_one, stored_then, loop-starts, loop-ends}

-- ---- the lists, as those of `Stored`

pub made_none : (s : Stores) → Made s [] s
made_none s = record { same_reference = refl; same_geometry = refl; stored = stored_none _ _ _ }

-- one word, where and as the store says
pub made_one :
    {s s₁ : Stores} (st : Store) {at word : ℕ} → s₁.table.ghost_name ≡ s.table.ghost_name → s₁.g ≡ s.g
    → Wrote s.left at word s.table.now s₁.table.now s₁.left → at ≡ address_of s.g st → word ≡ word_of st → Made s (st ∷ []) s₁
made_one {s = s} st r g w p q = record { same_reference = r; same_geometry = g; stored = stored_one s.g st w p q }

-- the same list, written otherwise
pub made_as : {s s' : Stores} {ss ss' : List Store} → ss ≡ ss' → Made s ss' s' → Made s ss s'
made_as e m = rw e m

-- the same for the changes of one entry
pub made_in_as :
    (n b : ℕ) {s s' : Stores} {cs cs' : List Change} → cs ≡ cs' → MadeIn s n b cs' s' → MadeIn s n b cs s'
made_in_as n b e m = made_as (ap (map (entry_store n b)) e) m

-- ---- the next step, told of the first geometry

-- a step at another geometry that is the same
pub stored_in :
    {g : Geometry} {s s' : Stores} {ss : List Store} → s.g ≡ g → Made s ss s'
    → Stored g s.left ss s.table.now s'.table.now s'.left
stored_in e m = rw e at m.stored

pub stored_next :
    {s s₁ s₂ : Stores} {xs ys : List Store} → Made s xs s₁ → Made s₁ ys s₂
    → Stored s.g s₁.left ys s₁.table.now s₂.table.now s₂.left
stored_next a b = stored_in a.same_geometry b

-- what the table shows then
pub shown_next : {s s₁ : Stores} {xs : List Store} → Made s xs s₁ → shown s₁ ≡ view s.g s₁.table.now
shown_next {s₁ = s₁} a = ap (λ g. view g s₁.table.now) a.same_geometry

-- ---- one, two and three steps

-- what is stored by the first geometry, whatever law tells of it: another list by the same step, then two, then three
pub made_with :
    {s s₁ : Stores} {xs all : List Store} → Made s xs s₁
    → Stored s.g s.left all s.table.now s₁.table.now s₁.left → Made s all s₁
made_with a d = record { same_reference = a.same_reference; same_geometry = a.same_geometry; stored = d }

pub made_more :
    {s s₁ s₂ : Stores} {xs ys all : List Store} → Made s xs s₁ → Made s₁ ys s₂
    → Stored s.g s.left all s.table.now s₂.table.now s₂.left → Made s all s₂
made_more a b d =
    record {
      same_reference = b.same_reference ∙ a.same_reference;
      same_geometry = b.same_geometry ∙ a.same_geometry;
      stored = d;
    }

pub made_three :
    {s s₁ s₂ s₃ : Stores} {xs ys zs all : List Store} → Made s xs s₁ → Made s₁ ys s₂ → Made s₂ zs s₃
    → Stored s.g s.left all s.table.now s₃.table.now s₃.left → Made s all s₃
made_three a b c d = made_more (made_more a b (stored_then a.stored (stored_next a b))) c d

-- one list after the other
pub made_then : {s s₁ s₂ : Stores} {xs ys : List Store} → Made s xs s₁ → Made s₁ ys s₂ → Made s (xs ++ ys) s₂
made_then a b = made_more a b (stored_then a.stored (stored_next a b))

-- a step more, by a law of what is stored; a list `ys` that speaks of the geometry or of what the table shows wants
-- `made_more a b (law (rw a.same_geometry at b.stored))`
pub made_turn :
    {s s₁ s₂ : Stores} {xs ys all : List Store} → Made s xs s₁ → Made s₁ ys s₂
    → (Stored s.g s₁.left ys s₁.table.now s₂.table.now s₂.left
    → Stored s.g s.left all s.table.now s₂.table.now s₂.left)
    → Made s all s₂
made_turn a b law = made_more a b (law (stored_next a b))

-- ---- a storing loop: before the first turn, and at the end

pub made_starts : (f : ℕ → List Store) (s : Stores) → Made s (runs f 0) s
made_starts f s = made_with (made_none s) (loop-starts s.g f s.left s.table.now)

pub made_ends :
    (f : ℕ → List Store) (n m : ℕ) {s s₁ : Stores} → n ≤ m → m ≤ n → Made s (runs f n) s₁ → Made s (runs f m) s₁
made_ends f n m h k a = made_with a (loop-ends f n m h k a.stored)

-- ---- a public function, which lends its table: the plan of what it makes is met

pub meets_made :
    {p : Plan} {v : ℕ} {s s₁ : Stores} {ss : List Store} {t' : List ℕ} → p ≡ carry s.g v ss → Made s ss s₁
    → t' ≡ s₁.table.now → Meets p s.left s.table.now t' (Done v (s.left - s₁.left))
meets_made {s = s} h m e = rw e (meets_done s.left h m.stored)
