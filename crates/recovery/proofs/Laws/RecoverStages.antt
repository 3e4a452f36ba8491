-- Recover's stages one after the other, as code makes them on the table as it stands: the stores of the whole call, cut anywhere.
use Rattle.std.specs.Prelude.{None, Option, Some}
use Prim.Native.Nat.{ℕ, zero, suc, ◌*◌, ◌/◌, ◌%◌, ◌≤◌}
use mathlib.Core.Path.{◌≡◌, refl, sym, ap, ◌∙◌, fun_ext}
use mathlib.Core.Bool.{Bool, false}
use mathlib.Core.List.{List}
use native.Mathlib.Omega.{arith}
use lib.Dec.{eqb}
use lib.ListN.{length}
use lib.Seq.{take_all}
use Rattle.counting.proofs.Laws.Tests.{by_cases}
use Rattle.table.specs.declared.geometry.Geometry.{Geometry}
use Rattle.table.specs.Geometry.{words_of}
use Rattle.table.specs.Stores.{Store, Stored, mark_store}
use Rattle.table.proofs.Laws.Stores.{All, none, more, after_zero, stored_then, stored_as}
use Rattle.table.specs.View.{View, view, put₁, updates}
use Rattle.table.proofs.Laws.ViewAfter.{Within, view_after}
use Rattle.table.proofs.Laws.Pass.{columns_within, grid_within}
use Rattle.checkpoints.specs.Checkpoint.{live_changes, entries_before, entries_to}
use Rattle.survivors.specs.Survivors.{lost_stores, survivors, lost_outside, closing_stores}
use Rattle.survivors.specs.Direction.{forward_in}
use Rattle.recovery.specs.Sides.{roll_change, roll_stores}
use Rattle.recovery.specs.Numbering.{number_change, number_stores, partners_stores}
use Rattle.recovery.specs.Recover.{followed, survivor_stores, recover_stores}
use Rattle.recovery.proofs.Laws.Followed.{Entered, entered_pass, stage_follows}
use Rattle.recovery.proofs.Laws.PartnersCode.{entered_partners}
use Rattle.survivors.proofs.Laws.ClosingMarksCode.{lost_within}

-- ---- the stages store in entries that are there

pub entered_roll : (g : Geometry) (w : View) → All (Entered g) (roll_stores g w)
unfolding roll_stores entries_before
entered_roll g w =
    entered_pass g (λ k. k / g.items) (λ k. k % g.items) (λ k. live_changes (roll_change (forward_in g w)) w (k / g.items) (k % g.items))
    (g.nodes * g.items) (grid_within g)

-- "items ascending, then node"
pub entered_number : (g : Geometry) (w : View) → All (Entered g) (number_stores g w)
unfolding number_stores
entered_number g w =
    entered_pass g (λ k. k % g.nodes) (λ k. k / g.nodes) (λ k. number_change g w (k % g.nodes) (k / g.nodes)) (g.items * g.nodes) (columns_within g.nodes g.items)

-- ---- one stage, then the others

followed_stored :
    {g : Geometry} {l l₁ l₂ : ℕ} {t t₁ t₂ : List ℕ} (lost : Option ℕ) (f h : View → List Store) → words_of g ≤ length t
    → All (Entered g) (f (survivors lost (view g t))) → Stored g l (f (survivors lost (view g t))) t t₁ l₁
    → Stored g l₁ (h (survivors lost (view g t₁))) t₁ t₂ l₂ → Stored g l (followed f h (survivors lost (view g t))) t t₂ l₂
unfolding followed
followed_stored lost f h long within s r = stage_follows lost h long within s r

-- the entries roll to the side that the survivors choose
roll_stored :
    (g : Geometry) (w : View) {forward : Bool} {l l₁ : ℕ} {t t₁ : List ℕ} → forward ≡ forward_in g w
    → Stored g l (entries_to g w (roll_change forward)) t t₁ l₁ → Stored g l (roll_stores g w) t t₁ l₁
unfolding roll_stores
roll_stored g w e s = rw (← e) s

pub survivors_stored :
    (g : Geometry) (lost : Option ℕ) {forward : Bool} {l l₁ l₂ l₃ l₄ : ℕ} {t t₁ t₂ t₃ t₄ : List ℕ} → words_of g ≤ length t
    → forward ≡ forward_in g (survivors lost (view g t))
    → Stored g l (entries_to g (survivors lost (view g t)) (roll_change forward)) t t₁ l₁
    → Stored g l₁ (number_stores g (survivors lost (view g t₁))) t₁ t₂ l₂
    → Stored g l₂ (partners_stores g (survivors lost (view g t₂))) t₂ t₃ l₃
    → Stored g l₃ (closing_stores g (survivors lost (view g t₃))) t₃ t₄ l₄
    → Stored g l (survivor_stores g (survivors lost (view g t))) t t₄ l₄
unfolding survivor_stores
survivors_stored g lost {t = t} {t₁} {t₂} long way a b c d =
    followed_stored lost (roll_stores g) (followed (number_stores g) (followed (partners_stores g) (closing_stores g))) long
    (entered_roll g (survivors lost (view g t))) (roll_stored g (survivors lost (view g t)) way a)
    (followed_stored lost (number_stores g) (followed (partners_stores g) (closing_stores g)) (omega (arith, a.size))
    (entered_number g (survivors lost (view g t₁))) b
    (followed_stored lost (partners_stores g) (closing_stores g) (omega (arith, a.size, b.size)) (entered_partners g (survivors lost (view g t₂))) c d))

-- ---- the lost mark first

survivors_twice : (lost : Option ℕ) (v : View) → survivors lost (survivors lost v) ≡ survivors lost v
survivors_twice None v = refl
survivors_twice (Some m) v = λ i. record { mark = fun_ext again i; entry = v.entry }
  where
    again : (n : ℕ) → put₁ (put₁ v.mark m 0) m 0 n ≡ put₁ v.mark m 0 n
    again n = by_cases (eqb n m) (λ e. rw e refl) (λ e. rw e refl)

-- stored or not, the survivors are the same
pub survivors_same :
    {g : Geometry} (lost : Option ℕ) (l : ℕ) {l₁ : ℕ} {t t₁ : List ℕ} → words_of g ≤ length t → All (Within g) (lost_stores lost)
    → Stored g l (lost_stores lost) t t₁ l₁ → survivors lost (view g t₁) ≡ survivors lost (view g t)
survivors_same {g} lost zero {t = t} long within s = ap (λ (u : List ℕ). survivors lost (view g u)) (s.table ∙ after_zero g (lost_stores lost) t)
survivors_same {g} lost (suc l) {t = t} long within s =
    ap (λ (u : List ℕ). survivors lost (view g u)) s.table
    ∙ ap (survivors lost) (view_after g (suc l) t long within ∙ ap (λ (ss : List Store). updates ss (view g t)) (take_all (suc l) (lost_stores lost) (few lost)))
    ∙ survivors_twice lost (view g t)
  where
    few : (lost : Option ℕ) → length (lost_stores lost) ≤ suc l
    few None = omega arith
    few (Some m) = omega arith

pub lost_stores_within : (g : Geometry) (lost : Option ℕ) → lost_outside g lost ≡ false → All (Within g) (lost_stores lost)
lost_stores_within g None h = none
lost_stores_within g (Some m) h = more {s = mark_store m 0} (lost_within g (Some m) h refl) none

pub recover_stored :
    (g : Geometry) (lost : Option ℕ) {l l₁ l₂ : ℕ} {t t₁ t₂ : List ℕ} → words_of g ≤ length t → lost_outside g lost ≡ false
    → Stored g l (lost_stores lost) t t₁ l₁ → Stored g l₁ (survivor_stores g (survivors lost (view g t₁))) t₁ t₂ l₂
    → Stored g l (recover_stores g lost (view g t)) t t₂ l₂
unfolding recover_stores
recover_stored g lost {l} long inside a b =
    stored_then a (stored_as (ap (survivor_stores g) (sym (survivors_same lost l long (lost_stores_within g lost inside) a))) b)
