-- Stages of stores, each a function of the view that it finds: code that reads the table as it stands makes the stores of the whole list, cut anywhere.
-- If anything is left of the limit nothing was cut, so the table is the one that the list speaks of; if nothing is left nothing is stored.
use Rattle.std.specs.Prelude.{None, Option, Some}
use Prim.Native.Nat.{ℕ, zero, suc, ◌≤◌, ◌<◌}
use mathlib.Core.Path.{◌≡◌, refl, sym, ap, ◌∙◌}
use mathlib.Core.List.{List, [], ◌∷◌, ◌++◌, map}
use native.Mathlib.Omega.{arith}
use lib.ListN.{length}
use lib.Seq.{take_all}
use Rattle.table.specs.declared.geometry.Geometry.{Geometry}
use Rattle.table.specs.Geometry.{words_of}
use Rattle.table.specs.Stores.{Change, Store, size_store, mark_store, entry_store, Stored}
use Rattle.table.proofs.Laws.Stores.{All, none, more, all_runs, after_zero, stored_then, stored_as}
use Rattle.table.specs.View.{View, view, update, updates, pass}
use Rattle.table.proofs.Laws.ViewAfter.{Within, view_after}
use Rattle.survivors.specs.Survivors.{survivors}

-- nothing left: the same for another list
pub stored_any :
    {g : Geometry} {ss : List Store} (ss' : List Store) {left' : ℕ} {t t' : List ℕ} → Stored g 0 ss t t' left' → Stored g 0 ss' t t' left'
stored_any {g} {ss} ss' {t = t} s =
    record { table = s.table ∙ after_zero g ss t ∙ sym (after_zero g ss' t); rest = omega (arith, s.rest); size = s.size }

-- something left: nothing was cut
view_whole :
    {g : Geometry} {pre : List Store} {l₀ l : ℕ} {t₀ t : List ℕ} → words_of g ≤ length t₀ → All (Within g) pre → Stored g l₀ pre t₀ t (suc l)
    → view g t ≡ updates pre (view g t₀)
view_whole {g} {pre} {l₀} {t₀ = t₀} long within s =
    let h : length pre ≤ l₀ = omega (arith, s.rest) in
    ap (view g) s.table ∙ view_after g l₀ t₀ long within ∙ ap (λ (ss : List Store). updates ss (view g t₀)) (take_all l₀ pre h)

pub view_left :
    {g : Geometry} {pre : List Store} {l₀ l : ℕ} {t₀ t : List ℕ} → words_of g ≤ length t₀ → All (Within g) pre → (l ≡ 0 → ⊥) → Stored g l₀ pre t₀ t l
    → view g t ≡ updates pre (view g t₀)
view_left {l = zero} long within d s = absurd (d refl)
view_left {l = suc l} long within d s = view_whole long within s

-- a stage f that reads the view of the table as it stands
pub stored_follows :
    {g : Geometry} {pre : List Store} {l₀ l l' : ℕ} {t₀ t t' : List ℕ} (f : View → List Store) → words_of g ≤ length t₀ → All (Within g) pre
    → Stored g l₀ pre t₀ t l → Stored g l (f (view g t)) t t' l' → Stored g l₀ (pre ++ f (updates pre (view g t₀))) t₀ t' l'
stored_follows {g} {pre} {l = zero} {t₀ = t₀} f long within s r = stored_then s (stored_any (f (updates pre (view g t₀))) r)
stored_follows {l = suc l} f long within s r = stored_then s (stored_as (ap f (sym (view_whole long within s))) r)

-- ---- stages that store in entries only, on the view of the survivors

-- a store in an entry that is there
abbrev pub Entered : Geometry → Store → Type 0
Entered g (size_store h) = ⊥
Entered g (mark_store n w) = ⊥
Entered g (entry_store n b c) = (n < g.nodes) × (b < g.items)

pub entered_within : (g : Geometry) {ss : List Store} → All (Entered g) ss → All (Within g) ss
entered_within g none = none
entered_within g (more {s = size_store h} p a) = absurd p
entered_within g (more {s = mark_store n w} p a) = absurd p
entered_within g (more {s = entry_store n b c} p a) = more p (entered_within g a)

pub entered_changes : (g : Geometry) (n b : ℕ) (cs : List Change) → n < g.nodes → b < g.items → All (Entered g) (map (entry_store n b) cs)
entered_changes g n b [] hn hb = none
entered_changes g n b (c ∷ cs) hn hb = more {s = entry_store n b c} (hn, hb) (entered_changes g n b cs hn hb)

pub entered_pass :
    (g : Geometry) (nd it : ℕ → ℕ) (changes : ℕ → List Change) (places : ℕ)
    → ((k : ℕ) → k < places → (nd k < g.nodes) × (it k < g.items)) → All (Entered g) (pass nd it changes places)
entered_pass g nd it changes places within =
    all_runs (λ k. map (entry_store (nd k) (it k)) (changes k)) places
    (λ k h. entered_changes g (nd k) (it k) (changes k) (within k h).0 (within k h).1)

one_entered : (lost : Option ℕ) (n b : ℕ) (c : Change) (v : View) → survivors lost (update (entry_store n b c) v) ≡ update (entry_store n b c) (survivors lost v)
one_entered None n b c v = refl
one_entered (Some m) n b c v = refl

-- the lost mark is no matter to such stores
pub survivors_entered :
    (g : Geometry) {ss : List Store} (lost : Option ℕ) (v : View) → All (Entered g) ss → survivors lost (updates ss v) ≡ updates ss (survivors lost v)
survivors_entered g lost v none = refl
survivors_entered g lost v (more {s = size_store h} p a) = absurd p
survivors_entered g lost v (more {s = mark_store n w} p a) = absurd p
survivors_entered g lost v (more {s = entry_store n b c} {ss} p a) =
    survivors_entered g lost (update (entry_store n b c) v) a ∙ ap (λ (u : View). updates ss u) (one_entered lost n b c v)

pub stage_follows :
    {g : Geometry} {pre : List Store} {l₀ l l' : ℕ} {t₀ t t' : List ℕ} (lost : Option ℕ) (f : View → List Store) → words_of g ≤ length t₀
    → All (Entered g) pre → Stored g l₀ pre t₀ t l → Stored g l (f (survivors lost (view g t))) t t' l'
    → Stored g l₀ (pre ++ f (updates pre (survivors lost (view g t₀)))) t₀ t' l'
stage_follows {g} {pre} {t₀ = t₀} lost f long within s r =
    stored_as (ap (λ (w : View). pre ++ f w) (sym (survivors_entered g lost (view g t₀) within)))
    (stored_follows (λ v. f (survivors lost v)) long (entered_within g within) s r)
