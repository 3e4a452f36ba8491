-- The ways of Read's code: a law for each, over what the code has read.
use Prim.Native.Nat.{ℕ, ◌-◌, ◌≤◌}
use mathlib.Core.Path.{◌≡◌, refl, ◌∙◌}
use mathlib.Core.Bool.{Bool, true, ◌&&◌}
use mathlib.Core.List.{List, [], ◌∷◌}
use native.Mathlib.Omega.{arith}
use native.Mathlib.Decide.{ℕ_discrete}
use lib.Dec.{eqb, leb}
use borrow.Author.Tests.{eq-eqb, ne_eqb, eqb-true, le-leb, leb-true}
use Rattle.counting.proofs.Laws.Tests.{both, and_both, bool_iff, either, or_left, or_right}
use Rattle.table.specs.declared.geometry.Geometry.{Geometry}
use Rattle.table.specs.declared.answers.Answer.TheVariants.{Done}
use Rattle.table.specs.Words.{current_of, kept_of, invalid, shared, owner, modified, shared_ck1}
use Rattle.table.specs.declared.stores.Stores.{Stores}
use Rattle.table.specs.Stores.{Stored, state_to, value_to}
use Rattle.table.proofs.Laws.Stores.{stored_none}
use Rattle.table.specs.Made.{Made, MadeIn}
use Rattle.table.proofs.Laws.Made.{made_then}
use Rattle.table.specs.View.{View, view}
use Rattle.table.specs.Answers.{Plan, carry, Meets}
use Rattle.table.proofs.Laws.Answers.{meets_done}
use Rattle.homes.specs.Admission.{frame_full}
use Rattle.homes.specs.Holders.{first_holder}
use Rattle.homes.proofs.Laws.Holders.{holder_first}
use Rattle.calls.specs.Read.{fetches, serves, serves_at, server_of, server_changes, fetch_from, read_stores, read_value}

-- a frame is needed if the current place is Invalid
pub fetch_full :
    (g : Geometry) (v : View) (n b : ℕ) {state now : ℕ} {full : Bool} → state ≡ (v.entry n b).state → now ≡ current_of state
    → full ≡ frame_full g v n b (eqb now invalid) → full ≡ frame_full g v n b (fetches (v.entry n b))
fetch_full g v n b s c f = rw (← s, ← c) f

-- "Server: Shared-CK1, Owner or Modified": codes 2 to 4
server_codes : (c : ℕ) → (leb owner c && leb c shared_ck1) ≡ serves c
server_codes c =
    bool_iff (leb owner c && leb c shared_ck1) (serves c)
    (λ h. let l = both (leb owner c) h in
    elim (ℕ_discrete c shared_ck1) [
      | yes e ↦ or_left _ (eq-eqb c shared_ck1 e)
      | no e ↦ or_right (eqb c shared_ck1) (elim (ℕ_discrete c owner) [
        | yes f ↦ or_left _ (eq-eqb c owner f)
        | no f ↦ or_right (eqb c owner) (eq-eqb c modified (omega (arith, leb-true owner c l.0, leb-true c shared_ck1 l.1)))
      ])
    ])
    (λ h. either (eqb c shared_ck1) h
    (λ e. within c (omega (arith, eqb-true c shared_ck1 e)) (omega (arith, eqb-true c shared_ck1 e)))
    (λ k. either (eqb c owner) k
    (λ e. within c (omega (arith, eqb-true c owner e)) (omega (arith, eqb-true c owner e)))
    (λ e. within c (omega (arith, eqb-true c modified e)) (omega (arith, eqb-true c modified e)))))
  where
    within : (c : ℕ) → 2 ≤ c → c ≤ 4 → (leb owner c && leb c shared_ck1) ≡ true
    within c l m = and_both (le-leb owner c l) (le-leb c shared_ck1 m)

pub server_held : (g : Geometry) (v : View) (b : ℕ) → first_holder g v b owner shared_ck1 ≡ server_of g v b
unfolding server_of serves_at
server_held g v b = holder_first g v b owner shared_ck1 serves server_codes

-- all that a fetch stores, in its order: the premises are in the order of the code's stores
pub fetch_all :
    (v : View) (server n b value : ℕ) {state k : ℕ} {s s₁ s₂ s₃ : Stores} → state ≡ (v.entry n b).state → k ≡ kept_of state
    → MadeIn s server b (server_changes (v.entry server b)) s₁
    → MadeIn s₁ n b (value_to value ∷ []) s₂
    → MadeIn s₂ n b (state_to shared k ∷ []) s₃ → Made s (fetch_from v server n b value) s₃
unfolding fetch_from
fetch_all v server n b value p q first second third = rw (← p, ← q) (made_then first (made_then second third))

-- carried out without a store
meets_none : {p : Plan} {g : Geometry} {x : ℕ} (limit : ℕ) {t : List ℕ} → p ≡ carry g x [] → Meets p limit t t (Done x 0)
meets_none {p} {g} {x} limit {t} h =
    let z : limit - limit ≡ 0 = omega arith in
    rw z at (meets_done {p = p} {v = x} limit h (stored_none g limit t))

-- what an admitted read answers: its own copy's value, or the server's
module _ (g : Geometry) (n b limit : ℕ) {t : List ℕ} {state now value : ℕ} (s : state ≡ ((view g t).entry n b).state) (c : now ≡ current_of state) where
  pub read_here :
      (now ≡ invalid → ⊥) → value ≡ ((view g t).entry n b).value
      → Meets (carry g (read_value g (view g t) n b) (read_stores g (view g t) n b)) limit t t (Done value 0)
  unfolding read_value read_stores
  read_here e q = meets_none {g = g} limit (rw (← s, ← c, ne_eqb now invalid e, q) refl)

  pub read_fetched :
      {server left : ℕ} {t' : List ℕ} → now ≡ invalid → server ≡ first_holder g (view g t) b owner shared_ck1 → value ≡ ((view g t).entry server b).value
      → Stored g limit (fetch_from (view g t) server n b value) t t' left
      → Meets (carry g (read_value g (view g t) n b) (read_stores g (view g t) n b)) limit t t' (Done value (limit - left))
  unfolding read_value read_stores
  read_fetched e p q r = meets_done limit (rw (← s, ← c, eq-eqb now invalid e, q, p ∙ server_held g (view g t) b) refl) r
