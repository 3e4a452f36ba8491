-- What soundness tells of live entries: the form of a state word; while no checkpoint is open, that no copy is Precommit and that an item's copies agree.
use Prim.Native.Nat.{ℕ, ◌<◌}
use mathlib.Core.Path.{◌≡◌, sym, ap, ◌∙◌}
use mathlib.Core.Logic.{◌≢◌}
use mathlib.Core.Bool.{true}
use native.Mathlib.Omega.{arith}
use native.Mathlib.Decide.{ℕ_discrete}
use lib.Dec.{eqb}
use borrow.Author.Tests.{eqb-true}
use Rattle.counting.proofs.Laws.Tests.{either}
use Rattle.table.specs.declared.geometry.Geometry.{Geometry}
use Rattle.table.specs.Words.{state_form, invalid, shared, owner, modified, shared_ck1, shared_ck2, precommit1}
use Rattle.table.specs.View.{View, live, current}
use Rattle.entries.proofs.Laws.Kinds.{clean_code, owner_code, Owned, modified_at, owner_at, Kind, clean, dirty, created, has_code, copy_at}
use Rattle.entries.proofs.Laws.SoundFacts.{SoundTable}
use Rattle.homes.proofs.Laws.Kept.{Live, live_test}

clean_low : (c : ℕ) → clean_code c ≡ true → c < precommit1
clean_low c h = either (eqb c shared_ck1) h (λ e. omega (arith, eqb-true c shared_ck1 e))
    (λ h. either (eqb c shared_ck2) h (λ e. omega (arith, eqb-true c shared_ck2 e)) (λ e. omega (arith, eqb-true c shared e)))

owner_low : (c : ℕ) → owner_code c ≡ true → c < precommit1
owner_low c h = either (eqb c owner) h (λ e. omega (arith, eqb-true c owner e)) (λ e. omega (arith, eqb-true c shared e))

module _ (g : Geometry) (v : View) (phase number : ℕ) (s : SoundTable g v phase number) where
  pub formed_at : (n b : ℕ) → Live g v n → b < g.items → state_form (v.entry n b).state ≡ true
  formed_at n b l h = s.forms n b l.there h (live_test g v n l)

  pub no_precommit :
      phase ≢ 1 → (n b : ℕ) → n < g.nodes → b < g.items → live v n ≡ true → current (v.entry n b) < precommit1
  no_precommit d n b hn hb l = elim (ℕ_discrete (current (v.entry n b)) 0) [ yes z ↦ omega arith | no z ↦ of_kind z (s.items b hb) ]
    where
      of_owned : current (v.entry n b) ≢ 0 → (m : ℕ) → Owned v g.nodes b m → current (v.entry n b) < precommit1
      of_owned z m (modified_at o alone) =
          let e : current (v.entry n b) ≡ modified =
          ap (λ k. current (v.entry k b)) (alone n hn (copy_at v b n l z)) ∙ has_code v b m modified o.holds in
          omega arith
      of_owned z m (owner_at o codes) = owner_low _ (codes n hn (copy_at v b n l z))

      of_kind : current (v.entry n b) ≢ 0 → Kind phase v g.nodes b → current (v.entry n b) < precommit1
      of_kind z (clean k) = clean_low _ (k.others n hn (copy_at v b n l z))
      of_kind z (dirty k) = of_owned z k.node k.owned
      of_kind z (created e k) = absurd (d e)

module _ (g : Geometry) (v : View) (phase number b : ℕ) (good : SoundTable g v phase number) (closed : phase ≢ 1) (item : b < g.items) where
  -- "all values equal"
  pub copies_agree :
      (n m : ℕ) → Live g v n → Live g v m → current (v.entry n b) ≢ invalid → current (v.entry m b) ≢ invalid
      → (v.entry m b).value ≡ (v.entry n b).value
  copies_agree n m ln lm dn dm = of_kind (good.items b item)
    where
      of_kind : Kind phase v g.nodes b → (v.entry m b).value ≡ (v.entry n b).value
      of_kind (clean k) =
          k.values m lm.there (copy_at v b m (live_test g v m lm) dm) ∙ sym (k.values n ln.there (copy_at v b n (live_test g v n ln) dn))
      of_kind (dirty k) =
          k.values m lm.there (copy_at v b m (live_test g v m lm) dm) ∙ sym (k.values n ln.there (copy_at v b n (live_test g v n ln) dn))
      of_kind (created e k) = absurd (closed e)
