-- "A copy is refused a home exactly if no other live node can take it", and what the home found is: the laws of the
-- cyclic search, for `fits`.
use Prim.Native.Nat.{ℕ, ◌<◌}
use mathlib.Core.Path.{◌≡◌}
use mathlib.Core.Logic.{◌≢◌}
use mathlib.Core.Bool.{true, false}
use borrow.Author.Tests.{eq-eqb, eqb-true, eqb-false}
use Rattle.counting.proofs.Laws.Tests.{both}
use Rattle.counting.proofs.Laws.Cyclic.{FoundAfter, after_found, after_none, none_after}
use Rattle.table.specs.declared.geometry.Geometry.{Geometry}
use Rattle.table.specs.View.{View, live}
use Rattle.homes.specs.declared.places.Place.{Place}
use Rattle.homes.specs.Home.{place_fits, fits, home_of, no_home}
use Rattle.homes.proofs.Laws.Kept.{Live, test_live}

module _ (g : Geometry) (v : View) (place : Place) (n b : ℕ) where
  -- a copy is refused a home only if no other live node can take it
  pub no_home_none :
      n < g.nodes → no_home g v place n b ≡ true → (m : ℕ) → m < g.nodes → m ≢ n → fits g v place b m ≡ false
  unfolding home_of
  no_home_none h e = after_none (fits g v place b) g.nodes n h (eqb-true _ n e)

  -- and whenever none can
  pub none_no_home : ((m : ℕ) → m < g.nodes → m ≢ n → fits g v place b m ≡ false) → no_home g v place n b ≡ true
  unfolding home_of
  none_no_home none = eq-eqb _ n (none_after (fits g v place b) g.nodes n none)

  -- the home found: the first other node that fits; so it is live, and its place can take the copy
  pub record Home (m : ℕ) : Type 0 where
    pub found : FoundAfter (fits g v place b) g.nodes n m
    pub node : Live g v m
    pub takes : place_fits g v place b m ≡ true

  pub home_fits : no_home g v place n b ≡ false → Home (home_of g v place n b)
  unfolding home_of fits
  home_fits e =
      let f = after_found (fits g v place b) g.nodes n (eqb-false _ n e) in
      let t = both (live v (home_of g v place n b)) f.passes in
      record { found = f; node = test_live g v (home_of g v place n b) f.there t.0; takes = t.1 }
