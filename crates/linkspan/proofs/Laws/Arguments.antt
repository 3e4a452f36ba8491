-- Laws of `specs/Report.antt`: numbers that stand for an argument.
use Rattle.std.specs.Prelude.{Option}
use Prim.Native.Nat.{ℕ, ◌≤◌, ◌<◌}
use mathlib.Core.Path.{◌≡◌, refl}
use mathlib.Core.List.{List}
use borrow.Author.Tests.{lt-ltb, le-ltb}
use Rattle.homes.specs.declared.places.Place.{Place}
use Rattle.homes.specs.Places.{place_by}
use Rattle.homes.specs.Evict.{evict_of}
use Rattle.survivors.specs.Survivors.{lost_by}
use Rattle.recovery.specs.Recover.{recover_of}
use Rattle.linkspan.specs.Report.{malformed, planned, evict_asked, recover_asked}

-- ---- the ways of the code

module _ (t : List ℕ) (n b : ℕ) {place : ℕ} where
  pub evict_malformed : 1 < place → evict_asked t n b place ≡ malformed
  unfolding evict_asked
  evict_malformed h = rw (lt-ltb 1 place h) refl

  pub evict_asked_lem : {p : Place} → p ≡ place_by place → place ≤ 1 → evict_asked t n b place ≡ planned (evict_of t n b p)
  unfolding evict_asked
  evict_asked_lem e h = rw (le-ltb 1 place h, e) refl

module _ (t : List ℕ) {none : ℕ} (lost scratch : ℕ) where
  pub recover_unasked : 1 < none → recover_asked t none lost scratch ≡ malformed
  unfolding recover_asked
  recover_unasked h = rw (lt-ltb 1 none h) refl

  pub recover_asked_lem : {x : Option ℕ} → x ≡ lost_by none lost → none ≤ 1 → recover_asked t none lost scratch ≡ planned (recover_of t x scratch)
  unfolding recover_asked
  recover_asked_lem e h = rw (le-ltb 1 none h, e) refl
