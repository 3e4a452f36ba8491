-- Who serves a read: on a sound table with no checkpoint open the holder of Shared-CK1 or the owner.
use Prim.Native.Nat.{ℕ, ◌<◌}
use mathlib.Core.Path.{◌≡◌, refl}
use mathlib.Core.Logic.{◌≢◌}
use mathlib.Core.Bool.{true, false}
use Rattle.counting.proofs.Laws.Tests.{both, and_both, no_both}
use Rattle.counting.proofs.Laws.First.{first_below, first_passes}
use Rattle.table.specs.declared.geometry.Geometry.{Geometry}
use Rattle.table.specs.Words.{invalid, owner, modified, shared_ck1}
use Rattle.table.specs.View.{View, live, current}
use Rattle.entries.proofs.Laws.Kinds.{Owned, modified_at, owner_at, Kind, clean, dirty, created, has_live, has_code}
use Rattle.entries.proofs.Laws.SoundFacts.{SoundTable}
use Rattle.calls.specs.Read.{serves, serves_at, server_of}
use Rattle.homes.proofs.Laws.Kept.{test_live}
use Rattle.calls.proofs.Laws.ReadDone.{Serving}

pub serves_copy : (c : ℕ) → serves c ≡ true → c ≢ invalid
serves_copy c h z = let q : false ≡ true = rw z at h in no_both q refl

module _ (g : Geometry) (v : View) (phase number b : ℕ) (good : SoundTable g v phase number) (closed : phase ≢ 1) (item : b < g.items) where
  serving_at : (m : ℕ) → m < g.nodes → live v m ≡ true → serves (current (v.entry m b)) ≡ true → server_of g v b < g.nodes
  unfolding server_of serves_at
  serving_at m l t h = first_below (serves_at v b) g.nodes m l (and_both t h)

  server_there : server_of g v b < g.nodes
  server_there = of_kind (good.items b item)
    where
      of_owned : (m : ℕ) → Owned v g.nodes b m → server_of g v b < g.nodes
      of_owned m (modified_at o alone) = serving_at m o.within (has_live v b m modified o.holds) (rw (has_code v b m modified o.holds) refl)
      of_owned m (owner_at o codes) = serving_at m o.within (has_live v b m owner o.holds) (rw (has_code v b m owner o.holds) refl)

      of_kind : Kind phase v g.nodes b → server_of g v b < g.nodes
      of_kind (clean k) =
          serving_at k.one k.first.within (has_live v b k.one shared_ck1 k.first.holds)
          (rw (has_code v b k.one shared_ck1 k.first.holds) refl)
      of_kind (dirty k) = of_owned k.node k.owned
      of_kind (created e k) = absurd (closed e)

  pub server_serves : Serving g v b (server_of g v b)
  unfolding server_of serves_at
  server_serves =
      let p = both (live v (server_of g v b)) (first_passes (serves_at v b) g.nodes server_there) in
      record { node = test_live g v (server_of g v b) server_there p.0; place = p.1 }
