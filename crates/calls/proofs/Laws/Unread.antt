-- "A dead node's words, mark apart, are never read", by Read and Write: their plans do not rest on them.
use Prim.Native.Nat.{ℕ}
use mathlib.Core.Path.{◌≡◌, refl, ap, ap₂}
use mathlib.Core.Bool.{not, ◌||◌}
use mathlib.Core.List.{List, map}
use lib.Dec.{eqb}
use Rattle.counting.proofs.Laws.Tests.{both, by_cases, neither}
use Rattle.table.specs.declared.geometry.Geometry.{Geometry}
use Rattle.table.specs.Stores.{entry_store}
use Rattle.table.proofs.Laws.Stores.{runs_ext}
use Rattle.table.specs.View.{Entry, View, live, current}
use Rattle.table.specs.Answers.{carry}
use Rattle.entries.proofs.Laws.Unread.{over, Agrees, Alike, same_first, same_found}
use Rattle.homes.proofs.Laws.Admission.{Admits, frame_admits}
use Rattle.homes.proofs.Laws.Unread.{admits_live, same_frame, plan_alike}
use Rattle.calls.specs.Read.{fetches, serves, serves_at, server_of, fetch_from, read_stores, read_value, read_of}
use Rattle.calls.specs.Write.{other_change, other_changes, other_stores, needs_frame, write_needs, write_stores, write_of}

module _ (g : Geometry) (v : View) (e : ℕ → ℕ → Entry) (s : Agrees g v e) where
  -- ---- Read: the server is live, and so is the reader

  same_server : (b : ℕ) → server_of g (over v e) b ≡ server_of g v b
  unfolding server_of serves_at
  same_server b = same_first g v e s b (λ x. serves (current x))

  same_served : (b : ℕ) → e (server_of g v b) b ≡ v.entry (server_of g v b) b
  unfolding server_of serves_at
  same_served b = same_found g v e s (serves_at v b) (λ n h. (both (live v n) h).0) b

  module _ (n b : ℕ) (a : Admits g v n b) where
    read_value_lem : read_value g (over v e) n b ≡ read_value g v n b
    unfolding read_value
    read_value_lem = rw (s.alive n b (admits_live g v n b a), same_server b, same_served b) refl

    read_stores_lem : read_stores g (over v e) n b ≡ read_stores g v n b
    unfolding read_stores fetch_from
    read_stores_lem = rw (s.alive n b (admits_live g v n b a), same_server b, same_served b) refl

  -- ---- Write: "other live nodes", and the writer

  same_other : (n b k : ℕ) → other_changes (over v e) n b k ≡ other_changes v n b k
  unfolding other_changes
  same_other n b k = by_cases (eqb k n || eqb (v.mark k) 0) (λ q. rw q refl)
      (λ q. rw q (ap (λ x. other_change x) (s.alive k b (ap not (neither (eqb k n) (eqb (v.mark k) 0) q).1))))

  same_others : (n b : ℕ) → other_stores g (over v e) n b ≡ other_stores g v n b
  unfolding other_stores
  same_others n b = runs_ext g.nodes _ _ (λ k l. ap (map (entry_store k b)) (same_other n b k))

  write_stores_lem : (n b x : ℕ) → Admits g v n b → write_stores g (over v e) n b x ≡ write_stores g v n b x
  unfolding write_stores
  write_stores_lem n b x a = rw (same_others n b, s.alive n b (admits_live g v n b a)) refl

pub read_alike : {t t' : List ℕ} → Alike t t' → (n b : ℕ) → read_of t' n b ≡ read_of t n b
read_alike a n b = plan_alike _ _ (λ g v e s. same_frame g v e s n b (λ x. fetches x))
    (λ g v e s h. let p = (frame_admits g v n b (fetches (v.entry n b)) h).place in
    ap₂ (carry g) (read_value_lem g v e s n b p) (read_stores_lem g v e s n b p)) a

pub write_alike : {t t' : List ℕ} → Alike t t' → (n b x : ℕ) → write_of t' n b x ≡ write_of t n b x
write_alike a n b x = plan_alike _ _ (λ g v e s. same_frame g v e s n b (λ x. needs_frame (current x)))
    (λ g v e s h. ap (carry g 0) (write_stores_lem g v e s n b x (frame_admits g v n b (write_needs v n b) h).place)) a
