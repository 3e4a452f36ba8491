-- One whole call more: the table stays related to the plain memory.
use Prim.Native.Nat.{ℕ, ◌<◌}
use mathlib.Core.Path.{◌≡◌, refl, sym, ap, ◌∙◌}
use mathlib.Core.Bool.{not, cond}
use mathlib.Core.List.{List}
use native.Mathlib.Omega.{arith}
use native.Mathlib.Decide.{ℕ_discrete}
use lib.ListN.{length, get_or, set, replicate, length-set, length-replicate, get_or-replicate}
use lib.Seq.{get_or-set_same, get_or-set_other}
use borrow.Author.Tests.{eq-eqb, ne_eqb}
use Rattle.table.specs.declared.geometry.Geometry.{Geometry}
use Rattle.table.specs.Stores.{Store, after}
use Rattle.table.specs.Answers.{Plan, refuse, nothing_left, carry}
use Rattle.layout.specs.Format.{format_of}
use Rattle.layout.specs.Formatted.{Formatted}
use Rattle.layout.proofs.Laws.Format.{format_accepted}
use Rattle.layout.proofs.Laws.Formatted.{go_on_working}
use Rattle.homes.proofs.Laws.Serves.{Serves, same_geometry}
use Rattle.homes.proofs.Laws.FormattedServes.{formatted_serves}
use Rattle.calls.proofs.Laws.WriteTheorem.{carried as carriedWrite, admits}
use Rattle.calls.proofs.Laws.WriteServes.{written, write_serves}
use Rattle.calls.specs.Write.{write_of}
use Rattle.restore.specs.declared.call.Call.{Call}
use Rattle.restore.specs.Call.{refused}
use Rattle.restore.specs.Memory.{Memory, zeros, carried, fed, value_of, saved_in}
use Rattle.restore.specs.Run.{geometry_in, whole_table, commits_with}
use Rattle.restore.proofs.Laws.Good.{Good, good_by, serves_as}

-- ---- a formatted table, and one that is formatted now

pub good_begins : (t : List ℕ) (f : Formatted t) → Good t (zeros f.geometry.items) 0
good_begins t f =
    let g = f.geometry in
    let m = g.items in
    let here : (b : ℕ) → b < m → ◌≡◌ {A = ℕ} 0 (get_or (replicate m 0) b 0) = λ b h. sym (get_or-replicate m b 0 0 h) in
    good_by t g (zeros m) 0 (serves_as t g (λ b. 0) _ (λ b. 0) _ 0 here here (formatted_serves t f))
    (length-replicate m 0) (length-replicate m 0)

pub good_format :
    (t : List ℕ) (n m f : ℕ) {g : Geometry} {x : ℕ} {ss : List Store} → format_of t n m f ≡ carry g x ss
    → Good (after g (length ss) ss t) (zeros m) 0
good_format t n m f {g} {x} {ss} e =
    let w = (go_on_working.by_format t n m f g x ss e).0 in
    let a = format_accepted t n m f e in
    let items : w.formatted.geometry.items ≡ m = ap (λ g. g.items) w.geometry_is ∙ a.items in
    rw items at (good_begins _ w.formatted)

-- ---- one call

module _ (t : List ℕ) (memory : Memory) (commits : ℕ) (good : Good t memory commits) where
  -- what a whole call leaves, by its plan
  pub good_plan :
      (call : Call) (p : Plan)
      → ((g : Geometry) (x : ℕ) (ss : List Store) → p ≡ carry g x ss → Good (after g (length ss) ss t) (carried call memory) (commits_with call commits))
      → (p ≡ nothing_left → Good t (carried call memory) (commits_with call commits))
      → Good (whole_table p t) (fed call (refused p) memory) (cond (not (refused p)) (commits_with call commits) commits)
  good_plan call (refuse r) f h = good
  good_plan call nothing_left f h = h refl
  good_plan call (carry g x ss) f h = f g x ss refl

  -- a call that serves the same values
  pub good_same :
      (t' : List ℕ) → Serves t' (geometry_in t) (value_of memory) (saved_in memory) commits → Good t' memory commits
  good_same t' s = good_by t' (geometry_in t) memory commits s good.values_size good.saved_size

  -- an accepted write is of one of the items
  pub write_inside : (n b x : ℕ) {g : Geometry} {value : ℕ} {ss : List Store} → write_of t n b x ≡ carry g value ss → b < length memory.values
  write_inside n b x {g} e =
      let c = carriedWrite t n b x e in
      let same = same_geometry t good.serves.passed c.passed in
      let i : b < g.items = (admits t n b x e).place.item in
      omega (arith, good.values_size, i, ap (λ g. g.items) same)

  pub good_write :
      (n b x : ℕ) {g : Geometry} {value : ℕ} {ss : List Store} → write_of t n b x ≡ carry g value ss
      → Good (after g (length ss) ss t) (record { values = set memory.values b x; saved = memory.saved }) commits
  good_write n b x {g} {value} {ss} e =
      good_by (after g (length ss) ss t) (geometry_in t) _ commits
      (serves_as _ (geometry_in t) _ _ _ _ commits value_of_lem (λ c h. refl) (write_serves t (geometry_in t) _ _ commits good.serves n b x e (length ss) (omega arith)))
      (length-set memory.values b x ∙ good.values_size) good.saved_size
    where
      value_of_lem : (c : ℕ) → c < (geometry_in t).items → written (value_of memory) b x c ≡ get_or (set memory.values b x) c 0
      value_of_lem c h = elim (ℕ_discrete c b) [
        | yes q ↦ rw (q, eq-eqb b b refl) (sym (get_or-set_same memory.values b x 0 (write_inside n b x e)))
        | no q ↦ rw (ne_eqb c b q) (sym (get_or-set_other memory.values b c x 0 q))
      ]
