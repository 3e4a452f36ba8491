-- The step of each operation, written out.
use Rattle.std.specs.Prelude.{None, Option, Some}
use Rattle.std.proofs.Common.{◌≡◌, ℕ, ◌<◌, Bool, true, false, cond, ◌&&◌, ◌||◌, eqb, refl, ap, arith, ne_eqb}
use mathlib.Core.Bool.{and_comm}
use Rattle.table.specs.Words.{size_form, nodes_of, items_of, frames_of}
use Rattle.homes.specs.Places.{place_by}
use Rattle.survivors.specs.Survivors.{lost_by}
use Rattle.restore.specs.declared.call.Call.{Call}
use Rattle.restore.specs.declared.call.Call.TheVariants.{Format, Read, Write, Evict, Open, Create, Commit, Abandon, Recover}
use Rattle.restore.specs.Operations.{call_by}
use Rattle.steps.specs.Steps.{operation_of, node_of, item_of, place_of, rest_of, unused_zero, format_step, call_step, step_of}

and_swap : (a b c : Bool) → (a && (b && c)) ≡ (b && (a && c))
and_swap true true c = refl
and_swap true false c = refl
and_swap false true c = refl
and_swap false false c = refl

-- a call where a test holds
abbrev asked : Bool → Call → Option Call
asked test call = cond test (Some call) None

module _ (f s : ℕ) where
  abbrev operation : ℕ
  operation = operation_of f

  abbrev node : ℕ
  node = node_of f

  abbrev item : ℕ
  item = item_of f

  abbrev place : ℕ
  place = place_of f

  abbrev rest : ℕ
  rest = rest_of f

  pub format_step_lem : operation ≡ 0
      → step_of f s ≡ asked (size_form f && eqb s 0) (Format (nodes_of f) (items_of f) (frames_of f))
  unfolding step_of format_step call_by
  format_step_lem e = rw e refl

  pub read_step : operation ≡ 1 → step_of f s ≡ asked (eqb place 0 && (eqb rest 0 && eqb s 0)) (Read node item)
  unfolding step_of call_step unused_zero call_by
  read_step e = rw e (ap (λ t. asked t (Read node item)) (and_swap (eqb rest 0) (eqb place 0) (eqb s 0)))

  pub write_step : operation ≡ 2 → step_of f s ≡ asked (eqb place 0 && eqb rest 0) (Write node item s)
  unfolding step_of call_step unused_zero call_by
  write_step e = rw e (ap (λ t. asked t (Write node item s)) (and_comm (eqb rest 0) (eqb place 0)))

  pub evict_step : operation ≡ 3 → step_of f s ≡ asked (eqb rest 0 && eqb s 0) (Evict node item (place_by place))
  unfolding step_of call_step unused_zero call_by
  evict_step e = rw e refl

  abbrev bare : Bool
  bare = eqb node 0 && (eqb item 0 && (eqb place 0 && (eqb rest 0 && eqb s 0)))

  bare_same : (eqb rest 0 && (eqb node 0 && (eqb item 0 && (eqb place 0 && eqb s 0)))) ≡ bare
  bare_same =
      rw
      (and_swap (eqb rest 0) (eqb node 0) (eqb item 0 && (eqb place 0 && eqb s 0)), and_swap (eqb rest 0) (eqb item 0) (eqb place 0 && eqb s 0), and_swap (eqb rest 0) (eqb place 0) (eqb s 0))
      refl

  pub open_step : operation ≡ 4 → step_of f s ≡ asked bare Open
  unfolding step_of call_step unused_zero call_by
  open_step e = rw e (ap (λ t. asked t Open) bare_same)

  pub create_step : operation ≡ 5 → step_of f s ≡ asked bare Create
  unfolding step_of call_step unused_zero call_by
  create_step e = rw e (ap (λ t. asked t Create) bare_same)

  pub commit_step : operation ≡ 6 → step_of f s ≡ asked bare Commit
  unfolding step_of call_step unused_zero call_by
  commit_step e = rw e (ap (λ t. asked t Commit) bare_same)

  pub abandon_step : operation ≡ 7 → step_of f s ≡ asked bare Abandon
  unfolding step_of call_step unused_zero call_by
  abandon_step e = rw e (ap (λ t. asked t Abandon) bare_same)

  pub recover_step :
      operation ≡ 8
      → step_of f s ≡ asked (eqb item 0 && (eqb rest 0 && (eqb s 0 && (eqb place 0 || eqb node 0)))) (Recover (lost_by place node))
  unfolding step_of call_step unused_zero call_by
  recover_step e =
      rw e (ap (λ t. asked t (Recover (lost_by place node))) (and_swap (eqb rest 0) (eqb item 0) (eqb s 0 && (eqb place 0 || eqb node 0))))

  -- "any other operation": a record's has 4 bits
  pub other_step : 8 < operation → operation < 16 → step_of f s ≡ None
  unfolding step_of call_step call_by
  other_step h k =
      let o = operation in
      simp (
        ne_eqb o 0 (omega arith),
        ne_eqb o 1 (omega arith),
        ne_eqb o 2 (omega arith),
        ne_eqb o 3 (omega arith),
        ne_eqb o 4 (omega arith),
        ne_eqb o 5 (omega arith),
        ne_eqb o 6 (omega arith),
        ne_eqb o 7 (omega arith),
        ne_eqb o 8 (omega arith),
        ne_eqb o 16 (omega arith),
        ne_eqb o 17 (omega arith),
      )
      (same_both (eqb rest 0 && unused_zero o node item place s))
    where
      same_both : (t : Bool) → cond {A = Option Call} t None None ≡ None
      same_both true = refl
      same_both false = refl
