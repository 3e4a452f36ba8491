-- DEMAND 2, as one type. Its words stand above the parts that render them.
use Rattle.std.specs.Prelude.{ℕ, ◌<◌, ◌≡◌, ◌≢◌, Bool, true, false, not, ◌&&◌, List, eqb, ltb, Ok}
use Rattle.std.proofs.Math.Option.{Option, none, some}
use Rattle.table.specs.declared.geometry.Geometry.{Geometry}
use Rattle.table.specs.declared.answers.Refusal.{Refusal}
use Rattle.table.specs.Words.{number_of, invalid}
use Rattle.table.specs.Stores.{Store}
use Rattle.table.specs.View.{Entry, View, view, live}
use Rattle.table.specs.Answers.{Plan, refuse, nothing_left, carry, refusal_number}
use Rattle.entries.specs.Check.{fault_of}
use Rattle.homes.specs.declared.places.Place.{Place}
use Rattle.homes.specs.declared.places.Place.TheVariants.{Current}
use Rattle.homes.specs.Admission.{admission_of}
use Rattle.homes.specs.Places.{code_of, shared_in}
use Rattle.homes.specs.Home.{fits}
use Rattle.calls.specs.Read.{read_of}
use Rattle.homes.specs.Evict.{evict_of}
use Rattle.entries.specs.Dirty.{owner_of, dirty_item}
use Rattle.checkpoints.specs.Checkpoint.{open_admission}
use Rattle.checkpoints.specs.Create.{sharer_of, create_of}
use Rattle.counting.specs.Counting.{exists}
use Rattle.restore.specs.Memory.{Memory, value_of, saved_in}
use Rattle.restore.specs.Run.{Step, geometry_in, is_format, plan_at}
use Rattle.restore.specs.History.{History, last_written}

-- "the value last written .., else the recovery point's"
abbrev pub or_else : Option ℕ → ℕ → ℕ
or_else none x = x
or_else (some w) x = w

-- ---- "A copy is refused a home": 11

abbrev pub homeless : Plan → Bool
homeless (refuse r) = eqb (refusal_number r) 11
homeless nothing_left = false
homeless (carry g x ss) = false

-- "no other live node can take it"
abbrev pub no_other : Geometry → View → Place → ℕ → ℕ → Bool
no_other g v place n b = not (exists (λ h. not (eqb h n) && fits g v place b h) g.nodes)

-- the place holds a copy that needs a home: "a Shared copy is dropped (state). Any other goes home"
abbrev pub goes_home : Place → Entry → Bool
goes_home place e = not (eqb (code_of place e.state) invalid) && not (shared_in place e.state)

-- ---- THE DEMAND

pub record Demand2 : Type 0 where
  -- "Copy states, values served and word stores are those of the Extended Coherence Protocol in the store order of document 01": the contract of each
  -- call is `Meets` of its plan, for all inputs and every limit; the plans are the definitions format_of, read_of, .. recover_of.

  -- "On a formatted table, any call cut since having ended in an accepted recovery as in 3, a read gives the value last written to the item since
  -- the last finished recovery or formatting, else the recovery point's."
  pub read_value :
      {t : List ℕ} {memory : Memory} {commits : ℕ} (history : History t memory commits) (n b : ℕ) {g : Geometry} {x : ℕ} {ss : List Store}
      → read_of t n b ≡ carry g x ss → x ≡ or_else (last_written history b) (saved_in memory b)
  -- which is the plain memory's answer
  pub read_memory :
      {t : List ℕ} {memory : Memory} {commits : ℕ} (history : History t memory commits) (n b : ℕ) {g : Geometry} {x : ℕ} {ss : List Store}
      → read_of t n b ≡ carry g x ss → x ≡ value_of memory b
  -- and no call of a history is refused for the table: it passes checks 1, 3, 1 and 2
  pub never_refused : {t : List ℕ} {memory : Memory} {commits : ℕ} → History t memory commits → fault_of t ≡ Ok (geometry_in t)
  -- so none but Format is refused with 1, 2 or 3; nor with 20: "Tables already formatted go on working." (K7)
  pub own_refusals :
      {t : List ℕ} {memory : Memory} {commits : ℕ} → History t memory commits → (s : Step) → is_format s.call ≡ false → (r : Refusal)
      → plan_at t s ≡ refuse r → (3 < refusal_number r) × (refusal_number r ≢ 20)
  -- and its live marks carry the number of commits finished since the last formatting: the next point's is "1 plus" these
  pub point_number :
      {t : List ℕ} {memory : Memory} {commits : ℕ} → History t memory commits → (n : ℕ) → live (view (geometry_in t) t) n ≡ true
      → number_of ((view (geometry_in t) t).mark n) ≡ commits
  -- "A copy is refused a home exactly if no other live node can take it.": Evict, on any table and with any arguments that it gets so far with
  pub evict_home :
      (t : List ℕ) (n b : ℕ) (place : Place) {g : Geometry} → fault_of t ≡ Ok g → admission_of g (view g t) n b ≡ (Ok tt)
      → goes_home place ((view g t).entry n b) ≡ true → homeless (evict_of t n b place) ≡ no_other g (view g t) place n b
  -- and Create, for the lowest dirty item, whose second copy goes to a Shared one where there is one
  pub create_home :
      (t : List ℕ) (b : ℕ) {g : Geometry} → fault_of t ≡ Ok g → open_admission g (view g t) ≡ (Ok tt) → dirty_item g (view g t) ≡ b → b < g.items
      → homeless (create_of t)
      ≡ (not (ltb (sharer_of g (view g t) b) g.nodes) && no_other g (view g t) Current (owner_of g (view g t) b) b)
