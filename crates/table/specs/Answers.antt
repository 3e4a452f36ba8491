-- A call's plan: turned down, or carried out by a list of stores; and what a call with that plan answers and leaves at a limit.
use Rattle.std.specs.Prelude.{ℕ, min, ◌≡◌, List, length}
use Rattle.table.specs.declared.geometry.Geometry.{Geometry}
use Rattle.table.specs.declared.answers.Refusal.{Refusal}
use Rattle.table.specs.declared.answers.Refusal.TheVariants.{EmptyOrShort, NotSound, NoGeometry, NoNode, NoItem, DeadNode, CheckpointOpen, NoCheckpoint, NoFrame, PlaceInvalid, NoHome, NotCreated, LastNumber, TooFewNodes, NoRecoveryCopy, ShortScratch, TooManyFrames}
use Rattle.table.specs.declared.answers.Answer.{Answer}
use Rattle.table.specs.declared.answers.Answer.TheVariants.{Done, NothingLeft, Refused}
use Rattle.table.specs.declared.answers.Numbers.{Numbers}
use Rattle.table.specs.Stores.{Store, after}

-- document 01's number of each refusal
abbrev pub refusal_number : Refusal → ℕ
refusal_number EmptyOrShort = 1
refusal_number NotSound = 2
refusal_number NoGeometry = 3
refusal_number NoNode = 4
refusal_number NoItem = 5
refusal_number DeadNode = 6
refusal_number CheckpointOpen = 7
refusal_number NoCheckpoint = 8
refusal_number NoFrame = 9
refusal_number PlaceInvalid = 10
refusal_number NoHome = 11
refusal_number NotCreated = 12
refusal_number LastNumber = 13
refusal_number TooFewNodes = 14
refusal_number NoRecoveryCopy = 15
refusal_number ShortScratch = 16
refusal_number TooManyFrames = 20

-- document 01's answer, value and stores of each case: "A refusal carries its number; value and count are 0"
abbrev pub numbers_of : Answer → Numbers
numbers_of (Done value stores) = record { answer = 0; value = value; stores = stores }
numbers_of NothingLeft = record { answer = 17; value = 0; stores = 0 }
numbers_of (Refused x) = record { answer = refusal_number x; value = 0; stores = 0 }

-- "gives answer 18": what was handed in names no call
abbrev pub malformed_numbers : Numbers
malformed_numbers = record { answer = 18; value = 0; stores = 0 }

-- turned down; document 01's 17, "no stores, if none is left"; or carried out: the geometry of the table, the value, the stores
pub data Plan : Type 0 where
  refuse : Refusal → Plan
  nothing_left : Plan
  carry : Geometry → ℕ → List Store → Plan

-- "its count is those made, and answer, value and scratch are the whole call's"
abbrev pub answer_of : Plan → ℕ → Answer
answer_of (refuse x) limit = Refused x
answer_of nothing_left limit = NothingLeft
answer_of (carry g value ss) limit = Done value (min limit (length ss))

-- the same in document 01's numbers
abbrev pub numbers_at : Plan → ℕ → Numbers
numbers_at (refuse x) limit = record { answer = refusal_number x; value = 0; stores = 0 }
numbers_at nothing_left limit = record { answer = 17; value = 0; stores = 0 }
numbers_at (carry g value ss) limit = record { answer = 0; value = value; stores = min limit (length ss) }

-- "A refusal .. table and scratch unchanged."
abbrev pub table_of : Plan → ℕ → List ℕ → List ℕ
table_of (refuse x) limit t = t
table_of nothing_left limit t = t
table_of (carry g value ss) limit t = after g limit ss t

-- THE CONTRACT of every call: with this plan and limit it takes the table t to t' and answers r
pub record Meets (p : Plan) (limit : ℕ) (t t' : List ℕ) (r : Answer) : Type 0 where
  pub answer : r ≡ answer_of p limit
  pub numbers : numbers_of r ≡ numbers_at p limit
  pub table : t' ≡ table_of p limit t

-- a call that stores nothing: the same at any limit
pub record Told (p : Plan) (t : List ℕ) (r : Answer) : Type 0 where
  pub meets : (limit : ℕ) → Meets p limit t t r
