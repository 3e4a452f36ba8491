-- Document 01's records, malformed ones, and lines, computed by the definitions.
use Rattle.std.specs.Prelude.{None, Some}
use Rattle.std.proofs.Common.{◌≡◌, ℕ, ◌+◌, ◌-◌, ◌*◌, ◌^◌, [], ◌∷◌, ◌++◌, map, replicate, refl}
use Rattle.homes.specs.declared.places.Place.TheVariants.{Current, Kept}
use Rattle.restore.specs.declared.call.Call.TheVariants.{Format, Read, Write, Evict, Open, Create, Commit, Abandon, Recover}
use Rattle.homes.specs.Places.{place_by}
use Rattle.survivors.specs.Survivors.{lost_by}
use Rattle.restore.specs.Operations.{call_by}
use Rattle.steps.specs.Steps.{unused_zero, format_step, call_step, step_of, record_of}
use Rattle.steps.specs.Lines.{digits_in, decimal_of, line_bytes}
use Rattle.steps.specs.Run.{steps_up_to, steps_in}

-- the first word of operation o, node n, item b, place p
abbrev word : (o n b p : ℕ) → ℕ
word o n b p = o * 2 ^ 60 + n * 2 ^ 56 + b * 2 ^ 48 + p * 2 ^ 47

-- the first word of a format
abbrev sizes : (n m f : ℕ) → ℕ
sizes n m f = n * 2 ^ 55 + m * 2 ^ 46 + f * 2 ^ 36

-- "Records: format 3, 1, 2; write node 2 item 0 value 7; read node 0; open; create; commit; write node 0 value 9; recover lost 2; read node 1;
-- read node 2."
pub listing :
    (step_of (sizes 3 1 2) 0
    ∷ step_of (word 2 2 0 0) 7
    ∷ step_of (word 1 0 0 0) 0
    ∷ step_of (word 4 0 0 0) 0
    ∷ step_of (word 5 0 0 0) 0
    ∷ step_of (word 6 0 0 0) 0
    ∷ step_of (word 2 0 0 0) 9
    ∷ step_of (word 8 2 0 0) 0
    ∷ step_of (word 1 1 0 0) 0
    ∷ step_of (word 1 2 0 0) 0
    ∷ [])
    ≡ map Some
    (Format 3 1 2
    ∷ Write 2 0 7
    ∷ Read 0 0
    ∷ Open
    ∷ Create
    ∷ Commit
    ∷ Write 0 0 9
    ∷ Recover (Some 2)
    ∷ Read 1 0
    ∷ Read 2 0
    ∷ [])
unfolding place_by lost_by call_by unused_zero format_step call_step step_of
listing = refl

-- the largest fields, the kept place, a Recover of none, abandon, a format out of range
pub others :
    (step_of (word 1 15 255 0) 0
    ∷ step_of (word 2 15 255 0) (2 ^ 64 - 1)
    ∷ step_of (word 3 15 255 0) 0
    ∷ step_of (word 3 15 255 1) 0
    ∷ step_of (word 7 0 0 0) 0
    ∷ step_of (word 8 15 0 0) 0
    ∷ step_of (word 8 0 0 1) 0
    ∷ step_of (sizes 31 511 1023) 0
    ∷ step_of 0 0
    ∷ [])
    ≡ map Some
    (Read 15 255
    ∷ Write 15 255 (2 ^ 64 - 1)
    ∷ Evict 15 255 Current
    ∷ Evict 15 255 Kept
    ∷ Abandon
    ∷ Recover (Some 15)
    ∷ Recover None
    ∷ Format 31 511 1023
    ∷ Format 0 0 0
    ∷ [])
unfolding place_by lost_by call_by unused_zero format_step call_step step_of
others = refl

-- "A record that breaks this, any other operation": a format with a bit after F, or a second word; a read with a place, a bit after it, or a
-- value; a write with a place or a bit after it; an evict with a bit after its place, or a value; a bare step with a node, an item, a place, a bit
-- after it, or a value; a Recover with an item, a bit after its place, or a value, and one of none with a node; operations 9 and 15
pub malformed :
    (step_of (sizes 3 1 2 + 2 ^ 35) 0
    ∷ step_of (sizes 3 1 2) 1
    ∷ step_of (word 1 0 0 1) 0
    ∷ step_of (word 1 0 0 0 + 2 ^ 46) 0
    ∷ step_of (word 1 0 0 0) 7
    ∷ step_of (word 2 0 0 1) 7
    ∷ step_of (word 2 0 0 0 + 1) 7
    ∷ step_of (word 3 0 0 1 + 1) 0
    ∷ step_of (word 3 0 0 1) 1
    ∷ step_of (word 4 1 0 0) 0
    ∷ step_of (word 5 0 1 0) 0
    ∷ step_of (word 6 0 0 1) 0
    ∷ step_of (word 7 0 0 0 + 2 ^ 46) 0
    ∷ step_of (word 4 0 0 0) (2 ^ 63)
    ∷ step_of (word 8 2 1 0) 0
    ∷ step_of (word 8 2 0 0 + 1) 0
    ∷ step_of (word 8 2 0 0) 1
    ∷ step_of (word 8 2 0 1) 0
    ∷ step_of (word 9 0 0 0) 0
    ∷ step_of (word 15 0 0 0) 0
    ∷ [])
    ≡ replicate 20 None
unfolding place_by lost_by call_by unused_zero format_step call_step step_of
malformed = refl

-- "write node 2 item 0 value 7" as bytes, with a byte of the next record, and cut off
pub bytes_of_a_write : record_of (34 ∷ replicate 14 0 ++ (7 ∷ 255 ∷ [])) ≡ Some (Write 2 0 7)
unfolding place_by lost_by call_by unused_zero format_step call_step step_of record_of
bytes_of_a_write = refl

-- "a cut-off last record"
pub cut_off : record_of (34 ∷ replicate 14 0) ≡ None
unfolding record_of
cut_off = refl

-- "0 0 0 13"
pub first_line : line_bytes 0 (record { answer = 0; value = 0; stores = 13 }) ≡ 48 ∷ 32 ∷ 48 ∷ 32 ∷ 48 ∷ 32 ∷ 49 ∷ 51 ∷ 10 ∷ []
unfolding line_bytes digits_in
first_line = refl

-- "2 0 7 3"
pub third_line : line_bytes 2 (record { answer = 0; value = 7; stores = 3 }) ≡ 50 ∷ 32 ∷ 48 ∷ 32 ∷ 55 ∷ 32 ∷ 51 ∷ 10 ∷ []
unfolding line_bytes digits_in
third_line = refl

-- the largest number of 64 bits, 18446744073709551615
pub longest :
    decimal_of (2 ^ 64 - 1)
    ≡ 49 ∷ 56 ∷ 52 ∷ 52 ∷ 54 ∷ 55 ∷ 52 ∷ 52 ∷ 48 ∷ 55 ∷ 51 ∷ 55 ∷ 48 ∷ 57 ∷ 53 ∷ 53 ∷ 49 ∷ 54 ∷ 49 ∷ 53 ∷ []
unfolding digits_in
longest = refl

-- two records and a cut-off one: three steps
pub three_steps : steps_in (34 ∷ replicate 15 0 ++ (64 ∷ replicate 15 0) ++ (64 ∷ [])) ≡ Some (Write 2 0 0) ∷ Some Open ∷ None ∷ []
unfolding place_by lost_by call_by unused_zero format_step call_step step_of record_of steps_up_to
three_steps = refl
