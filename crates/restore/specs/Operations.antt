-- The calls by number. "Operations: 0 format .., 1 read, 2 write, 3 evict, 4 open, 5 create, 6 commit, 7 abandon,
-- 8 recover."
use Rattle.std.specs.Prelude.{ℕ, cond, eqb, None, Option, Some}
use Rattle.homes.specs.Places.{place_by}
use Rattle.survivors.specs.Survivors.{lost_by}
use Rattle.restore.specs.declared.call.Call.TheVariants.{Format, Check, Stretch, Read, Write, Evict, Open, Create, Commit, Abandon, Recover}
use Rattle.restore.specs.declared.call.Call.{Call}

-- an operation, three arguments and a flag: "place 1 (0 current, 1 kept; in Recover 1 means none lost)". Check and
-- Stretch, which quay does not have, are 16 and 17: more than the 4 bits of a record hold.
unfoldable pub call_by : ℕ → ℕ → ℕ → ℕ → ℕ → Option Call
call_by operation x y z flag =
    cond (eqb operation 0) (Some (Format x y z))
    (cond (eqb operation 1) (Some (Read x y))
    (cond (eqb operation 2) (Some (Write x y z))
    (cond (eqb operation 3) (Some (Evict x y (place_by flag)))
    (cond (eqb operation 4) (Some Open)
    (cond (eqb operation 5) (Some Create)
    (cond (eqb operation 6) (Some Commit)
    (cond (eqb operation 7) (Some Abandon)
    (cond (eqb operation 8) (Some (Recover (lost_by flag x)))
    (cond (eqb operation 16) (Some Check)
    (cond (eqb operation 17) (Some (Stretch x))
    None))))))))))
