-- The nodes 0, 1, .. and N − 1 in cyclic order: the step from a node to the next, and the first that passes a test.
use Rattle.std.specs.Prelude.{ℕ, ◌+◌, ◌-◌, ◌%◌, Bool, cond, nat_lt}
use Rattle.counting.specs.Counting.{first}
use Rattle.counting.specs.declared.cyclic.Cursor.{Cursor}

-- "from every node below N, the node plus 1 modulo N"; from any other number, node 0
unfoldable pub next_node : ℕ → ℕ → ℕ
next_node N n = cond (nat_lt n N) ((n + 1) % N) 0

-- the node i + 1 steps after n; for i = N − 1 it is n again
unfoldable pub node_after : ℕ → ℕ → ℕ → ℕ
node_after N n i = (n + 1 + i) % N

-- the test of the node i + 1 steps after n
unfoldable pub test_after : (ℕ → Bool) → ℕ → ℕ → ℕ → Bool
test_after test N n i = test (node_after N n i)

-- "the first .. node after n, cyclically, n excluded, that" passes; n itself if there is none, or if n is no node
unfoldable pub first_after : (ℕ → Bool) → ℕ → ℕ → ℕ
first_after test N n = cond (nat_lt n N) (node_after N n (first (test_after test N n) (N - 1))) n

-- ---- where a search has come to

-- at its start: the next node, with all others to be tried; none after a number that is no node's
unfoldable pub cursor_after : ℕ → ℕ → Cursor
cursor_after N n = cond (nat_lt n N) (record { node = next_node N n; untried = N - 1 }) (record { node = n; untried = 0 })

-- one node on
unfoldable pub cursor_step : ℕ → Cursor → Cursor
cursor_step N c = record { node = next_node N c.node; untried = c.untried - 1 }
