-- Soundness, as a test of the view: "The table is sound if word forms hold, live marks agree in phase (0 or 1) and number (under 2^32 − 1
-- in phase 1), and every item over the live nodes is one of: clean; dirty; created".
use Rattle.std.specs.Prelude.{Bool, not, ◌&&◌, ◌||◌, ℕ, ◌-◌, ◌^◌, ltb, eqb}
use Rattle.counting.specs.Counting.{every}
use Rattle.counting.specs.Values.{Values, values_of}
use Rattle.table.specs.declared.geometry.Geometry.{Geometry}
use Rattle.table.specs.Words.{state_form, mark_form, phase_of, number_of}
use Rattle.table.specs.View.{View, live}
use Rattle.entries.specs.Frames.{frames_fit}
use Rattle.entries.specs.Tally.{counts_of, item_test}

-- ---- marks

unfoldable pub marks_form : View → ℕ → Bool
marks_form v n = every (λ k. mark_form (v.mark k)) n

-- the phases and the point numbers of the live marks below n
unfoldable pub phases_of : View → ℕ → Values
phases_of v n = values_of n (live v) (λ k. phase_of (v.mark k))

unfoldable pub points_of : View → ℕ → Values
points_of v n = values_of n (live v) (λ k. number_of (v.mark k))

-- "live marks agree in phase (0 or 1) and number (under 2^32 − 1 in phase 1)"
abbrev pub marks_agree : Values → Values → Bool
marks_agree phases points =
    phases.equal && (points.equal && (ltb phases.first 2 && (not (eqb phases.first 1) || ltb points.first (2 ^ 32 - 1))))

-- ---- nodes

-- word forms of a node's entries
unfoldable pub states_form : Geometry → View → ℕ → Bool
states_form g v n = every (λ b. state_form (v.entry n b).state) g.items

-- "A dead node's words, mark apart, are never read."
unfoldable pub node_sound : Geometry → View → ℕ → Bool
node_sound g v n = not (live v n) || (states_form g v n && frames_fit g v n)

unfoldable pub nodes_sound : Geometry → View → Bool
nodes_sound g v = every (node_sound g v) g.nodes

-- ---- items

unfoldable pub item_sound : Geometry → View → ℕ → ℕ → Bool
item_sound g v phase b = item_test phase (counts_of v b g.nodes)

unfoldable pub items_sound : Geometry → View → ℕ → Bool
items_sound g v phase = every (item_sound g v phase) g.items

-- ---- the table

unfoldable pub sound : Geometry → View → Bool
sound g v =
    marks_form v g.nodes
    && (marks_agree (phases_of v g.nodes) (points_of v g.nodes) && (nodes_sound g v && items_sound g v (phases_of v g.nodes).first))
