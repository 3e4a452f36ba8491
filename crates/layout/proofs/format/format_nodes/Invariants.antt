use mathlib.Core.List.{map}
use Rattle.table.specs.Made.{Made}
use Rattle.table.specs.Stores.{entry_store, runs}
use Rattle.layout.specs.Format.{first_entry}
use Rattle.layout.proofs.format.format_nodes.Given as goal

abbrev pub invariant-loop-node : goal.invariant-loop-node
invariant-loop-node l =
    let s = l.initial.stores in
    Made s (runs (λ n. runs (λ b. map (entry_store n b) (first_entry s.g n b)) s.g.items) l.node) l.stores
