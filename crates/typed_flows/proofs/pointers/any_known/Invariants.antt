use Rattle.std.proofs.Common.{◌≡◌, ◌||◌, drop}
use Rattle.std.specs.List.{list_any}
use Rattle.typed.specs.Trees.{tree_named}
use Rattle.typed_flows.specs.Pointers.{has_pointers}
use Rattle.typed_flows.proofs.pointers.any_known.Given as goal

abbrev pub invariant-loop-id : goal.invariant-loop-id
invariant-loop-id l =
    (l.any || list_any (λ e. has_pointers (tree_named l.table e.0)) (drop l.id-index l.ids)) ≡ list_any (λ e. has_pointers (tree_named l.table e.0)) l.ids
