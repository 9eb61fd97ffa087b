use Rattle.std.proofs.Common.{◌≡◌, ◌++◌, drop, map}
use Rattle.names.specs.Scope.{scope_of}
use Rattle.package_values.specs.Needs.{needed}
use Rattle.components.specs.Graph.{rows}
use Rattle.package_values.specs.Passing.{item_views}
use Rattle.package_values.proofs.needs.needs.Given as goal

abbrev pub invariant-loop-index : goal.invariant-loop-index
invariant-loop-index l =
    map (needed l.text (scope_of l.scope)) (item_views l.items) ≡ rows l.table.items ++ map (needed l.text (scope_of l.scope)) (item_views (drop l.index l.items))
