use Rattle.std.proofs.Common.{◌≡◌, ◌++◌, drop, map}
use Rattle.names.specs.Scope.{scope_of}
use Rattle.package_values.specs.Needs.{mentioned}
use Rattle.components.specs.Graph.{rows}
use Rattle.package_values.specs.Passing.{item_views}
use Rattle.package_values.proofs.needs.mentioned.Given as goal

abbrev pub invariant-loop-index : goal.invariant-loop-index
invariant-loop-index l =
    map (mentioned l.text (scope_of l.scope)) (item_views l.items) ≡ rows l.all.items ++ map (mentioned l.text (scope_of l.scope)) (item_views (drop l.index l.items))
