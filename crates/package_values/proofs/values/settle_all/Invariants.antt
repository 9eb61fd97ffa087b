use Rattle.std.proofs.Common.{◌≡◌, drop}
use Rattle.components.specs.Components.{component_lists}
use Rattle.names.specs.Scope.{scope_of}
use Rattle.package_values.specs.Passing.{item_views, all_given}
use Rattle.package_values.proofs.values.settle_all.Given as goal

abbrev pub invariant-loop-component : goal.invariant-loop-component
invariant-loop-component l =
    all_given l.text (item_views l.items) (scope_of l.fn.scope) (component_lists l.components) ≡ all_given l.text (item_views l.items) (scope_of l.scope) (component_lists (drop l.component-index l.components))
