use Rattle.std.proofs.Common.{◌≡◌, drop}
use Rattle.names.specs.Scope.{scope_of}
use Rattle.package_values.specs.Passing.{item_views, each_given}
use Rattle.package_values.proofs.values.settle_each.Given as goal

abbrev pub invariant-loop-number : goal.invariant-loop-number
invariant-loop-number l =
    each_given l.text (item_views l.items) (scope_of l.fn.scope) l.numbers ≡ each_given l.text (item_views l.items) (scope_of l.scope) (drop l.number-index l.numbers)
