use Rattle.std.proofs.Common.{◌≡◌, ◌++◌, drop}
use Rattle.syntax.specs.Statements.{value_specs_of}
use Rattle.package_values.specs.Values.{items_in_specs}
use Rattle.package_values.specs.Passing.{item_views}
use Rattle.package_values.proofs.items.add_specs.Given as goal

abbrev pub invariant-loop-spec : goal.invariant-loop-spec
invariant-loop-spec l = item_views l.fn.items.items ++ items_in_specs l.role (value_specs_of l.specs) ≡ item_views l.items.items ++ items_in_specs l.role (value_specs_of (drop l.spec-index l.specs))
