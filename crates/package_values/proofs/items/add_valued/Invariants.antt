use Rattle.std.proofs.Common.{◌≡◌, ◌++◌, drop}
use Rattle.syntax.specs.Expressions.{exs_of, ex_in}
use Rattle.package_values.specs.Passing.{item_views, pairs}
use Rattle.package_values.proofs.items.add_valued.Given as goal

abbrev pub invariant-loop-index : goal.invariant-loop-index
invariant-loop-index l =
    item_views l.fn.items.items ++ pairs l.role l.names (ex_in l.type_expr) (exs_of l.values) 0 l.names l.values
    ≡ item_views l.items.items ++ pairs l.role l.names (ex_in l.type_expr) (exs_of l.values) l.index (drop l.index l.names) (drop l.index l.values)
