use Rattle.std.proofs.Common.{◌≡◌, ◌++◌, drop}
use Rattle.syntax.specs.Expressions.{exs_of, ex_in}
use Rattle.package_values.specs.Values.{unvalued}
use Rattle.package_values.specs.Passing.{item_views}
use Rattle.package_values.proofs.items.add_unvalued.Given as goal

abbrev pub invariant-loop-index : goal.invariant-loop-index
invariant-loop-index l =
    item_views l.fn.items.items ++ unvalued l.role l.names (ex_in l.type_expr) (exs_of l.values) 0 l.names
    ≡ item_views l.items.items ++ unvalued l.role l.names (ex_in l.type_expr) (exs_of l.values) l.index (drop l.index l.names)
