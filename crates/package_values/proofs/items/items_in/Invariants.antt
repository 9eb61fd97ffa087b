use Rattle.std.proofs.Common.{◌≡◌, ◌++◌, drop}
use Rattle.syntax.specs.Declarations.{declarations_of}
use Rattle.package_values.specs.Values.{items_in}
use Rattle.package_values.specs.Passing.{item_views}
use Rattle.package_values.proofs.items.items_in.Given as goal

abbrev pub invariant-loop-decl : goal.invariant-loop-decl
invariant-loop-decl l = items_in (declarations_of l.decls) ≡ item_views l.items.items ++ items_in (declarations_of (drop l.decl-index l.decls))
