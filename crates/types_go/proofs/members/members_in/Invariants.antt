use Rattle.std.proofs.Common.{◌≡◌, ◌++◌, drop, length}
use Rattle.syntax.specs.Declarations.{declarations_of}
use Rattle.names.specs.Scope.{scope_of}
use Rattle.package_values.specs.Passing.{item_views}
use Rattle.types_go.specs.Functions.{members_in}
use Rattle.types_go.specs.Passing.{member_views}
use Rattle.types_go.proofs.members.members_in.Given as goal

abbrev pub invariant-loop-decl : goal.invariant-loop-decl
invariant-loop-decl l =
    members_in l.text (scope_of l.heads) 0 (declarations_of l.decls) ≡ member_views l.members.items ++ members_in l.text (scope_of l.heads) (length (item_views l.items.items)) (declarations_of (drop l.decl-index l.decls))
