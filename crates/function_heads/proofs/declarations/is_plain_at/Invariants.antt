use Rattle.std.proofs.Common.{◌≡◌, drop}
use Rattle.std.specs.Prelude.{slice_get}
use Rattle.syntax.specs.Declarations.{declarations_of}
use Rattle.names.specs.Scope.{scope_of}
use Rattle.function_heads.proofs.declarations.is_plain_at.Given as goal
use Rattle.function_heads.specs.Heads.{is_plain, functions_in}

abbrev pub invariant-loop-decl : goal.invariant-loop-decl
invariant-loop-decl l = is_plain (slice_get (functions_in l.text (scope_of l.heads) (declarations_of l.decls)) l.fn.number) ≡ is_plain (slice_get (functions_in l.text (scope_of l.heads) (declarations_of (drop l.decl-index l.decls))) l.before)
