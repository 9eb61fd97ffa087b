use Rattle.std.proofs.Common.{List, subst}
use Rattle.std.specs.Prelude.{IfOk}
use Rattle.syntax.specs.declared.expression.Expr.{Expr}
use Rattle.syntax.specs.declared.declaration.Field.{Field}
use Rattle.syntax.specs.Expressions.{exs_of}
use Rattle.syntax.specs.Declarations.{fields_of}
use Rattle.type_faults.specs.Least.{IsLeast}
use Rattle.names.specs.Scope.{scope_of}
use Rattle.function_heads.proofs.head_types.types_fault.Goals as goal
use Rattle.signatures.specs.Signatures.{unnamed_params, named_params}
use Rattle.function_heads.specs.HeadFaults.{TypesFail}

pub returns-in-Unnamed : goal.returns-in-Unnamed
returns-in-Unnamed c =
    rw (c.in-Unnamed.is)
    (subst (λ (l : List Expr). IfOk c.unnamed_fault.result (λ r. IsLeast (TypesFail c.args.text.now (scope_of c.args.scope.now) (unnamed_params (exs_of l))) r))
    c.deref.ensures.value c.unnamed_fault.ensures)

pub returns-in-Named : goal.returns-in-Named
returns-in-Named c =
    rw (c.in-Named.is)
    (subst (λ (l : List Field). IfOk c.named_fault.result (λ r. IsLeast (TypesFail c.args.text.now (scope_of c.args.scope.now) (named_params (fields_of l))) r))
    c.deref-in-Named.ensures.value c.named_fault.ensures)
