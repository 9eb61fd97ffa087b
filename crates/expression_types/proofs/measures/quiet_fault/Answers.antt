use Rattle.std.proofs.Common.{◌≡◌, ◌≤◌, ℕ, List, [], ◌∷◌, None, length, refl, arith}
use Rattle.syntax.specs.declared.expression.Expr.{Expr}
use Rattle.syntax.specs.Expressions.{exs_of}
use Rattle.names.specs.declared.scope.Measure.{Measure}
use Rattle.names.specs.Scope.{Scope, scope_of}
use Rattle.given_values.specs.Given.{Seen, measurer}
use Rattle.given_values.specs.Passing.{seens}
use Rattle.expression_types.specs.Faults.{quiet_fault}
use Rattle.expression_types.proofs.measures.quiet_fault.Goals as goal

-- of more than one argument none is looked at
more_arguments : (text : List ℕ) (s : Scope) (m : Measure) (xs : List Expr) (os : List Seen) → 2 ≤ length xs → None ≡ quiet_fault text s (measurer m) (exs_of xs) os
more_arguments text s m [] os long = absurd (omega (arith, long))
more_arguments text s m (x ∷ []) os long = absurd (omega (arith, long))
more_arguments text s m (x ∷ y ∷ xs) os long = refl

pub returns-in_default-arguments-2 : goal.returns-in_default-arguments-2
returns-in_default-arguments-2 c =
    rw (c.in-Measurer.is)
    (more_arguments c.args.text.now (scope_of c.args.scope.now) c.in-Measurer.field-0 c.args.arguments.now (seens c.args.items.now) c.in_default-arguments.len_at_least)
