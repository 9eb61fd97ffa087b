use Rattle.std.proofs.Common.{◌≡◌, ◌++◌, drop, map}
use Rattle.std.specs.Option.{option_map}
use Rattle.syntax.specs.Expressions.{exs_of}
use Rattle.typed.specs.View.{left_of}
use Rattle.type_faults.proofs.Leasts.{Kept}
use Rattle.names.specs.Scope.{scope_of}
use Rattle.type_faults.proofs.Lists.{joined}
use Rattle.simple_statements.proofs.sides.check_lefts.Given as goal
use Rattle.simple_statements.specs.SimpleStatements.{lefts, all_wanted}
use Rattle.simple_statements.specs.SimpleFaults.{LeftsFail}

abbrev pub invariant-loop-e : goal.invariant-loop-e
invariant-loop-e l =
    (lefts l.text (scope_of l.scope) (exs_of l.es) ≡ joined (option_map (λ v. map left_of v.items) l.lefts) (lefts l.text (scope_of l.scope) (exs_of (drop l.e-index l.es))))
    × (all_wanted l.text (scope_of l.scope) (exs_of l.es) ≡ l.wanted.items ++ all_wanted l.text (scope_of l.scope) (exs_of (drop l.e-index l.es)))
    × Kept (LeftsFail l.text (scope_of l.scope) (exs_of l.es)) (LeftsFail l.text (scope_of l.scope) (exs_of (drop l.e-index l.es))) l.fault
