use Rattle.std.proofs.Common.{◌≡◌, drop}
use Rattle.std.specs.Prelude.{◌&&◌}
use Rattle.syntax.specs.Expressions.{exs_of}
use Rattle.type_faults.proofs.Leasts.{Kept}
use Rattle.names.specs.Scope.{scope_of}
use Rattle.simple_statements.proofs.updating.check_sides.Given as goal
use Rattle.simple_statements.specs.SimpleFaults.{have_values, OwnSidesFail}

abbrev pub invariant-loop-e : goal.invariant-loop-e
invariant-loop-e l =
    (have_values l.text (scope_of l.scope) (exs_of l.es) ≡ (l.known && have_values l.text (scope_of l.scope) (exs_of (drop l.e-index l.es))))
    × Kept (OwnSidesFail l.text (scope_of l.scope) (exs_of l.es)) (OwnSidesFail l.text (scope_of l.scope) (exs_of (drop l.e-index l.es))) l.fault
