use Rattle.std.proofs.Common.{◌≡◌, drop}
use Rattle.std.specs.Prelude.{◌&&◌}
use Rattle.syntax.specs.Expressions.{exs_of}
use Rattle.names.specs.Scope.{scope_of}
use Rattle.package_values.specs.Needs.{have_form}
use Rattle.package_values.proofs.needs.have_form.Given as goal

abbrev pub invariant-loop-e : goal.invariant-loop-e
invariant-loop-e l = have_form l.text (scope_of l.scope) (exs_of l.es) ≡ (l.all && have_form l.text (scope_of l.scope) (exs_of (drop l.e-index l.es)))
