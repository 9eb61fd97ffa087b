use Rattle.std.proofs.Common.{◌≡◌, drop}
use Rattle.std.specs.Option.{option_map}
use Rattle.syntax.specs.Statements.{value_specs_of}
use Rattle.type_faults.proofs.Leasts.{Kept}
use Rattle.names.specs.Scope.{scope_of}
use Rattle.simple_statements.proofs.variables.check_var.Given as goal
use Rattle.simple_statements.specs.SimpleStatements.{spec_statements, behind_specs}
use Rattle.simple_statements.specs.SimpleFaults.{FailsInSpecs}
use Rattle.simple_statements.proofs.Sequences.{joined}

abbrev pub invariant-loop-spec : goal.invariant-loop-spec
invariant-loop-spec l =
    (spec_statements l.text (scope_of l.fn.scope) (value_specs_of l.specs) ≡ joined (option_map (λ v. v.items) l.statements) (spec_statements l.text (scope_of l.scope) (value_specs_of (drop l.spec-index l.specs))))
    × (Kept (FailsInSpecs l.text (scope_of l.fn.scope) l.pos (value_specs_of l.specs)) (FailsInSpecs l.text (scope_of l.scope) l.pos (value_specs_of (drop l.spec-index l.specs))) l.fault
    × (behind_specs l.text (scope_of l.fn.scope) (value_specs_of l.specs) ≡ behind_specs l.text (scope_of l.scope) (value_specs_of (drop l.spec-index l.specs))))
