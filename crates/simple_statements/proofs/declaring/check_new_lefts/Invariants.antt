use Rattle.std.proofs.Common.{◌≡◌, ◌+◌, drop, map, length}
use Rattle.std.specs.Option.{option_map}
use Rattle.typed.specs.View.{left_of}
use Rattle.type_faults.proofs.Leasts.{Kept}
use Rattle.names.specs.Scope.{scope_of}
use Rattle.type_faults.proofs.Lists.{joined}
use Rattle.simple_statements.proofs.declaring.check_new_lefts.Given as goal
use Rattle.simple_statements.specs.SimpleStatements.{new_lefts}
use Rattle.simple_statements.specs.SimpleFaults.{NewNamesFail}

abbrev pub invariant-loop-name : goal.invariant-loop-name
invariant-loop-name l =
    (new_lefts l.text (scope_of l.scope) (length (scope_of l.scope).sites) l.names
    ≡ joined (option_map (λ v. map left_of v.items) l.lefts) (new_lefts l.text (scope_of l.scope) (length (scope_of l.scope).sites + l.count) (drop l.name-index l.names)))
    × Kept (NewNamesFail l.text (scope_of l.scope) l.names) (NewNamesFail l.text (scope_of l.scope) (drop l.name-index l.names)) l.fault
