use Rattle.std.proofs.Common.{◌≡◌, List, Option, subst}
use Rattle.std.specs.Option.{option_map}
use Rattle.base.specs.declared.value_type.ValueType.{ValueType}
use Rattle.syntax.specs.Statements.{targets_of}
use Rattle.type_faults.specs.Least.{IsLeast}
use Rattle.names.specs.Scope.{Scope, scope_of, opened}
use Rattle.types_go.proofs.ranges.check_sides.Goals as goal
use Rattle.types_go.specs.Ranges.{given_types}
use Rattle.types_go.specs.RangeFaults.{TargetsFail}
use Rattle.types_go.specs.StatementPassing.{ranged_view}

pub returns-clause-fault : goal.returns-clause-fault
returns-clause-fault c =
    let text = c.args.text.now in
    let t = targets_of c.args.targets.now in
    let open1 : scope_of c.open.new.self ≡ opened (scope_of c.args.scope.now) = c.in_ok-open.ensures in
    let given = c.in_ok-given.ensures in
    subst (λ (v : Scope). IsLeast (TargetsFail text v (given_types (option_map ranged_view c.args.ranged)) t) c.in_ok-keys.keys.fault) open1
    (subst (λ (o : Option (List ValueType)). IsLeast (TargetsFail text (scope_of c.open.new.self) o t) c.in_ok-keys.keys.fault) given c.in_ok-keys.ensures.fault)
