use Rattle.std.proofs.Common.{◌≡◌, List, ◌∙◌, subst}
use Rattle.std.specs.Option.{option_map}
use Rattle.syntax.specs.Expressions.{exs_of}
use Rattle.type_faults.specs.Least.{IsLeast}
use Rattle.type_faults.proofs.Leasts.{least_join}
use Rattle.names.specs.Scope.{scope_of}
use Rattle.given_values.specs.declared.wants.Wanted.{Wanted}
use Rattle.simple_statements.specs.SimpleStatements.{all_wanted}
use Rattle.types_go.specs.RangeFaults.{GivenFail}
use Rattle.types_go.proofs.ranges.check_assigned.Goals as goal

pub returns-clause-fault : goal.returns-clause-fault
returns-clause-fault c =
    let es = exs_of c.args.es.now in
    let types : c.deref.result.now ≡ all_wanted c.args.text.now (scope_of c.args.scope.now) es = c.deref.ensures.value ∙ c.in_ok-left.ensures.wanted in
    let given = subst (λ (ps : List Wanted). IsLeast (GivenFail (option_map (λ v. v.items) c.args.given.now) ps es) c.given_faults-own.result) types c.given_faults-own.ensures in
    rw (c.lesser.ensures) (least_join _ _ c.in_ok-left.left.fault c.given_faults-own.result c.in_ok-left.ensures.fault given)
