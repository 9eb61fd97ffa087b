use Rattle.std.proofs.Common.{Option, subst}
use Rattle.syntax.specs.Expressions.{ex_of as tree_of}
use Rattle.syntax.specs.Statements.{targets_of}
use Rattle.type_faults.specs.Least.{IsLeast}
use Rattle.type_faults.proofs.Leasts.{least_join, leaf}
use Rattle.names.specs.Scope.{scope_of, opened}
use Rattle.types_go.proofs.ranges.check_range.Goals as goal
use Rattle.types_go.specs.Ranges.{Ranged, given_types, ranged}
use Rattle.types_go.specs.RangeFaults.{TargetsFail}

pub returns-clause-fault : goal.returns-clause-fault
returns-clause-fault c =
    let text = c.args.text.now in
    let s = scope_of c.args.scope.now in
    let t = targets_of c.args.targets.now in
    let e = tree_of c.args.e.now in
    let keys = subst (λ (o : Option Ranged). IsLeast (TargetsFail text (opened s) (given_types o) t) c.in-Ok.sides.keys.fault) c.in_ok-over.ensures.ranged c.in-Ok.ensures.fault in
    let own1 = least_join _ _ c.in_ok-over.over.fault c.in-Ok.sides.keys.fault c.in_ok-over.ensures.fault keys in
    rw (c.lesser-fault.ensures, c.lesser-2.ensures, c.lesser.ensures, c.keys_fault-keys_own.ensures, c.call_fault-call_own.ensures, c.most_in.ensures, c.in_ok-over.ensures.ranged, c.in_ok-over.ensures.call, c.in-Ok.ensures.count)
    (least_join _ _ _ _ (least_join _ _ _ _ own1 (leaf _)) (leaf _))
