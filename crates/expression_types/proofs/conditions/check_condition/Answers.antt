use Rattle.std.specs.Option.{option_map}
use Rattle.syntax.specs.Expressions.{ex_of}
use Rattle.operators.specs.Passing.{operand_of}
use Rattle.names.specs.Scope.{scope_of}
use Rattle.expression_types.proofs.Nodes.{condition_least}
use Rattle.expression_types.proofs.conditions.check_condition.Goals as goal

pub returns-clause-fault : goal.returns-clause-fault
returns-clause-fault c =
    let found = c.in_ok-found.found in
    rw (c.lesser.ensures, c.condition_fault-own.ensures)
    (condition_least c.args.text.now (scope_of c.args.scope.now) c.args.pos (ex_of c.args.e.now) found.fault (option_map operand_of found.operand) c.in_ok-found.ensures.fault c.in_ok-found.ensures.operand)
