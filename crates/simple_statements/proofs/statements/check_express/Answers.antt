use Rattle.std.proofs.Common.{◌≡◌}
use Rattle.std.specs.Option.{option_map}
use Rattle.syntax.specs.FirstBytes.{first_pos}
use Rattle.syntax.specs.Expressions.{ex_of}
use Rattle.type_faults.specs.Faults.{IsFault}
use Rattle.type_faults.proofs.Leasts.{least_join, leaf}
use Rattle.names.specs.Scope.{scope_of}
use Rattle.expression_types.specs.Typing.{gives}
use Rattle.expression_types.specs.Faults.{Fails}
use Rattle.given_values.specs.Passing.{gives_of}
use Rattle.simple_statements.proofs.statements.check_express.Goals as goal
use Rattle.simple_statements.specs.SimpleFaults.{use_fault}

pub returns-clause-fault : goal.returns-clause-fault
returns-clause-fault c =
    let text = c.args.text.now in
    let s = scope_of c.args.scope.now in
    let e = ex_of c.args.e.now in
    let checked = c.in_ok-checked.checked in
    let given : option_map gives_of checked.gives ≡ gives text s e = c.in_ok-checked.ensures.gives in
    let at : checked.pos ≡ first_pos e = c.in_ok-checked.ensures.pos in
    rw (c.lesser.ensures, c.use_fault-own.ensures, given, at)
    (least_join (Fails text s e) (IsFault (use_fault (gives text s e) (first_pos e))) checked.fault (use_fault (gives text s e) (first_pos e)) c.in_ok-checked.ensures.fault (leaf (use_fault (gives text s e) (first_pos e))))
