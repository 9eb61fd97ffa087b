use Rattle.std.proofs.Common.{◌≡◌, Some, None, sym, ◌∙◌, subst}
use Rattle.base.specs.declared.pos.Pos.{Pos}
use Rattle.syntax.specs.Expressions.{ex_of, spelled}
use Rattle.type_faults.specs.Least.{IsLeast}
use Rattle.type_faults.specs.Faults.{IsFault}
use Rattle.type_faults.proofs.Leasts.{least_join, leaf}
use Rattle.names.specs.Universe.{is_blank}
use Rattle.names.specs.Scope.{scope_of, declaration}
use Rattle.names.specs.Naming.{name_in}
use Rattle.simple_statements.proofs.sides.side_fault.Goals as goal
use Rattle.simple_statements.specs.SimpleFaults.{left_fault}

pub returns-in-Some : goal.returns-in-Some
returns-in-Some c =
    let found : name_in (ex_of c.args.e.now) ≡ Some c.in-Some.name = sym c.name_in.ensures ∙ c.in-Some.is in
    let text = c.args.text.now in
    let n = c.in-Some.name in
    let bytes = spelled text n in
    rw (found)
    (subst (λ (p : Pos). IsLeast (IsFault (left_fault (is_blank bytes) (declaration (scope_of c.args.scope.now) bytes) n.pos p)) c.name_left_fault.result) c.pos.ensures c.name_left_fault.ensures)

pub returns-in-None : goal.returns-in-None
returns-in-None c =
    let found : name_in (ex_of c.args.e.now) ≡ None = sym c.name_in.ensures ∙ c.in-None.is in
    rw (found, c.lesser.ensures, c.place_fault.ensures, c.pos-in-None.ensures, c.requires.operand) (least_join _ _ c.args.single.now.fault _ c.requires.fault (leaf _))
