use Rattle.std.proofs.Common.{subst}
use Rattle.syntax.specs.declared.expression.Expr.{Expr}
use Rattle.syntax.specs.Expressions.{ex_of}
use Rattle.type_faults.specs.Least.{IsLeast}
use Rattle.names.specs.Scope.{scope_of}
use Rattle.names.specs.Faults.{FailsAsType}
use Rattle.names.proofs.type_names.+type_fault.Goals as goal

pub returns-in-Name : goal.returns-in-Name
returns-in-Name t c = rw (c.in-Name.is) c.name_fault.ensures

pub returns-in-Paren : goal.returns-in-Paren
returns-in-Paren t c =
    let text = c.args.text.now in
    let s = scope_of c.args.scope.now in
    rw (c.in-Paren.is) (subst (λ (x : Expr). IsLeast (FailsAsType text s (ex_of x)) c.type_fault.result) c.deref-inner.ensures c.type_fault.ensures)
