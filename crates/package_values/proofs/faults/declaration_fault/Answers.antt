use Rattle.std.proofs.Common.{List, IfOk, subst}
use Rattle.syntax.specs.declared.statement.ValueSpec.{ValueSpec}
use Rattle.syntax.specs.Statements.{value_specs_of}
use Rattle.type_faults.specs.Least.{IsLeast}
use Rattle.names.specs.Scope.{scope_of}
use Rattle.package_values.specs.ValueFaults.{SpecsFail, AllVariablesFail}
use Rattle.package_values.proofs.faults.declaration_fault.Goals as goal

pub returns-in-Const : goal.returns-in-Const
returns-in-Const c =
    let text = c.args.text.now in
    let s = scope_of c.args.scope.now in
    rw (c.in-Const.is) (subst (λ (l : List ValueSpec). IfOk c.specs_fault.result (λ r. IsLeast (SpecsFail text s c.in-Const.pos (value_specs_of l)) r)) c.deref.ensures.value c.specs_fault.ensures)

pub returns-in-Var : goal.returns-in-Var
returns-in-Var c =
    let text = c.args.text.now in
    let s = scope_of c.args.scope.now in
    rw (c.in-Var.is)
    (subst (λ (l : List ValueSpec). IfOk c.all_variables_fault.result (λ r. IsLeast (AllVariablesFail text s c.in-Var.pos (value_specs_of l)) r)) c.deref-in-Var.ensures.value c.all_variables_fault.ensures)
