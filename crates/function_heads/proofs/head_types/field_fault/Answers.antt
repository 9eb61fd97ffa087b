use Rattle.std.proofs.Common.{◌≡◌, ℕ, true, false, sym, ◌∙◌, length, List, Option, Result, Ok, Err, map}
use Rattle.std.specs.Prelude.{◌==◌, IfOk}
use Rattle.base.specs.declared.memory.NoMemory.{NoMemory}
use Rattle.syntax.specs.declared.expression.Name.{Name}
use Rattle.syntax.specs.Expressions.{Ex, ex_of}
use Rattle.type_faults.specs.declared.fault.Fault.{Fault}
use Rattle.type_faults.specs.Least.{IsLeast}
use Rattle.names.specs.Scope.{Scope, scope_of}
use Rattle.expression_types.specs.Faults.{StatedFails}
use Rattle.signatures.specs.Signatures.{param_with}
use Rattle.function_heads.specs.HeadFaults.{TypesFail}
use Rattle.function_heads.proofs.head_types.field_fault.Goals as goal
use Rattle.function_heads.proofs.Fields.{shared_least, no_names_least}

pub returns-then-is_empty : goal.returns-then-is_empty
returns-then-is_empty c =
    let none : (length c.args.names.now == 0) ≡ true = sym c.is_empty.ensures ∙ c.if-is_empty.true in
    no_names_least c.args.text.now (scope_of c.args.scope.now) (ex_of c.args.type_expr.now) c.args.names.now none

shared : (text : List ℕ) (s : Scope) (t : Ex) (ns : List Name) (r : Result (Option Fault) NoMemory) → (length ns == 0) ≡ false
    → IfOk r (λ b. IsLeast (StatedFails text s t) b) → IfOk r (λ b. IsLeast (TypesFail text s (map (param_with t) ns)) b)
shared text s t ns (Ok b) some least = shared_least text s t ns b some least
shared text s t ns (Err e) some least = tt

pub returns-else-is_empty : goal.returns-else-is_empty
returns-else-is_empty c =
    let some : (length c.args.names.now == 0) ≡ false = sym c.is_empty.ensures ∙ c.if-is_empty.false in
    shared c.args.text.now (scope_of c.args.scope.now) (ex_of c.args.type_expr.now) c.args.names.now c.fault_in.result some c.fault_in.ensures
