use Rattle.std.proofs.Common.{◌≡◌, drop}
use Rattle.syntax.specs.Statements.{stms_of}
use Rattle.names.specs.Scope.{scope_of}
use Rattle.entered_types.specs.Entered.{entered_statements}
use Rattle.entered_types.proofs.statements.+statements.Given as goal

abbrev pub invariant-enter_stmts-loop-s : goal.invariant-enter_stmts-loop-s
invariant-enter_stmts-loop-s l = entered_statements l.text (scope_of l.fn.scope) (stms_of l.ms) ≡ entered_statements l.text (scope_of l.scope) (stms_of (drop l.s-index l.ms))
