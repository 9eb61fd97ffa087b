use Rattle.std.proofs.Common.{drop}
use Rattle.std.specs.Option.{option_map}
use Rattle.syntax.specs.Statements.{stms_of}
use Rattle.names.specs.Scope.{scope_of}
use Rattle.types_go.proofs.blocks.+statements.Given as goal
use Rattle.simple_statements.specs.SimpleStatements.{returns_view}
use Rattle.types_go.proofs.Sequences.{KeptStatements}

abbrev pub invariant-check_stmts-loop-s : goal.invariant-check_stmts-loop-s
invariant-check_stmts-loop-s l =
    KeptStatements l.text (returns_view l.returns) l.looped (scope_of l.fn.scope) (stms_of l.ms) (stms_of (drop l.s-index l.ms)) (scope_of l.scope) (option_map (λ v. v.items) l.statements) l.fault
