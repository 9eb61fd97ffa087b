use Rattle.std.proofs.Common.{drop}
use Rattle.syntax.specs.Declarations.{declarations_of}
use Rattle.type_faults.proofs.Leasts.{Kept}
use Rattle.names.specs.Scope.{scope_of}
use Rattle.function_heads.proofs.open_heads.heads_open.Given as goal
use Rattle.function_heads.specs.Heads.{functions_in}
use Rattle.function_heads.specs.HeadFaults.{HeadsOpen}

abbrev pub invariant-loop-decl : goal.invariant-loop-decl
invariant-loop-decl l =
    let heads = scope_of l.heads in
    Kept (HeadsOpen l.text heads (functions_in l.text heads (declarations_of l.decls)))
    (HeadsOpen l.text heads (functions_in l.text heads (declarations_of (drop l.decl-index l.decls)))) l.fault
