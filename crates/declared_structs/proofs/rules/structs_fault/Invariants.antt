use Rattle.std.proofs.Common.{drop}
use Rattle.type_faults.proofs.Leasts.{Kept}
use Rattle.names.specs.Scope.{scope_of}
use Rattle.declared_structs.specs.Faults.{StructsFail}
use Rattle.declared_structs.specs.Passing.{spec_views}
use Rattle.declared_structs.proofs.rules.structs_fault.Given as goal

abbrev pub invariant-loop-index : goal.invariant-loop-index
invariant-loop-index l = Kept (StructsFail l.text (scope_of l.scope) 0 (spec_views l.specs)) (StructsFail l.text (scope_of l.scope) l.index (spec_views (drop l.index l.specs))) l.fault
