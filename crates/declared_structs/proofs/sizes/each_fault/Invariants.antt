use Rattle.std.proofs.Common.{◌≡◌, ℕ, List, Option, map, drop}
use Rattle.type_faults.proofs.Leasts.{Kept}
use Rattle.struct_sizes.specs.Structs.{Fields}
use Rattle.struct_sizes.specs.Verdicts.{AreVerdicts}
use Rattle.names.specs.Scope.{scope_of}
use Rattle.declared_structs.specs.Faults.{SizesFail}
use Rattle.declared_structs.specs.Passing.{spec_views, types_of}
use Rattle.declared_structs.proofs.sizes.each_fault.Given as goal

abbrev pub invariant-loop-index : goal.invariant-loop-index
invariant-loop-index l =
    (ss : List Fields) (table : List (Option ℕ)) → AreVerdicts ss table l.found → ss ≡ map (types_of l.text (scope_of l.scope)) (spec_views l.specs)
    → Kept (SizesFail l.text (scope_of l.scope) ss table 0 (spec_views l.specs)) (SizesFail l.text (scope_of l.scope) ss table l.index (spec_views (drop l.index l.specs))) l.fault
