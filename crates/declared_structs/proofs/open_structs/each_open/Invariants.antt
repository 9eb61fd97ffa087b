use Rattle.std.proofs.Common.{drop}
use Rattle.type_faults.proofs.Leasts.{Kept}
use Rattle.declared_structs.specs.Faults.{StructsOpen}
use Rattle.declared_structs.specs.Passing.{spec_views}
use Rattle.declared_structs.proofs.open_structs.each_open.Given as goal

abbrev pub invariant-loop-index : goal.invariant-loop-index
invariant-loop-index l =
    Kept (StructsOpen l.types 0 (spec_views l.specs)) (StructsOpen l.types l.index (spec_views (drop l.index l.specs))) l.fault
