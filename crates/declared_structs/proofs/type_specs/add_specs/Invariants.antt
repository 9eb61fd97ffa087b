use Rattle.std.proofs.Common.{◌≡◌, ◌++◌, drop}
use Rattle.syntax.specs.Declarations.{type_specs_of}
use Rattle.declared_structs.specs.Passing.{spec_views}
use Rattle.declared_structs.proofs.type_specs.add_specs.Given as goal

abbrev pub invariant-loop-spec : goal.invariant-loop-spec
invariant-loop-spec l = spec_views l.fn.specs.items ++ type_specs_of l.declared ≡ spec_views l.specs.items ++ type_specs_of (drop l.spec-index l.declared)
