use Rattle.std.proofs.Common.{◌≡◌, ◌++◌, drop}
use Rattle.syntax.specs.Declarations.{declarations_of}
use Rattle.declared_structs.specs.Faults.{type_specs_in}
use Rattle.declared_structs.specs.Passing.{spec_views}
use Rattle.declared_structs.proofs.type_specs.type_specs.Given as goal

abbrev pub invariant-loop-decl : goal.invariant-loop-decl
invariant-loop-decl l = type_specs_in (declarations_of l.decls) ≡ spec_views l.specs.items ++ type_specs_in (declarations_of (drop l.decl-index l.decls))
