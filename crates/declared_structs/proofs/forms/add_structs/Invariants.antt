use Rattle.std.proofs.Common.{◌≡◌, ◌++◌, drop}
use Rattle.syntax.specs.Declarations.{type_specs_of}
use Rattle.names.specs.Scope.{scope_of}
use Rattle.struct_sizes.specs.Structs.{structs_of}
use Rattle.declared_structs.specs.Forms.{specs_structs}
use Rattle.declared_structs.proofs.forms.add_structs.Given as goal

abbrev pub invariant-loop-spec : goal.invariant-loop-spec
invariant-loop-spec l =
    structs_of l.fn.structs.items ++ specs_structs l.text (scope_of l.scope) (type_specs_of l.specs) ≡ structs_of l.structs.items ++ specs_structs l.text (scope_of l.scope) (type_specs_of (drop l.spec-index l.specs))
