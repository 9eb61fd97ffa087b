use Rattle.std.proofs.Common.{◌≡◌, ◌++◌, drop}
use Rattle.syntax.specs.Declarations.{fields_of}
use Rattle.names.specs.Scope.{scope_of}
use Rattle.declared_structs.specs.Forms.{struct_types}
use Rattle.declared_structs.specs.Passing.{views}
use Rattle.declared_structs.proofs.forms.struct_of.Given as goal

abbrev pub invariant-loop-field : goal.invariant-loop-field
invariant-loop-field l = struct_types l.text (scope_of l.scope) (fields_of l.fields) ≡ views l.types.items ++ struct_types l.text (scope_of l.scope) (fields_of (drop l.field-index l.fields))
