use Rattle.std.proofs.Common.{◌≡◌, ◌++◌, drop}
use Rattle.syntax.specs.Declarations.{declarations_of}
use Rattle.names.specs.Scope.{scope_of}
use Rattle.struct_sizes.specs.Structs.{structs_of}
use Rattle.declared_structs.specs.Forms.{structs_in}
use Rattle.declared_structs.proofs.forms.declared_structs.Given as goal

abbrev pub invariant-loop-decl : goal.invariant-loop-decl
invariant-loop-decl l = structs_in l.text (scope_of l.scope) (declarations_of l.decls) ≡ structs_of l.structs.items ++ structs_in l.text (scope_of l.scope) (declarations_of (drop l.decl-index l.decls))
