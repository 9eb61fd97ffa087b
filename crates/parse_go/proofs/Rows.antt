-- Lists in memory as abstract syntax: one more at the end.
use Rattle.std.proofs.Common.{◌≡◌, List, [], ◌∷◌, ◌++◌}
use Rattle.std.proofs.lemmas.List.{map-append}
use Rattle.syntax.specs.declared.declaration.Field.{Field}
use Rattle.syntax.specs.declared.declaration.TypeSpec.{TypeSpec}
use Rattle.syntax.specs.declared.declaration.Decl.{Decl}
use Rattle.syntax.specs.Declarations.{field_of, fields_of, type_spec_of, type_specs_of, declaration_of, declarations_of}

pub fields_push : (fs : List Field) (f : Field) → fields_of (fs ++ f ∷ []) ≡ fields_of fs ++ field_of f ∷ []
fields_push fs f = map-append field_of fs (f ∷ [])

pub type_specs_push : (ss : List TypeSpec) (s : TypeSpec) → type_specs_of (ss ++ s ∷ []) ≡ type_specs_of ss ++ type_spec_of s ∷ []
type_specs_push ss s = map-append type_spec_of ss (s ∷ [])

pub declarations_push : (ds : List Decl) (d : Decl) → declarations_of (ds ++ d ∷ []) ≡ declarations_of ds ++ declaration_of d ∷ []
declarations_push ds d = map-append declaration_of ds (d ∷ [])
