-- The package block has the types with which it begins.
use Rattle.std.proofs.Common.{◌≡◌, ℕ, Bool, true, false, List}
use Rattle.syntax.specs.declared.expression.Name.{Name}
use Rattle.syntax.specs.Declarations.{TypeSpec, Function as TreeFunction, Declaration}
use Rattle.typed.specs.Tables.{Table}
use Rattle.names.specs.Scope.{Scope}
use Rattle.package_values.specs.Values.{items_in, settled}
use Rattle.function_heads.specs.PackageBlock.{with_items}
use Rattle.types_go.proofs.Package.{constant_one, variable_one, type_one, declared_one, items_kept, settled_kept}

module _ (text : List ℕ) (heads : Scope) (T : Table) where
  abbrev HasTypes : Scope → Type 0
  HasTypes s = s.types ≡ T

  constant_types : (s : Scope) (n : Name) (declares : Bool) → HasTypes s → HasTypes (constant_one text s n declares)
  constant_types s n true h = h
  constant_types s n false h = h

  variable_types : (s : Scope) (n : Name) (blank declares : Bool) → HasTypes s → HasTypes (variable_one text s n blank declares)
  variable_types s n true declares h = h
  variable_types s n false true h = h
  variable_types s n false false h = h

  struct_types : (s : Scope) (t : TypeSpec) (declares : Bool) → HasTypes s → HasTypes (type_one text s t declares)
  struct_types s t true h = h
  struct_types s t false h = h

  function_types : (s : Scope) (g : TreeFunction) (external declares : Bool) → HasTypes s → HasTypes (declared_one text heads s g external declares)
  function_types s g true true h = h
  function_types s g true false h = h
  function_types s g false true h = h
  function_types s g false false h = h

  pub items_types : (s : Scope) (ds : List Declaration) → s.types ≡ T → (with_items text heads s ds).types ≡ T
  items_types s ds h = items_kept text heads HasTypes constant_types variable_types struct_types function_types s ds h

  pub block_types : (s : Scope) (ds : List Declaration) → s.types ≡ T → (settled text (with_items text heads s ds) (items_in ds)).types ≡ T
  block_types s ds h = settled_kept text HasTypes (λ v k i g. g) (with_items text heads s ds) (items_in ds) (items_types s ds h)
