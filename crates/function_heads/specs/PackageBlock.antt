-- What a package declares (Go specification, "Blocks", "Function declarations"): `readInt` and `exit`, which have no body, and all others.
use Rattle.std.specs.Prelude.{ℕ, length, ◌==◌, Bool, true, false, not, ◌&&◌, ◌||◌, List, [], ◌∷◌, codes, Option, Some, None, is_some, if◌then◌else◌}
use Rattle.std.specs.Str.{bytes_eq}
use Rattle.syntax.specs.Expressions.{spelled}
use Rattle.syntax.specs.Declarations.{Function as TreeFunction, Declaration, constants, variables, types}
use Rattle.syntax.specs.Declarations as tree
use Rattle.base.specs.declared.pos.Pos.{Pos}
use Rattle.base.specs.declared.value_type.ValueType.{ValueType}
use Rattle.base.specs.declared.value_type.ValueType.TheVariants.{Int, Bool as Boolean}
use Rattle.names.specs.declared.scope.External.{External as ExternalData}
use Rattle.names.specs.declared.scope.External.TheVariants as external
use Rattle.names.specs.declared.scope.Declared.{Declared}
use Rattle.names.specs.declared.scope.Declared.TheVariants.{Function, External}
use Rattle.names.specs.Scope.{Scope, Signature, with_signature}
use Rattle.signatures.specs.Signatures.{is_named, with_name, with_types, with_constants, with_package_variables}
use Rattle.function_heads.specs.HeadTypes.{signature_in}

-- one parameter, an int, and no results
abbrev pub takes_one_int : List ValueType → List ValueType → Bool
takes_one_int (Int ∷ []) [] = true
takes_one_int params results = false

abbrev pub is_of_exit : Option Signature → Bool
is_of_exit None = false
is_of_exit (Some sig) = takes_one_int sig.params sig.results

-- no parameters, and an int and a bool as results
abbrev pub gives_int_and_bool : List ValueType → List ValueType → Bool
gives_int_and_bool [] (Int ∷ Boolean ∷ []) = true
gives_int_and_bool params results = false

abbrev pub is_of_read_int : Option Signature → Bool
is_of_read_int None = false
is_of_read_int (Some sig) = gives_int_and_bool sig.params sig.results

-- which of the two functions without a body has a name that one of them has
abbrev pub external_named : List ℕ → ExternalData
external_named name = if bytes_eq name (codes "exit") then external.Exit else external.ReadInt

-- whether a name stands for the function without a body that is declared at a place
abbrev pub is_external_at : Pos → Option Declared → Bool
is_external_at pos (Some (External e declared_pos)) = declared_pos.offset == pos.offset
is_external_at pos other = false

-- in a text, among the names of its package
module _ (text : List ℕ) (heads : Scope) where
  -- `exit` takes an int; `readInt` gives an int and a bool, which have no names
  abbrev pub has_exit_head : TreeFunction → Bool
  has_exit_head f = bytes_eq (spelled text f.name) (codes "exit") && is_of_exit (signature_in text heads f)

  abbrev pub has_read_int_head : TreeFunction → Bool
  has_read_int_head f =
      bytes_eq (spelled text f.name) (codes "readInt") && (is_of_read_int (signature_in text heads f) && not (is_named f.results))

  -- whether a function is one of the two, which have no body
  abbrev pub is_external : TreeFunction → Bool
  is_external f = not (is_some f.body) && (has_exit_head f || has_read_int_head f)

  -- ---- the package block: the first declaration of a name stays

  abbrev pub with_function : Scope → TreeFunction → Scope
  with_function s f =
      if is_external f
      then with_name text (External (external_named (spelled text f.name)) f.name.pos) s f.name
      else with_signature (with_name text (Function (record { 0 = length s.signatures })) s f.name) (signature_in text heads f)

  abbrev pub with_item : Scope → Declaration → Scope
  with_item s (constants pos specs) = with_constants text s specs
  with_item s (variables pos specs) = with_package_variables text s specs
  with_item s (types pos specs) = with_types text s specs
  with_item s (tree.function f) = with_function s f

  abbrev pub with_items : Scope → List Declaration → Scope
  with_items s [] = s
  with_items s (d ∷ ds) = with_items (with_item s d) ds
