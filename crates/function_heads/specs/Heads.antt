-- What declares a function: its head, its number, and which declarations a package may have (Go specification, "Function
-- declarations", "Function types").
use Rattle.std.specs.Prelude.{ℕ, length, ◌==◌, Bool, true, false, not, ◌&&◌, ◌||◌, List, [], ◌∷◌, slice_get, Option, Some, None, nat_lt, if◌then◌else◌}
use Rattle.syntax.specs.Expressions.{spelled}
use Rattle.syntax.specs.Declarations.{Function as TreeFunction, Declaration, constants, variables, types}
use Rattle.syntax.specs.Declarations as tree
use Rattle.typed.specs.Tables.{Table}
use Rattle.typed.specs.Trees.{tree_named}
use Rattle.typed_syntax.specs.Types.{TypeTree}
use Rattle.base.specs.declared.value_type.ValueType.{ValueType}
use Rattle.names.specs.declared.scope.Declared.{Declared}
use Rattle.names.specs.declared.scope.Declared.TheVariants.{Function}
use Rattle.names.specs.Universe.{is_blank}
use Rattle.names.specs.Scope.{Scope, type_number, declaration}
use Rattle.signatures.specs.declared.slots.Slot.{Slot}
use Rattle.signatures.specs.Signatures.{params_of, is_init, may_be_named}
use Rattle.function_heads.specs.PackageBlock.{is_external_at, is_external}

abbrev pub number_of : Option Declared → Option ℕ
number_of (Some (Function f)) = Some f.0
number_of other = None

abbrev pub is_plain : Option TreeFunction → Bool
is_plain None = false
is_plain (Some f) = (length (params_of f.params) == 0) && (length (params_of f.results) == 0)

-- the number of a type in a table, where the type is known
abbrev pub number_or_int : Table → Option ValueType → ℕ
number_or_int T None = 0
number_or_int T (Some t) = type_number T t

abbrev pub slot_number : Table → Slot → ℕ
slot_number T p = number_or_int T p.value_type

-- the same type as those of values are given
abbrev pub slot_tree : Table → Slot → TypeTree
slot_tree T p = tree_named T (slot_number T p)

-- the most functions that a program may have
abbrev pub most_functions : ℕ
most_functions = 4096

-- the number of the function without parameters and results that `main` stands for
abbrev pub plain_number : List TreeFunction → Option ℕ → Option ℕ
plain_number fs None = None
plain_number fs (Some i) = if is_plain (slice_get fs i) then Some i else None

module _ (text : List ℕ) where
  -- the name and the number of a function, in the package block
  abbrev pub function_head : Scope → ℕ → TreeFunction → Bool
  function_head s i f = may_be_named i (is_blank (spelled text f.name)) (declaration s (spelled text f.name)) && nat_lt i most_functions

module _ (text : List ℕ) (heads : Scope) where
  -- the functions among them that are not `readInt` or `exit`; they have numbers in this order
  abbrev pub functions_in : List Declaration → List TreeFunction
  functions_in [] = []
  functions_in (constants at specs ∷ ds) = functions_in ds
  functions_in (variables at specs ∷ ds) = functions_in ds
  functions_in (types at specs ∷ ds) = functions_in ds
  functions_in (tree.function f ∷ ds) = if is_external text heads f then functions_in ds else f ∷ functions_in ds

  -- in the package block: no `init`, and a function without a body is the first of its name; the other declarations have rules of their own
  abbrev pub is_supported : Scope → Declaration → Bool
  is_supported s (constants at specs) = true
  is_supported s (variables at specs) = true
  is_supported s (types at specs) = true
  is_supported s (tree.function f) = not (is_init (spelled text f.name)) && (not (is_external text heads f) || is_external_at f.name.pos (declaration s (spelled text f.name)))

  abbrev pub are_supported : Scope → List Declaration → Bool
  are_supported s [] = true
  are_supported s (d ∷ ds) = is_supported s d && are_supported s ds
