-- The structs that declarations have, by the types of their fields (Go specification, "Struct types", "Array types").
use Rattle.std.specs.Prelude.{ℕ, List, [], ◌∷◌, ◌++◌, map, Option, Some, None, option_and_then}
use Rattle.std.specs.Option.{option_map}
use Rattle.syntax.specs.declared.expression.Name.{Name}
use Rattle.syntax.specs.Expressions.{Ex as TreeEx, name, paren, array_type, spelled}
use Rattle.syntax.specs.Declarations.{Field, TypeSpec, Declaration, constants, variables, types, function}
use Rattle.base.specs.declared.value_type.ValueType.{ValueType}
use Rattle.base.specs.declared.value_type.ValueType.TheVariants as value_type
use Rattle.struct_sizes.specs.declared.forms.Prefix.TheVariants.{Array}
use Rattle.struct_sizes.specs.declared.forms.Base.{Base}
use Rattle.struct_sizes.specs.declared.forms.Base.TheVariants.{Int, Bool as Truth, Struct}
use Rattle.struct_sizes.specs.Structs.{Prefixed, Fields}
use Rattle.names.specs.declared.scope.Declared.{Declared}
use Rattle.names.specs.declared.scope.Declared.TheVariants as declared
use Rattle.names.specs.Scope.{Scope, declaration}
use Rattle.operand_parts.specs.ArrayTypes.{length_of}
use Rattle.expression_types.specs.Typing.{early_gives}

-- what a type begins from that has a name
abbrev pub base_of : ValueType → Option Base
base_of value_type.Int = Some Int
base_of value_type.Bool = Some Truth
base_of (value_type.Struct k) = Some (Struct k)
base_of (value_type.Array n e) = None
base_of (value_type.Pointer e) = None
base_of (value_type.Slice e) = None

abbrev pub base_in : Option Declared → Option Base
base_in (Some (declared.«Type» t)) = base_of t
base_in other = None

abbrev pub plain : Base → Prefixed
plain b = record { prefixes = []; base = b }

-- arrays of a length, of elements of a type
abbrev pub array_of : ℕ → Prefixed → Prefixed
array_of n t = record { prefixes = Array n ∷ t.prefixes; base = t.base }

module _ (text : List ℕ) (s : Scope) where
  -- the length of arrays that an expression is
  abbrev pub length_in : TreeEx → Option ℕ
  length_in e = option_and_then length_of (early_gives text s e)

  -- the type that an expression states, by the constants and the names of a scope, whatever words it has: an array type whose length is known,
  -- or the name of a type
  abbrev pub prefixed : TreeEx → Option Prefixed
  prefixed (name n) = option_map plain (base_in (declaration s (spelled text n)))
  prefixed (paren at e) = prefixed e
  prefixed (array_type at len e) = option_and_then (λ n. option_map (array_of n) (prefixed e)) (length_in len)
  prefixed other = None

  -- a field for each name
  abbrev pub field_types : Field → Fields
  field_types f = map (λ (n : Name). prefixed f.type_expr) f.names

  abbrev pub struct_types : List Field → Fields
  struct_types [] = []
  struct_types (f ∷ fs) = field_types f ++ struct_types fs

  abbrev pub specs_structs : List TypeSpec → List Fields
  specs_structs specs = map (λ t. struct_types t.fields) specs

  -- the structs of declarations, in the order of the text
  abbrev pub structs_in : List Declaration → List Fields
  structs_in [] = []
  structs_in (constants at specs ∷ ds) = structs_in ds
  structs_in (variables at specs ∷ ds) = structs_in ds
  structs_in (types at specs ∷ ds) = specs_structs specs ++ structs_in ds
  structs_in (function f ∷ ds) = structs_in ds
