-- The form of composite literals (Go specification, "Composite literals"): which part of the whole each element stands for.
use Rattle.std.specs.Prelude.{ℕ, ◌+◌, ◌==◌, nat_le, Bool, true, false, not, ◌&&◌, ◌||◌, List, [], ◌∷◌, Option, Some, None, is_some}
use Rattle.base.specs.declared.value_type.ValueType.{ValueType}
use Rattle.base.specs.declared.value_type.ValueType.TheVariants.{Struct, Array}
use Rattle.syntax.specs.declared.expression.Name.{Name}
use Rattle.syntax.specs.Expressions.{Elements, no_elements, element, spelled}
use Rattle.typed.specs.Tables.{Table, type_at}
use Rattle.names.specs.declared.fields.Part.{Part}
use Rattle.names.specs.Scope.{Scope}
use Rattle.names.specs.Blocks.{Blocks, innermost, insert}
use Rattle.names.specs.Fields.{part_of, part_count, named_field}

abbrev pub element_count : Elements → ℕ
element_count no_elements = 0
element_count (element key e es) = 1 + element_count es

-- whether all elements have keys, and whether none has one
abbrev pub are_keyed : Elements → Bool
are_keyed no_elements = true
are_keyed (element None e es) = false
are_keyed (element (Some n) e es) = are_keyed es

abbrev pub are_plain : Elements → Bool
are_plain no_elements = true
are_plain (element None e es) = are_plain es
are_plain (element (Some n) e es) = false

-- what an element without a type of its own is
pub data Elision : Type 0 where
  -- a literal of this type
  as_type : ValueType → Elision
  -- nothing: its type has to stand there
  refused : Elision
  -- of unknown type, where nothing is known of the whole
  unknown : Elision

-- the type of a literal may be left out where it is the type of an array's elements
abbrev pub as_literal : ValueType → Elision
as_literal (Struct k) = as_type (Struct k)
as_literal (Array n e) = as_type (Array n e)
as_literal t = refused

abbrev pub elided_in : Table → ValueType → Elision
elided_in T (Array n e) = as_literal (type_at T e.0)
elided_in T t = refused

abbrev pub elided : Table → Option ValueType → Elision
elided T None = unknown
elided T (Some t) = elided_in T t

-- the type that it has then
abbrev pub type_elided : Elision → Option ValueType
type_elided (as_type t) = Some t
type_elided refused = None
type_elided unknown = None

module _ (text : List ℕ) (s : Scope) where
  -- the part of a whole that an element stands for: the field that its key names, or the part with its number
  abbrev pub element_part_in : ValueType → ℕ → Option Name → Option Part
  element_part_in t n None = part_of s.types t n
  element_part_in t n (Some key) = named_field s t (spelled text key)

  abbrev pub element_part : Option ValueType → ℕ → Option Name → Option Part
  element_part None n key = None
  element_part (Some t) n key = element_part_in t n key

  -- each key is the name of a field, and none of those before it
  abbrev pub keys_fit : ValueType → Blocks → Elements → Bool
  keys_fit t before no_elements = true
  keys_fit t before (element None e es) = keys_fit t before es
  keys_fit t before (element (Some n) e es) =
      (is_some (named_field s t (spelled text n)) && not (is_some (innermost before (spelled text n)))) && keys_fit t (insert before (spelled text n) 0) es

  -- the elements of a struct have keys, or there is one for each field; those of an array have none, and are no more than it has
  abbrev pub shape_fits : ValueType → Elements → Bool
  shape_fits (Struct k) es = (are_keyed es && keys_fit (Struct k) ([] ∷ []) es) || (are_plain es && (element_count es == part_count s.types (Struct k)))
  shape_fits (Array n e) es = are_plain es && nat_le (element_count es) n
  shape_fits t es = false
