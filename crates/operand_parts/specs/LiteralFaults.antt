-- Which rules of the form of composite literals fail, and where each is reported.
use Rattle.std.specs.Prelude.{ℕ, ◌==◌, nat_le, ◌⊎◌, Bool, true, false, List, [], ◌∷◌, Option, Some, None, is_some, if◌then◌else◌}
use Rattle.base.specs.declared.pos.Pos.{Pos}
use Rattle.base.specs.declared.value_type.ValueType.{ValueType}
use Rattle.base.specs.declared.value_type.ValueType.TheVariants.{Struct, Array}
use Rattle.syntax.specs.Expressions.{Elements, no_elements, element, spelled}
use Rattle.typed.specs.Tables.{Table}
use Rattle.type_faults.specs.declared.fault.Fault.{Fault}
use Rattle.type_faults.specs.declared.fault.FaultKind.TheVariants.{Unknown, Redeclared, WrongCount, Unfit, OutOfProfile}
use Rattle.type_faults.specs.Faults.{fault, IsFault}
use Rattle.names.specs.Scope.{Scope}
use Rattle.names.specs.Blocks.{Blocks, innermost, insert}
use Rattle.names.specs.Fields.{part_count, named_field}
use Rattle.operand_parts.specs.Literals.{Elision, as_type, refused, unknown, element_count, are_keyed, are_plain}

abbrev pub count_fault : Bool → Pos → Option Fault
count_fault fits first = if fits then None else Some (fault WrongCount first)

-- the elements of a struct all have keys or none has one; those of an array have none; nothing else has elements
abbrev pub shape_fault : Table → Pos → ValueType → Elements → Option Fault
shape_fault T first (Struct k) es =
    if are_keyed es then None
    else (if are_plain es then count_fault (element_count es == part_count T (Struct k)) first else Some (fault Unfit first))
shape_fault T first (Array n e) es = if are_plain es then count_fault (nat_le (element_count es) n) first else Some (fault OutOfProfile first)
shape_fault T first t es = Some (fault Unfit first)

-- an element whose type has to stand there, at its brace
abbrev pub elision_fault : Pos → Elision → Option Fault
elision_fault pos (as_type t) = None
elision_fault pos refused = Some (fault Unfit pos)
elision_fault pos unknown = None

-- a key that no field has, or that stands there already
abbrev pub key_fault : (is_field is_before : Bool) → Pos → Option Fault
key_fault false is_before pos = Some (fault Unknown pos)
key_fault true true pos = Some (fault Redeclared pos)
key_fault true false pos = None

module _ (text : List ℕ) (s : Scope) where
  abbrev pub KeysFail : ValueType → Blocks → Elements → Fault → Type 0
  KeysFail t before no_elements f = ⊥
  KeysFail t before (element None e es) f = KeysFail t before es f
  KeysFail t before (element (Some n) e es) f =
      IsFault (key_fault (is_some (named_field s t (spelled text n))) (is_some (innermost before (spelled text n))) n.pos) f ⊎ KeysFail t (insert before (spelled text n) 0) es f

  -- keys are those of structs
  abbrev pub StructKeysFail : ValueType → Elements → Fault → Type 0
  StructKeysFail (Struct k) es f = KeysFail (Struct k) ([] ∷ []) es f
  StructKeysFail t es f = ⊥

  abbrev pub TypedShapeFails : Pos → ValueType → Elements → Fault → Type 0
  TypedShapeFails first t es f = IsFault (shape_fault s.types first t es) f ⊎ StructKeysFail t es f

  -- the form of a literal, where its type is known
  abbrev pub ShapeFails : Pos → Option ValueType → Elements → Fault → Type 0
  ShapeFails first None es f = ⊥
  ShapeFails first (Some t) es f = TypedShapeFails first t es f
