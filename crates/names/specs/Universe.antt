-- The names that the language declares before every program (Go specification, "Predeclared identifiers"). A program may declare each of
-- them anew, in any block.
use Rattle.std.specs.Prelude.{ℕ, Bool, true, false, List, [], ◌∷◌, codes, Option, Some, None, if◌then◌else◌}
use Rattle.std.specs.List.{list_any}
use Rattle.std.specs.Str.{bytes_eq}
use Rattle.base.specs.declared.value_type.ValueType.TheVariants as value_type
use Rattle.names.specs.declared.scope.Declared.{Declared}
use Rattle.names.specs.declared.scope.Declared.TheVariants.{«Type», Truth, Nil, Print, Panic, Measure, LeftOutType, LeftOutValue}
use Rattle.names.specs.declared.scope.Measure.TheVariants.{Length, Capacity}

-- the predeclared types of Go 1.22
abbrev pub type_names : List (List ℕ)
type_names =
    codes "any" ∷ codes "bool" ∷ codes "byte" ∷ codes "comparable" ∷ codes "complex64" ∷ codes "complex128" ∷ codes "error" ∷ codes "float32" ∷ codes "float64"
    ∷ codes "int" ∷ codes "int8" ∷ codes "int16" ∷ codes "int32" ∷ codes "int64" ∷ codes "rune" ∷ codes "string"
    ∷ codes "uint" ∷ codes "uint8" ∷ codes "uint16" ∷ codes "uint32" ∷ codes "uint64" ∷ codes "uintptr" ∷ []

-- its predeclared constants and functions
abbrev pub value_names : List (List ℕ)
value_names =
    codes "true" ∷ codes "false" ∷ codes "iota" ∷ codes "nil"
    ∷ codes "append" ∷ codes "cap" ∷ codes "clear" ∷ codes "close" ∷ codes "complex" ∷ codes "copy" ∷ codes "delete" ∷ codes "imag" ∷ codes "len" ∷ codes "make"
    ∷ codes "max" ∷ codes "min" ∷ codes "new" ∷ codes "panic" ∷ codes "print" ∷ codes "println" ∷ codes "real" ∷ codes "recover" ∷ []

unfoldable pub is_type_name : List ℕ → Bool
is_type_name name = list_any (λ word. bytes_eq name word) type_names

unfoldable pub is_value_name : List ℕ → Bool
is_value_name name = list_any (λ word. bytes_eq name word) value_names

abbrev pub is_blank : List ℕ → Bool
is_blank name = bytes_eq name (codes "_")

abbrev pub is_main : List ℕ → Bool
is_main name = bytes_eq name (codes "main")

-- the predeclared names that are left out of the profile
abbrev pub left_out : List ℕ → Option Declared
left_out name = if is_type_name name then Some LeftOutType else (if is_value_name name then Some LeftOutValue else None)

-- the predeclared functions
abbrev pub predeclared_function : List ℕ → Option Declared
predeclared_function name =
    if bytes_eq name (codes "println") then Some (Print true)
    else (if bytes_eq name (codes "print") then Some (Print false)
    else (if bytes_eq name (codes "panic") then Some Panic
    else (if bytes_eq name (codes "len") then Some (Measure Length) else (if bytes_eq name (codes "cap") then Some (Measure Capacity) else left_out name))))

-- what a name stands for where the program doesn't declare it
unfoldable pub predeclared : List ℕ → Option Declared
predeclared name =
    if bytes_eq name (codes "int") then Some («Type» value_type.Int)
    else (if bytes_eq name (codes "bool") then Some («Type» value_type.Bool)
    else (if bytes_eq name (codes "true") then Some (Truth true)
    else (if bytes_eq name (codes "false") then Some (Truth false) else (if bytes_eq name (codes "nil") then Some Nil else predeclared_function name))))
