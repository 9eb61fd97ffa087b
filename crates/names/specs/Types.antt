-- Which type a name is, and which an expression.
use Rattle.std.specs.Prelude.{ℕ, List, Bool, Option, Some, None, is_some, option_and_then}
use Rattle.syntax.specs.Expressions.{Ex as TreeEx, name, paren, spelled}
use Rattle.base.specs.declared.ids.TypeId.{TypeId}
use Rattle.base.specs.declared.value_type.ValueType.{ValueType}
use Rattle.base.specs.declared.value_type.ValueType.TheVariants.{Array}
use Rattle.typed.specs.Tables.{Table, number_of}
use Rattle.typed.specs.Formed.{words_at}
use Rattle.type_faults.specs.Given.{allowed}
use Rattle.names.specs.declared.scope.Declared.{Declared}
use Rattle.names.specs.declared.scope.Declared.TheVariants as declared
use Rattle.names.specs.Scope.{Scope, declaration}

-- whether a type has a number, and words
abbrev pub is_known : Table → ValueType → Bool
is_known T t = is_some (option_and_then (words_at T) (number_of T t))

-- the type that a name stands for; one that is refused is none
abbrev pub declared_type : Table → Option Declared → Option ValueType
declared_type T (Some (declared.«Type» t)) = allowed (is_known T t) (Some t)
declared_type T other = None

-- the type of arrays of a length and of elements of a type; one that is refused, or that the table doesn't have, is none
abbrev pub known_array : Table → ℕ → TypeId → Option ValueType
known_array T n e = allowed (is_known T (Array n e)) (Some (Array n e))

abbrev pub array_type : Table → ℕ → ValueType → Option ValueType
array_type T n t = option_and_then (λ e. known_array T n (record { 0 = e })) (number_of T t)

module _ (text : List ℕ) where
  -- the type that an expression is, in parentheses or not
  abbrev pub type_in : Scope → TreeEx → Option ValueType
  type_in s (name n) = declared_type s.types (declaration s (spelled text n))
  type_in s (paren pos e) = type_in s e
  type_in s other = None
