-- Array types (Go specification, "Array types"): their lengths, which rules fail in them, and where each is reported.
use Rattle.std.specs.Prelude.{ℕ, ℤ, ◌*◌, ◌==◌, pos, negsuc, nat_lt, Option, Some, None, option_and_then, is_some, if◌then◌else◌}
use Rattle.std.specs.Option.{option_map, unwrap_or}
use Rattle.base.specs.declared.pos.Pos.{Pos}
use Rattle.base.specs.declared.value_type.ValueType.{ValueType}
use Rattle.typed.specs.Tables.{Table, number_of}
use Rattle.typed.specs.Formed.{words_at}
use Rattle.type_faults.specs.declared.fault.Fault.{Fault}
use Rattle.type_faults.specs.declared.fault.FaultKind.{FaultKind}
use Rattle.type_faults.specs.declared.fault.FaultKind.TheVariants.{ConstIndex, Unfit, ZeroSize, TooLarge, OutOfProfile}
use Rattle.type_faults.specs.Faults.{fault}
use Rattle.constants.specs.declared.constant.Constant.{Constant}
use Rattle.constants.specs.declared.constant.Constant.TheVariants.{Number, Truth}
use Rattle.constants.specs.Constants.{is_int}
use Rattle.operators.specs.Operands.{Operand, constant}
use Rattle.names.specs.Types.{array_type}

-- a length is a constant that an int holds, and isn't negative
abbrev pub number_length : ℤ → Option ℕ
number_length (pos n) = if is_int (pos n) then Some n else None
number_length (negsuc n) = None

abbrev pub constant_length : Constant → Option ℕ
constant_length (Number z) = number_length z
constant_length (Truth b) = None

abbrev pub length_of : Operand → Option ℕ
length_of (constant f) = constant_length f.value
length_of x = None

abbrev pub number_length_fault : Pos → Option ℕ → Option Fault
number_length_fault at n = if is_some n then None else Some (fault ConstIndex at)

abbrev pub constant_length_fault : Pos → Constant → Option Fault
constant_length_fault at (Number z) = number_length_fault at (number_length z)
constant_length_fault at (Truth b) = Some (fault Unfit at)

-- at the first byte of the length
abbrev pub length_fault : Pos → Option Operand → Option Fault
length_fault at None = None
length_fault at (Some (constant f)) = constant_length_fault at f.value
length_fault at (Some x) = Some (fault Unfit at)

-- the words of elements of a type
abbrev pub element_words : Table → ValueType → ℕ
element_words T t = unwrap_or (option_and_then (words_at T) (number_of T t)) 0

-- an array has a word at least and 65,535 at most; one that is no type of the program is left out
abbrev pub size_kind : Table → ℕ → ValueType → Option FaultKind
size_kind T n t =
    if n * element_words T t == 0 then Some ZeroSize
    else (if nat_lt 65535 (n * element_words T t) then Some TooLarge else (if is_some (array_type T n t) then None else Some OutOfProfile))

abbrev pub size_fault : Table → Pos → ℕ → ValueType → Option Fault
size_fault T bracket n t = option_map (λ kind. fault kind bracket) (size_kind T n t)

-- at its bracket, where the length and the type of the elements are known
abbrev pub array_fault : Table → Pos → Option ℕ → Option ValueType → Option Fault
array_fault T bracket (Some n) (Some t) = size_fault T bracket n t
array_fault T bracket n t = None

-- the type of arrays, where both are known
abbrev pub array_with : Table → Option ℕ → Option ValueType → Option ValueType
array_with T n t = option_and_then (λ m. option_and_then (array_type T m) t) n
