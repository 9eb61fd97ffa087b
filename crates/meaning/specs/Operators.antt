-- What operators and slicings give, or the fault [Go specification, Arithmetic operators, Comparison operators, Slice expressions, Making
-- slices, maps and channels]. Of values of other types than theirs they give any value.
use Rattle.std.specs.Prelude.{zero, ℕ, ◌+◌, ◌-◌, ◌^◌, ℤ, pos, negsuc, Bool, not, ◌&&◌, List, [], Result, Ok, Err, int_lt, int_le, int_rem, min, nat_le, if◌then◌else◌}
use Rattle.std.specs.Ordering.{int_eq}
use Rattle.std.specs.Int.{w64, int_wrapping_add, int_wrapping_sub, int_wrapping_mul, int_wrapping_div, int_wrapping_neg, int_bit_and, int_bit_or, int_bit_xor, int_bit_not, int_shl, int_shr}
use Rattle.typed_syntax.specs.declared.operators.BinOp.{BinOp}
use Rattle.typed_syntax.specs.declared.operators.BinOp.TheVariants.{Add, Sub, Mul, Div, Rem, And, Or, Xor, AndNot, ShiftLeft, ShiftRight, Equal, NotEqual, Less, LessEqual, Greater, GreaterEqual}
use Rattle.typed_syntax.specs.declared.operators.UnOp.{UnOp}
use Rattle.typed_syntax.specs.declared.operators.UnOp.TheVariants.{Plus, Negate, Complement, Not}
use Rattle.typed_syntax.specs.Value.{Value, int, bool, nil_slice, slice_in, same_truth, same}
use Rattle.meaning.specs.Trace.{Fault, divide_by_zero, shift_count, slice_high, slice_low, make_length, make_capacity}

-- a quotient or a remainder, truncated towards zero; the least number divided by -1 is itself
abbrev pub divide : (ℤ → ℤ → ℤ) → ℤ → ℤ → Result Value Fault
divide f a (pos zero) = Err divide_by_zero
divide f a b = Ok (int (f a b))

-- a shift by a count that is not negative; 64 places or more are as 64
abbrev pub shift : (ℤ → ℕ → ℤ) → ℤ → ℤ → Result Value Fault
shift f a (negsuc n) = Err (shift_count (negsuc n))
shift f a (pos n) = Ok (int (f a (min n 64)))

-- two whole numbers; sums, differences and products are taken modulo 2 ^ 64
abbrev pub of_ints : BinOp → ℤ → ℤ → Result Value Fault
of_ints Add a b = Ok (int (int_wrapping_add w64 a b))
of_ints Sub a b = Ok (int (int_wrapping_sub w64 a b))
of_ints Mul a b = Ok (int (int_wrapping_mul w64 a b))
of_ints Div a b = divide (int_wrapping_div w64) a b
of_ints Rem a b = divide int_rem a b
of_ints And a b = Ok (int (int_bit_and w64 a b))
of_ints Or a b = Ok (int (int_bit_or w64 a b))
of_ints Xor a b = Ok (int (int_bit_xor w64 a b))
of_ints AndNot a b = Ok (int (int_bit_and w64 a (int_bit_not w64 b)))
of_ints ShiftLeft a b = shift (int_shl w64) a b
of_ints ShiftRight a b = shift int_shr a b
of_ints Equal a b = Ok (bool (int_eq a b))
of_ints NotEqual a b = Ok (bool (not (int_eq a b)))
of_ints Less a b = Ok (bool (int_lt a b))
of_ints LessEqual a b = Ok (bool (int_le a b))
of_ints Greater a b = Ok (bool (int_lt b a))
of_ints GreaterEqual a b = Ok (bool (int_le b a))

-- two truth values
abbrev pub of_bools : BinOp → Bool → Bool → Result Value Fault
of_bools Equal a b = Ok (bool (same_truth a b))
of_bools NotEqual a b = Ok (bool (not (same_truth a b)))
of_bools op a b = Ok (bool a)

-- two values of a type with parts, two pointers, or a slice and `nil`
abbrev pub of_composites : BinOp → Value → Value → Result Value Fault
of_composites Equal v w = Ok (bool (same v w))
of_composites NotEqual v w = Ok (bool (not (same v w)))
of_composites op v w = Ok v

abbrev pub binary_of : BinOp → Value → Value → Result Value Fault
binary_of op (int a) (int b) = of_ints op a b
binary_of op (bool a) (bool b) = of_bools op a b
binary_of op v w = of_composites op v w

abbrev pub unary_int : UnOp → ℤ → ℤ
unary_int Plus a = a
unary_int Negate a = int_wrapping_neg w64 a
unary_int Complement a = int_bit_not w64 a
unary_int Not a = a

abbrev pub unary_bool : UnOp → Bool → Bool
unary_bool Not b = not b
unary_bool op b = b

abbrev pub unary_of : UnOp → Value → Value
unary_of op (int a) = int (unary_int op a)
unary_of op (bool b) = bool (unary_bool op b)
unary_of op v = v

-- ---- slices

-- the variable, the path, the first element, the length and the capacity of a slice; those of `nil`, and of what is no slice, are 0
abbrev pub slice_variable : Value → ℕ
slice_variable (slice_in x path first count room) = x
slice_variable v = 0

abbrev pub slice_path : Value → List ℕ
slice_path (slice_in x path first count room) = path
slice_path v = []

abbrev pub slice_first : Value → ℕ
slice_first (slice_in x path first count room) = first
slice_first v = 0

abbrev pub slice_count : Value → ℕ
slice_count (slice_in x path first count room) = count
slice_count v = 0

abbrev pub slice_room : Value → ℕ
slice_room (slice_in x path first count room) = room
slice_room v = 0

-- the bounds of a slicing
pub record Bounds : Type 0 where
  pub low : ℕ
  pub high : ℕ

-- a low bound, where the high one is good
abbrev pub low_below : ℤ → (high : ℕ) → Result Bounds Fault
low_below (pos l) h = if nat_le l h then Ok (record { low = l; high = h }) else Err (slice_low (pos l) (pos h))
low_below (negsuc l) h = Err (slice_low (negsuc l) (pos h))

-- the bounds of what has room for so many; the high one is tested first
abbrev pub bounds_within : (low high : ℤ) → (room : ℕ) → Result Bounds Fault
bounds_within low (pos h) room = if nat_le h room then low_below low h else Err (slice_high (pos h) (pos room))
bounds_within low (negsuc h) room = Err (slice_high (negsuc h) (pos room))

-- from one bound to the other, of the elements from one on, for so many of which there is room
abbrev pub cut_from : (variable : ℕ) (path : List ℕ) (first room : ℕ) → Result Bounds Fault → Result Value Fault
cut_from x path first room (Ok b) = Ok (slice_in x path (first + b.low) (b.high - b.low) (room - b.low))
cut_from x path first room (Err f) = Err f

abbrev pub nil_within : Result Bounds Fault → Result Value Fault
nil_within (Ok b) = Ok nil_slice
nil_within (Err f) = Err f

-- a part of a slice, and of an array of this length at a path of a variable; that of `nil` is `nil`
abbrev pub slice_part : Value → (low high : ℤ) → Result Value Fault
slice_part (slice_in x path first count room) low high = cut_from x path first room (bounds_within low high room)
slice_part v low high = nil_within (bounds_within low high 0)

abbrev pub array_part : (variable : ℕ) (path : List ℕ) (length : ℕ) → (low high : ℤ) → Result Value Fault
array_part x path length low high = cut_from x path 0 length (bounds_within low high length)

-- the length and the capacity of a slice that is made
pub record Sizes : Type 0 where
  pub count : ℕ
  pub room : ℕ

-- the greatest of both
abbrev pub most_elements : ℕ
most_elements = 2 ^ 40

-- a capacity, where the length is good
abbrev pub room_for : (count : ℕ) → ℤ → Result Sizes Fault
room_for n (pos c) = if nat_le c most_elements && nat_le n c then Ok (record { count = n; room = c }) else Err (make_capacity (pos c) (pos n))
room_for n (negsuc c) = Err (make_capacity (negsuc c) (pos n))

-- the length is tested first
abbrev pub sizes_of : (count room : ℤ) → Result Sizes Fault
sizes_of (pos n) c = if nat_le n most_elements then room_for n c else Err (make_length (pos n))
sizes_of (negsuc n) c = Err (make_length (negsuc n))
