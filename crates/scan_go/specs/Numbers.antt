-- Integer literals [Go specification, Integer literals].
use Rattle.std.specs.Prelude.{ℕ, ◌+◌, ◌*◌, ◌^◌, Bool, true, false, List, [], ◌∷◌, length, take, drop, nat_lt, ◌==◌, ◌||◌, ◌&&◌, if◌then◌else◌, slice_index, fold, Option, Some, None}
use Rattle.std.specs.List.{prefix_len}
use Rattle.std.specs.Char.{digit_value, is_digit, is_ascii_digit}
use Rattle.scan_go.specs.declared.token.Kind.TheVariants as kind
use Rattle.scan_go.specs.declared.fault.FaultKind.TheVariants as fault
use Rattle.scan_go.specs.declared.piece.Piece.{Piece}
use Rattle.scan_go.specs.declared.piece.Piece.TheVariants as piece
use Rattle.scan_go.specs.declared.number_base.Base.{Base}
use Rattle.scan_go.specs.declared.number_base.Base.TheVariants as number_base

abbrev pub radix : Base → ℕ
radix number_base.Binary = 2
radix number_base.Octal = 8
radix number_base.Decimal = 10
radix number_base.Hexadecimal = 16

-- a literal is written with decimal digits, whatever its base, or with hexadecimal ones
abbrev pub writing_radix : Base → ℕ
writing_radix number_base.Hexadecimal = 16
writing_radix _ = 10

-- what a literal goes on with: a digit, or the mark `_` between digits
abbrev pub is_digit_or_mark : Base → ℕ → Bool
is_digit_or_mark b c = is_digit c (writing_radix b) || (c == 95)

-- the value of the digits, without the marks between them
abbrev pub add_digit : Base → ℕ → ℕ → ℕ
add_digit b v c = if is_digit c (radix b) then radix b * v + digit_value c else v

abbrev pub value : Base → List ℕ → ℕ
value b run = fold (add_digit b) 0 run

abbrev pub begins_digit : Base → List ℕ → Bool
begins_digit b [] = false
begins_digit b (c ∷ run) = is_digit c (radix b)

-- digits of the base, and marks that such a digit follows
abbrev pub digits_fit : Base → List ℕ → Bool
digits_fit b [] = true
digits_fit b (c ∷ run) = (is_digit c (radix b) || ((c == 95) && begins_digit b run)) && digits_fit b run

-- a point, an exponent's letter or the imaginary unit, which make a number of another form
abbrev pub begins_other_form : ℕ → Bool
begins_other_form b = (b == 46) || ((b == 101) || ((b == 69) || ((b == 112) || ((b == 80) || (b == 105)))))

-- a number after a prefix of `front` bytes: the run of digits and marks, and the byte after it, or 0 at the end
unfoldable pub literal : Base → ℕ → List ℕ → ℕ → Piece
literal b front run next =
    if begins_other_form next then piece.Fault fault.OutOfProfile 0
    else (if nat_lt 0 (length run) && digits_fit b run
    then (if nat_lt (value b run) (2 ^ 127) then piece.Token (kind.Number (value b run)) (front + length run) else piece.Fault fault.NumberTooBig 0)
    else piece.Fault fault.BadNumber 0)

-- the base that the second byte of a prefix names
abbrev pub base_named : ℕ → Option Base
base_named c =
    if (c == 120) || (c == 88) then Some number_base.Hexadecimal
    else (if (c == 98) || (c == 66) then Some number_base.Binary
    else (if (c == 111) || (c == 79) then Some number_base.Octal
    else None))

-- the base of a prefix 0x, 0b or 0o
abbrev pub prefix_base : List ℕ → Option Base
prefix_base rest = if slice_index rest 0 == 48 then base_named (slice_index rest 1) else None

-- a number without such a prefix is octal by a leading 0
abbrev pub plain_base : List ℕ → Base
plain_base run = if (slice_index run 0 == 48) && nat_lt 1 (length run) then number_base.Octal else number_base.Decimal

abbrev pub plain_number : List ℕ → Piece
plain_number rest =
    let n = prefix_len (is_digit_or_mark number_base.Decimal) rest in
    literal (plain_base (take n rest)) 0 (take n rest) (slice_index rest n)

-- after a prefix of two bytes
abbrev pub prefixed_number : Base → List ℕ → Piece
prefixed_number b rest =
    let n = prefix_len (is_digit_or_mark b) rest in
    literal b 2 (take n rest) (slice_index rest n)

-- the longest run of digits and marks, after a prefix or without one
abbrev pub number_by : Option Base → List ℕ → Piece
number_by None rest = plain_number rest
number_by (Some b) rest = prefixed_number b (drop 2 rest)

abbrev pub number_piece : List ℕ → Piece
number_piece rest = number_by (prefix_base rest) rest

-- a point before a digit, which begins a floating-point literal
abbrev pub begins_fraction : List ℕ → Bool
begins_fraction [] = false
begins_fraction (b ∷ []) = false
begins_fraction (b ∷ c ∷ rest) = (b == 46) && is_ascii_digit c
