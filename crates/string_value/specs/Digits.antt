-- Digits of escapes [Go specification, Rune literals].
use Rattle.std.specs.Prelude.{ℕ, ◌+◌, ◌*◌, Bool, List, length, take, nat_lt, nat_le, ◌||◌, ◌&&◌, if◌then◌else◌, fold, Option, Some, None, option_and_then}
use Rattle.std.specs.List.{list_all}
use Rattle.std.specs.Char.{digit_value, is_digit}
use Rattle.string_value.specs.declared.number_base.Base.{Base}
use Rattle.string_value.specs.declared.number_base.Base.TheVariants as number_base

abbrev pub radix : Base → ℕ
radix number_base.Octal = 8
radix number_base.Hexadecimal = 16

-- the number that digits give, the first one with the greatest weight
abbrev pub add_digit : Base → ℕ → ℕ → ℕ
add_digit b v c = radix b * v + digit_value c

abbrev pub value : Base → List ℕ → ℕ
value b digits = fold (add_digit b) 0 digits

-- n digits stand at the front
abbrev pub begins_digits : Base → ℕ → List ℕ → Bool
begins_digits b n rest = nat_le n (length rest) && list_all (λ c. is_digit c (radix b)) (take n rest)

-- the number that n digits at the front give
abbrev pub number : Base → ℕ → List ℕ → Option ℕ
number b n rest = if begins_digits b n rest then Some (value b (take n rest)) else None

-- the number, if a byte may have it
abbrev pub if_byte : ℕ → Option ℕ
if_byte c = if nat_lt c 256 then Some c else None

-- the byte that n digits at the front give
abbrev pub byte : Base → ℕ → List ℕ → Option ℕ
byte b n rest = option_and_then if_byte (number b n rest)

-- a number that a character may have: at most 0x10FFFF, and no surrogate
abbrev pub is_code_point : ℕ → Bool
is_code_point c = nat_lt c 0xD800 || (nat_lt 0xDFFF c && nat_lt c 0x11_0000)

-- the number, if a character may have it
abbrev pub if_character : ℕ → Option ℕ
if_character c = if is_code_point c then Some c else None

-- the character that n hexadecimal digits at the front give
abbrev pub character : ℕ → List ℕ → Option ℕ
character n rest = option_and_then if_character (number number_base.Hexadecimal n rest)
