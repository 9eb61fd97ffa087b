-- Characters and their classes [Go specification, Characters, and Letters and digits].
use Rattle.std.specs.Prelude.{ℕ, Bool, true, false, List, chars, slice_index, nat_le, nat_lt, ◌==◌, ◌||◌, ◌&&◌, if◌then◌else◌}
use Rattle.unicode.specs.declared.properties.GeneralCategory.{GeneralCategory}
use Rattle.unicode.specs.declared.properties.GeneralCategory.TheVariants as category
use Rattle.unicode.specs.GeneralCategory.{general_category}

-- the character that a text begins with
abbrev pub char_at : List ℕ → ℕ
char_at rest = slice_index (chars rest) 0

-- a byte that begins no character, but is a later one of a character
abbrev pub is_continuation : ℕ → Bool
is_continuation b = nat_le 128 b && nat_lt b 192

-- a number that a character may have: at most 0x10FFFF, and no surrogate
abbrev pub is_code_point : ℕ → Bool
is_code_point c = nat_lt c 0xD800 || (nat_lt 0xDFFF c && nat_lt c 0x11_0000)

abbrev pub is_letter_category : GeneralCategory → Bool
is_letter_category category.UppercaseLetter = true
is_letter_category category.LowercaseLetter = true
is_letter_category category.TitlecaseLetter = true
is_letter_category category.ModifierLetter = true
is_letter_category category.OtherLetter = true
is_letter_category _ = false

abbrev pub is_digit_category : GeneralCategory → Bool
is_digit_category category.DecimalNumber = true
is_digit_category _ = false

-- the underscore is a letter
unfoldable pub is_letter : ℕ → Bool
is_letter c = is_code_point c && ((c == 95) || is_letter_category (general_category c))

-- a digit within a name
unfoldable pub is_name_digit : ℕ → Bool
is_name_digit c = is_code_point c && is_digit_category (general_category c)

-- what a name goes on with
abbrev pub is_letter_or_digit : ℕ → Bool
is_letter_or_digit c = is_letter c || is_name_digit c

-- a space, a tab, a carriage return or a newline
abbrev pub is_space : ℕ → Bool
is_space b = (b == 32) || ((b == 9) || ((b == 13) || (b == 10)))

-- what begins a rune or a raw string
abbrev pub begins_other_literal : ℕ → Bool
begins_other_literal b = (b == 39) || (b == 96)

-- no newline
abbrev pub is_within_line : ℕ → Bool
is_within_line b = if b == 10 then false else true
