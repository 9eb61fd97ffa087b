-- Strings in double quotes [Go specification, String literals and Rune literals].
use Rattle.std.specs.Prelude.{ℕ, ◌+◌, ◌-◌, Bool, false, not, List, [], ◌∷◌, length, take, drop, slice_index, nat_lt, nat_le, ◌==◌, ◌||◌, ◌&&◌, if◌then◌else◌, Option, Some, None}
use Rattle.std.specs.List.{list_all}
use Rattle.std.specs.Char.{is_digit}
use Rattle.scan_go.specs.declared.token.Kind.TheVariants as kind
use Rattle.scan_go.specs.declared.fault.FaultKind.{FaultKind}
use Rattle.scan_go.specs.declared.fault.FaultKind.TheVariants as fault
use Rattle.scan_go.specs.declared.piece.Piece.{Piece}
use Rattle.scan_go.specs.declared.piece.Piece.TheVariants as piece
use Rattle.scan_go.specs.declared.number_base.Base.{Base}
use Rattle.scan_go.specs.declared.number_base.Base.TheVariants as number_base
use Rattle.scan_go.specs.Characters.{is_code_point, is_within_line}
use Rattle.scan_go.specs.Comments.{later}
use Rattle.scan_go.specs.Numbers.{radix, value}

-- a quote that no backslash hides
abbrev pub closes : Bool → ℕ → Bool
closes hidden b = not hidden && (b == 34)

-- a backslash that hides the byte after it, since none hides it
abbrev pub hides : Bool → ℕ → Bool
hides hidden b = not hidden && (b == 92)

-- How many bytes there are up to and including the closing quote, if it stands on the same line. A backslash hides the
-- character after it, but no newline.
unfoldable pub closing : Bool → List ℕ → Option ℕ
closing hidden [] = None
closing hidden (b ∷ rest) = if is_within_line b then (if closes hidden b then Some 1 else later 1 (closing (hides hidden b) rest)) else None

-- the letters that stand for a byte after a backslash, the backslash and the quote
abbrev pub is_simple_escape : ℕ → Bool
is_simple_escape c = (c == 97) || ((c == 98) || ((c == 102) || ((c == 110) || ((c == 114) || ((c == 116) || ((c == 118) || ((c == 92) || (c == 34))))))))

-- n digits stand at the front
abbrev pub begins_digits : Base → ℕ → List ℕ → Bool
begins_digits b n rest = nat_le n (length rest) && list_all (λ c. is_digit c (radix b)) (take n rest)

-- n hexadecimal digits, which give a code point
abbrev pub begins_code_point : ℕ → List ℕ → Bool
begins_code_point n rest = begins_digits number_base.Hexadecimal n rest && is_code_point (value number_base.Hexadecimal (take n rest))

-- three octal digits, which give a byte
abbrev pub begins_byte : List ℕ → Bool
begins_byte rest = begins_digits number_base.Octal 3 rest && nat_lt (value number_base.Octal (take 3 rest)) 256

-- an escape, without its backslash
unfoldable pub begins_escape : List ℕ → Bool
begins_escape rest =
    let c = slice_index rest 0 in
    if c == 120 then begins_digits number_base.Hexadecimal 2 (drop 1 rest)
    else (if c == 117 then begins_code_point 4 (drop 1 rest)
    else (if c == 85 then begins_code_point 8 (drop 1 rest)
    else (if is_digit c 8 then begins_byte rest
    else is_simple_escape c)))

-- a fault at the first byte: the character 0, or a backslash without an escape, where no backslash hides it
unfoldable pub fault_at : Bool → List ℕ → Option FaultKind
fault_at hidden rest =
    if hidden then None
    else (if slice_index rest 0 == 0 then Some fault.Nul
    else (if (slice_index rest 0 == 92) && not (begins_escape (drop 1 rest)) then Some fault.BadEscape
    else None))

abbrev pub farther : Option (FaultKind × ℕ) → Option (FaultKind × ℕ)
farther None = None
farther (Some f) = Some (f.0, 1 + f.1)

abbrev pub here_or : Option FaultKind → Option (FaultKind × ℕ) → Option (FaultKind × ℕ)
here_or (Some kind) others = Some (kind, 0)
here_or None others = farther others

-- the first fault between the quotes, and how many bytes stand before it
unfoldable pub fault_within : Bool → List ℕ → Option (FaultKind × ℕ)
fault_within hidden [] = None
fault_within hidden (b ∷ rest) = here_or (fault_at hidden (b ∷ rest)) (fault_within (hides hidden b) rest)

-- a string of n bytes, or the first fault in it, counted from its opening quote on
abbrev pub string_or_fault : ℕ → Option (FaultKind × ℕ) → Piece
string_or_fault n None = piece.Token kind.String n
string_or_fault n (Some f) = piece.Fault f.0 (1 + f.1)

abbrev pub closed_string : Option ℕ → List ℕ → Piece
closed_string None after = piece.Fault fault.OpenString 0
closed_string (Some n) after = string_or_fault (1 + n) (fault_within false (take (n - 1) after))

-- from the opening quote on
abbrev pub string_piece : List ℕ → Piece
string_piece rest = closed_string (closing false (drop 1 rest)) (drop 1 rest)
