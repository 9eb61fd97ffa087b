-- Escapes, and bytes that stand for themselves [Go specification, String literals and Rune literals].
use Rattle.std.specs.Prelude.{ℕ, List, drop, slice_index, ◌==◌, ◌||◌, if◌then◌else◌, Option, Some, None}
use Rattle.std.specs.Char.{is_digit}
use Rattle.string_value.specs.declared.number_base.Base.TheVariants as number_base
use Rattle.string_value.specs.declared.piece.Meaning.TheVariants as meaning
use Rattle.string_value.specs.declared.piece.Piece.{Piece}
use Rattle.string_value.specs.Digits.{byte, character}

-- the byte that a letter stands for after a backslash: that of \a, \b, \f, \n, \r, \t, \v; a backslash and a quote stand
-- for themselves
unfoldable pub simple_escape : ℕ → Option ℕ
simple_escape c =
    if c == 97 then Some 7
    else (if c == 98 then Some 8
    else (if c == 102 then Some 12
    else (if c == 110 then Some 10
    else (if c == 114 then Some 13
    else (if c == 116 then Some 9
    else (if c == 118 then Some 11
    else (if (c == 92) || (c == 34) then Some c
    else None)))))))

-- a backslash that begins no escape stands for nothing
abbrev pub bare_backslash : Piece
bare_backslash = record { meaning = meaning.Nothing; len = 1 }

-- a piece of n bytes that stands for a byte
abbrev pub byte_piece : Option ℕ → ℕ → Piece
byte_piece (Some b) n = record { meaning = meaning.Byte b; len = n }
byte_piece None n = bare_backslash

-- a piece of n bytes that stands for a character
abbrev pub character_piece : Option ℕ → ℕ → Piece
character_piece (Some c) n = record { meaning = meaning.Character c; len = n }
character_piece None n = bare_backslash

-- An escape, without its backslash: \x with two hexadecimal digits, \u with four, \U with eight, three octal
-- digits, or a letter. Those of two and three digits stand for a byte, \u and \U for a character.
unfoldable pub escape : List ℕ → Piece
escape rest =
    let c = slice_index rest 0 in
    if c == 120 then byte_piece (byte number_base.Hexadecimal 2 (drop 1 rest)) 4
    else (if c == 117 then character_piece (character 4 (drop 1 rest)) 6
    else (if c == 85 then character_piece (character 8 (drop 1 rest)) 10
    else (if is_digit c 8 then byte_piece (byte number_base.Octal 3 rest) 4
    else byte_piece (simple_escape c) 2)))

-- the piece at the front: an escape, or a byte that stands for itself
abbrev pub first_piece : List ℕ → Piece
first_piece rest = if slice_index rest 0 == 92 then escape (drop 1 rest) else byte_piece (Some (slice_index rest 0)) 1
