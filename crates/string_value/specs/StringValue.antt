-- What a string literal in double quotes stands for [Go specification, String literals].
use Rattle.std.specs.Prelude.{ℕ, zero, suc, ◌-◌, List, [], ◌∷◌, length, take, drop, flat_map, encode_utf8}
use Rattle.string_value.specs.declared.piece.Meaning.{Meaning}
use Rattle.string_value.specs.declared.piece.Meaning.TheVariants as meaning
use Rattle.string_value.specs.Pieces.{first_piece}

-- the bytes that a piece stands for; of a character, those of its UTF-8
abbrev pub bytes_of : Meaning → List ℕ
bytes_of meaning.Nothing = []
bytes_of (meaning.Byte b) = b ∷ []
bytes_of (meaning.Character c) = encode_utf8 c

-- what the pieces stand for, one after the other; the first n bytes still belong to the piece before them
unfoldable pub meanings : ℕ → List ℕ → List Meaning
meanings n [] = []
meanings (suc n) (b ∷ rest) = meanings n rest
meanings zero (b ∷ rest) = (first_piece (b ∷ rest)).meaning ∷ meanings ((first_piece (b ∷ rest)).len - 1) rest

-- what stands between the quotes, the first byte and the last
abbrev pub content : List ℕ → List ℕ
content spelling = take (length spelling - 2) (drop 1 spelling)

-- the bytes that the literal stands for, by its spelling with the quotes
abbrev pub string_value : List ℕ → List ℕ
string_value spelling = flat_map bytes_of (meanings 0 (content spelling))
