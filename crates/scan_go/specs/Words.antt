-- Names and keywords [Go specification, Identifiers and Keywords].
use Rattle.std.specs.Prelude.{ℕ, ◌+◌, Bool, List, [], ◌∷◌, take, find, slice_index, Option, Some, None, ◌||◌, if◌then◌else◌}
use Rattle.std.specs.Str.{bytes_eq}
use Rattle.scan_go.specs.declared.spelling.Keyword.{Keyword}
use Rattle.scan_go.specs.declared.token.Kind.{Kind}
use Rattle.scan_go.specs.declared.token.Kind.TheVariants as kind
use Rattle.scan_go.specs.declared.piece.Piece.{Piece}
use Rattle.scan_go.specs.declared.piece.Piece.TheVariants as piece
use Rattle.scan_go.specs.Characters.{char_at, is_continuation, is_letter_or_digit}
use Rattle.scan_go.specs.Spelling.{keyword_spelling, keyword_table}

abbrev pub keyword_of : List ℕ → Option Keyword
keyword_of word = find (λ k. bytes_eq word (keyword_spelling k)) keyword_table

abbrev pub kind_of_word : Option Keyword → Kind
kind_of_word None = kind.Name
kind_of_word (Some k) = kind.Keyword k

-- the first byte goes on with a word: it begins a letter or a digit, or goes on with a character of the word
unfoldable pub goes_on : List ℕ → Bool
goes_on rest = is_continuation (slice_index rest 0) || is_letter_or_digit (char_at rest)

-- how many bytes there are before the first character that is no letter and no digit
unfoldable pub word_len : List ℕ → ℕ
word_len [] = 0
word_len (b ∷ rest) = if goes_on (b ∷ rest) then 1 + word_len rest else 0

-- the longest run of letters and digits
abbrev pub word_piece : List ℕ → Piece
word_piece rest =
    let n = word_len rest in
    piece.Token (kind_of_word (keyword_of (take n rest))) n
