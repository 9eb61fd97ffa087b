-- What stands at the front of a text: the longest token, a gap, or a fault [Go specification, Tokens].
use Rattle.std.specs.Prelude.{ℕ, ◌<◌, ◌≤◌, List, nat_eq, ◌==◌, ◌||◌, if◌then◌else◌, slice_index, codes}
use Rattle.std.specs.List.{starts_with}
use Rattle.std.specs.Char.{is_ascii_digit}
use Rattle.scan_go.specs.declared.fault.FaultKind.TheVariants as fault
use Rattle.scan_go.specs.declared.piece.Piece.{Piece}
use Rattle.scan_go.specs.declared.piece.Piece.TheVariants as piece
use Rattle.scan_go.specs.Characters.{char_at, is_letter, is_space, begins_other_literal}
use Rattle.scan_go.specs.Comments.{line_comment, general_comment}
use Rattle.scan_go.specs.Words.{word_piece}
use Rattle.scan_go.specs.Numbers.{number_piece, begins_fraction}
use Rattle.scan_go.specs.Strings.{string_piece}
use Rattle.scan_go.specs.Operators.{operator_of, operator_piece}

unfoldable pub piece_at : List ℕ → Piece
piece_at rest =
    let first = slice_index rest 0 in
    if first == 0 then piece.Fault fault.Nul 0
    else (if is_space first then piece.Gap 1
    else (if starts_with nat_eq rest (codes "//") then line_comment rest
    else (if starts_with nat_eq rest (codes "/*") then general_comment rest
    else (if is_letter (char_at rest) then word_piece rest
    else (if is_ascii_digit first then number_piece rest
    else (if first == 34 then string_piece rest
    else (if begins_other_literal first || begins_fraction rest then piece.Fault fault.OutOfProfile 0
    else operator_piece (operator_of rest))))))))

-- the piece has a byte at least, and lies within n bytes
abbrev pub PieceFits : ℕ → Piece → Type 0
PieceFits n (piece.Gap m) = (0 < m) × (m ≤ n)
PieceFits n (piece.Token k m) = (0 < m) × (m ≤ n)
PieceFits n (piece.Fault f m) = m < n
