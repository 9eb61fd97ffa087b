-- Comments [Go specification, Comments].
use Rattle.std.specs.Prelude.{ℕ, ◌+◌, ◌==◌, List, [], ◌∷◌, take, drop, Option, Some, None, nat_eq, position, codes, if◌then◌else◌}
use Rattle.std.specs.List.{starts_with, prefix_len}
use Rattle.scan_go.specs.declared.fault.FaultKind.TheVariants as fault
use Rattle.scan_go.specs.declared.piece.Piece.{Piece}
use Rattle.scan_go.specs.declared.piece.Piece.TheVariants as piece
use Rattle.scan_go.specs.Characters.{is_within_line}

abbrev pub later : ℕ → Option ℕ → Option ℕ
later k None = None
later k (Some n) = Some (k + n)

-- how many bytes up to the end of the first */
unfoldable pub comment_end : List ℕ → Option ℕ
comment_end [] = None
comment_end (b ∷ rest) = if starts_with nat_eq (b ∷ rest) (codes "*/") then Some 2 else later 1 (comment_end rest)

-- a gap of n bytes, or the character 0 in it
abbrev pub gap_or_nul : ℕ → Option ℕ → Piece
gap_or_nul n None = piece.Gap n
gap_or_nul n (Some i) = piece.Fault fault.Nul i

abbrev pub gap_of : ℕ → List ℕ → Piece
gap_of n rest = gap_or_nul n (position (λ b. b == 0) (take n rest))

-- up to the newline, or to the end of the text
abbrev pub line_comment : List ℕ → Piece
line_comment rest = gap_of (prefix_len is_within_line rest) rest

abbrev pub closed_at : Option ℕ → List ℕ → Piece
closed_at None rest = piece.Fault fault.OpenComment 0
closed_at (Some n) rest = gap_of (2 + n) rest

-- up to the first */ after the opening /*
abbrev pub general_comment : List ℕ → Piece
general_comment rest = closed_at (comment_end (drop 2 rest)) rest
