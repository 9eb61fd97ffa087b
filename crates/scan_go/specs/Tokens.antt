-- A whole text, cut into tokens and gaps [Go specification, Source code representation and Tokens].
use Rattle.std.specs.Prelude.{◌≡◌, ℕ, ◌+◌, ◌<◌, ◌≤◌, List, [], ◌∷◌, ◌++◌, length, drop, Result, Ok, Err, nat_eq, if◌then◌else◌}
use Rattle.std.specs.List.{starts_with}
use Rattle.std.specs.Global.{Vec}
use Rattle.scan_go.specs.declared.piece.Piece.{Piece}
use Rattle.scan_go.specs.declared.piece.Piece.TheVariants as piece
use Rattle.scan_go.specs.declared.lexeme.Lexeme.{Lexeme}
use Rattle.scan_go.specs.declared.lexeme.LexemesFault.{LexemesFault}
use Rattle.scan_go.specs.declared.lexeme.LexemesFault.TheVariants as refused
use Rattle.scan_go.specs.declared.fault.FaultKind.{FaultKind}
use Rattle.scan_go.specs.Pieces.{piece_at}

-- The pieces follow one another, from the front of the text to its end or to the first fault.
abbrev pub Cut : List ℕ → List Piece → Type 0
Cut rest [] = rest ≡ []
Cut rest (piece.Gap n ∷ ps) = (0 < length rest) × (piece_at rest ≡ piece.Gap n) × Cut (drop n rest) ps
Cut rest (piece.Token k n ∷ ps) = (0 < length rest) × (piece_at rest ≡ piece.Token k n) × Cut (drop n rest) ps
Cut rest (piece.Fault f n ∷ ps) = (0 < length rest) × (piece_at rest ≡ piece.Fault f n) × (ps ≡ [])

-- what stands in a text: the tokens with their spans, or a fault and the number of bytes before it
abbrev pub Found : Type 0
Found = Result (List Lexeme) (FaultKind × ℕ)

abbrev pub with_front : List Lexeme → Found → Found
with_front front (Ok ls) = Ok (front ++ ls)
with_front front (Err e) = Err e

-- what the pieces hold that begin at a place
abbrev pub found_in : ℕ → List Piece → Found
found_in place [] = Ok []
found_in place (piece.Gap n ∷ ps) = found_in (place + n) ps
found_in place (piece.Token k n ∷ ps) = with_front (record { kind = k; start = place; end = place + n } ∷ []) (found_in (place + n) ps)
found_in place (piece.Fault f n ∷ ps) = Err (f, place + n)

-- the bytes of a byte order mark at the front
abbrev pub mark_len : List ℕ → ℕ
mark_len text = if starts_with nat_eq text (239 ∷ 187 ∷ 191 ∷ []) then 3 else 0

-- The tokens of the text, or its first fault from the left: after the mark only tokens and gaps stand before it.
abbrev pub Lexes : List ℕ → Found → Type 0
Lexes text found = (ps : List Piece) × Cut (drop (mark_len text) text) ps × (found_in (mark_len text) ps ≡ found)

-- the answer is what the text has, unless memory ran out
abbrev pub GivesLexemes : Result (Vec Lexeme) LexemesFault → List ℕ → Type 0
GivesLexemes (Ok v) text = Lexes text (Ok v.items)
GivesLexemes (Err e) text = GivesFault e text
  where
    GivesFault : LexemesFault → List ℕ → Type 0
    GivesFault refused.NoMemory text = Unit {0}
    GivesFault (refused.Fault f n) text = (n < length text) × Lexes text (Err (f, n))

-- spans in order, from a place on to the end of a text of n bytes
abbrev pub InOrder : ℕ → List Lexeme → ℕ → Type 0
InOrder place [] n = place ≤ n
InOrder place (l ∷ ls) n = (place ≤ l.start) × (l.start < l.end) × InOrder l.end ls n
