-- Operators and punctuation [Go specification, Operators and punctuation].
use Rattle.std.specs.Prelude.{ℕ, ◌<◌, ◌≤◌, List, length, find, Option, Some, None, nat_eq}
use Rattle.std.specs.List.{starts_with}
use Rattle.scan_go.specs.declared.spelling.Op.{Op}
use Rattle.scan_go.specs.declared.token.Kind.TheVariants as kind
use Rattle.scan_go.specs.declared.fault.FaultKind.TheVariants as fault
use Rattle.scan_go.specs.declared.piece.Piece.{Piece}
use Rattle.scan_go.specs.declared.piece.Piece.TheVariants as piece
use Rattle.scan_go.specs.Spelling.{op_spelling, op_table}

-- the first operator of the table, which has the longer ones first, that the text begins with
abbrev pub operator_of : List ℕ → Option Op
operator_of rest = find (λ op. starts_with nat_eq rest (op_spelling op)) op_table

abbrev pub operator_piece : Option Op → Piece
operator_piece None = piece.Fault fault.BadChar 0
operator_piece (Some op) = piece.Token (kind.Op op) (length (op_spelling op))

-- an operator that was found has a byte, and lies within n bytes
abbrev pub OperatorFits : ℕ → Option Op → Type 0
OperatorFits n None = Unit {0}
OperatorFits n (Some op) = (0 < length (op_spelling op)) × (length (op_spelling op) ≤ n)
