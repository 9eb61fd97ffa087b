-- Positions, line ends, and the semicolons that are inserted at them [Go specification, Semicolons].
use Rattle.std.specs.Prelude.{ℕ, ◌+◌, ◌-◌, ◌≤◌, Bool, true, false, List, [], ◌∷◌, ◌++◌, length, take, drop, fold, nat_lt, ◌==◌, ◌&&◌, if◌then◌else◌}
use Rattle.std.specs.List.{prefix_len}
use Rattle.base.specs.declared.pos.Pos.{Pos}
use Rattle.scan_go.specs.declared.spelling.Keyword.TheVariants as keyword
use Rattle.scan_go.specs.declared.spelling.Op.TheVariants as op
use Rattle.scan_go.specs.declared.token.Kind.{Kind}
use Rattle.scan_go.specs.declared.token.Kind.TheVariants as kind
use Rattle.scan_go.specs.declared.lexeme.Lexeme.{Lexeme}
use Rattle.scan_go.specs.declared.token.Token.{Token}
use Rattle.scan_go.specs.Characters.{is_within_line}

abbrev pub text_start : Pos
text_start = record { offset = 0; line = 1; col = 1 }

-- one byte further on
abbrev pub pos_step : Pos → ℕ → Pos
pos_step p b = if b == 10 then record { offset = p.offset + 1; line = p.line + 1; col = 1 } else record { offset = p.offset + 1; line = p.line; col = p.col + 1 }

abbrev pub pos_after : Pos → List ℕ → Pos
pos_after p bytes = fold pos_step p bytes

-- no line or column is past the offset
abbrev pub PosFits : Pos → Type 0
PosFits p = (p.line ≤ p.offset + 1) × (p.col ≤ p.offset + 1)

-- the position after the first n bytes
unfoldable pub pos_at : List ℕ → ℕ → Pos
pos_at text n = pos_after text_start (take n text)

-- a token that ends a statement where its line ends
abbrev pub closes_line : Kind → Bool
closes_line kind.Name = true
closes_line (kind.Number n) = true
closes_line kind.String = true
closes_line (kind.Keyword keyword.Break) = true
closes_line (kind.Keyword keyword.Continue) = true
closes_line (kind.Keyword keyword.Fallthrough) = true
closes_line (kind.Keyword keyword.Return) = true
closes_line (kind.Op op.Increment) = true
closes_line (kind.Op op.Decrement) = true
closes_line (kind.Op op.RightParen) = true
closes_line (kind.Op op.RightBracket) = true
closes_line (kind.Op op.RightBrace) = true
closes_line _ = false

-- the bytes between a token and the next one, or the end of the text
abbrev pub gap_after : List ℕ → Lexeme → List Lexeme → List ℕ
gap_after text l [] = drop l.end text
gap_after text l (n ∷ ls) = take (n.start - l.end) (drop l.end text)

-- No token follows on the same line. A comment with a newline in it ends the line, too.
abbrev pub ends_line : List ℕ → List Lexeme → Bool
ends_line gap [] = true
ends_line gap (n ∷ ls) = nat_lt (prefix_len is_within_line gap) (length gap)

abbrev pub token_of : List ℕ → Lexeme → Token
token_of text l = record { kind = l.kind; pos = pos_at text l.start; end = l.end }

abbrev pub semicolon_at : List ℕ → ℕ → Token
semicolon_at text place = record { kind = kind.Op op.Semicolon; pos = pos_at text place; end = place }

-- An inserted semicolon stands at the first newline after its token, or at the end of the text.
abbrev pub inserted : List ℕ → Lexeme → List Lexeme → List Token
inserted text l ls =
    let gap = gap_after text l ls in
    if closes_line l.kind && ends_line gap ls then semicolon_at text (l.end + prefix_len is_within_line gap) ∷ [] else []

abbrev pub with_semicolons : List ℕ → List Lexeme → List Token
with_semicolons text [] = []
with_semicolons text (l ∷ ls) = token_of text l ∷ (inserted text l ls ++ with_semicolons text ls)

-- spans in order, from a place on to the end of a text of n bytes; an inserted semicolon's is empty
abbrev pub AreSpans : ℕ → List Token → ℕ → Type 0
AreSpans place [] n = place ≤ n
AreSpans place (t ∷ ts) n = (place ≤ t.pos.offset) × (t.pos.offset ≤ t.end) × AreSpans t.end ts n

-- a span within a text of n bytes
abbrev pub IsSpan : ℕ → Token → Type 0
IsSpan n t = (t.pos.offset ≤ t.end) × (t.end ≤ n)
