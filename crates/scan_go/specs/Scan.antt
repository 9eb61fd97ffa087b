-- What a scan of a text answers.
use Rattle.std.specs.Prelude.{◌≡◌, ℕ, ◌<◌, ◌≤◌, List, length, Result, Ok, Err, IsUtf8}
use Rattle.std.specs.Str.Lossy.{utf8_valid_len}
use Rattle.scan_go.specs.declared.lexeme.Lexeme.{Lexeme}
use Rattle.scan_go.specs.declared.token.Token.{Token}
use Rattle.scan_go.specs.declared.fault.ScanFault.{ScanFault}
use Rattle.scan_go.specs.declared.fault.ScanFault.TheVariants as scan
use Rattle.scan_go.specs.TokenList.{TokenList, most_bytes}
use Rattle.scan_go.specs.Tokens.{Lexes}
use Rattle.scan_go.specs.Lines.{pos_at, with_semicolons}

-- short enough, and UTF-8
abbrev pub IsReadable : List ℕ → Type 0
IsReadable text = (length text ≤ most_bytes) × IsUtf8 text

-- the tokens of a text, with their positions and the inserted semicolons
abbrev pub AreTokens : List ℕ → List Token → Type 0
AreTokens text tokens = IsReadable text × ((ls : List Lexeme) × Lexes text (Ok ls) × (tokens ≡ with_semicolons text ls))

-- the first fault of a text from the left, at its place
abbrev pub IsFault : List ℕ → ScanFault → Type 0
IsFault text scan.NoMemory = Unit {0}
IsFault text (scan.TooLong pos) = (most_bytes < length text) × (pos ≡ pos_at text 0)
IsFault text (scan.NotUtf8 pos) = (length text ≤ most_bytes) × (IsUtf8 text → ⊥) × (pos ≡ pos_at text (utf8_valid_len text))
IsFault text (scan.Fault kind pos) = IsReadable text × ((n : ℕ) × Lexes text (Err (kind, n)) × (pos ≡ pos_at text n))

-- what a scan answers, unless memory ran out
abbrev pub GivesTokens : Result TokenList ScanFault → List ℕ → Type 0
GivesTokens (Ok tokens) text = AreTokens text tokens.list
GivesTokens (Err e) text = IsFault text e

-- these tokens and no others are answered, unless memory ran out
abbrev pub OnlyTokens : Result TokenList ScanFault → List Token → Type 0
OnlyTokens (Ok tokens) list = tokens.list ≡ list
OnlyTokens (Err e) list = e ≡ scan.NoMemory
