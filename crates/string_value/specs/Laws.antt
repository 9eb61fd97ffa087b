-- What the definition of the tokens of a text and that of the values of its string literals have in common.
use Rattle.std.specs.Prelude.{◌≡◌, ◌≢◌, ◌↔◌, ℕ, ◌-◌, List, take, drop, IsTrue}
use Rattle.std.specs.List.{All, Contains}
use Rattle.scan_go.specs.declared.token.Kind.TheVariants as kind
use Rattle.scan_go.specs.declared.token.Token.{Token}
use Rattle.scan_go.specs.Scan.{AreTokens}
use Rattle.scan_go.specs.Strings.{begins_escape}
use Rattle.string_value.specs.declared.piece.Meaning.{Meaning}
use Rattle.string_value.specs.declared.piece.Meaning.TheVariants as meaning
use Rattle.string_value.specs.Pieces.{escape}
use Rattle.string_value.specs.StringValue.{meanings, content}

-- a byte, or a character
abbrev pub IsSomething : Meaning → Type 0
IsSomething m = m ≢ meaning.Nothing

-- After a backslash the tokens of a text allow just those escapes that stand for something.
abbrev pub EscapesAgree : Type 0
EscapesAgree = (rest : List ℕ) → IsTrue (begins_escape rest) ↔ IsSomething (escape rest).meaning

-- the bytes of a token
abbrev pub spelling_of : List ℕ → Token → List ℕ
spelling_of text t = take (t.end - t.pos.offset) (drop t.pos.offset text)

-- Where a text has tokens, each piece of each of its string literals stands for something.
abbrev pub LiteralsHaveNoBareBackslash : Type 0
LiteralsHaveNoBareBackslash = (text : List ℕ) (tokens : List Token) → AreTokens text tokens
    → (t : Token) → Contains tokens t → t.kind ≡ kind.String → All IsSomething (meanings 0 (content (spelling_of text t)))
