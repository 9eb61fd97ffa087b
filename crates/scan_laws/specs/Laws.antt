-- What holds of the tokens of each text.
use Rattle.std.specs.Prelude.{◌≡◌, ◌⊎◌, ℕ, ◌-◌, ◌<◌, ◌≤◌, false, List, [], ◌∷◌, length, slice_index, take, drop, nat_eq, IsTrue}
use Rattle.std.specs.List.{Contains, starts_with}
use Rattle.scan_go.specs.declared.spelling.Keyword.{Keyword}
use Rattle.scan_go.specs.declared.spelling.Op.{Op}
use Rattle.scan_go.specs.declared.spelling.Op.TheVariants as op
use Rattle.scan_go.specs.declared.token.Kind.TheVariants as kind
use Rattle.scan_go.specs.declared.token.Token.{Token}
use Rattle.scan_go.specs.Characters.{char_at, is_continuation, is_letter, is_letter_or_digit}
use Rattle.scan_go.specs.Spelling.{keyword_spelling, op_spelling}
use Rattle.scan_go.specs.Tokens.{mark_len}
use Rattle.scan_go.specs.Scan.{AreTokens}
use Rattle.scan_laws.specs.Forms.{Skips, IsInteger, IsString}

-- ---- a text as a whole

-- From a place on, a text is made of these tokens in their order, of spaces and of comments. An inserted semicolon takes no byte.
pub data MadeOf (text : List ℕ) : ℕ → List Token → Type 0 where
  end : {place : ℕ} → Skips (drop place text) [] → MadeOf text place []
  token : {place : ℕ} {t : Token} {ts : List Token} → Skips (drop place text) (drop t.pos.offset text) → MadeOf text t.end ts → MadeOf text place (t ∷ ts)
  inserted : {place : ℕ} {t : Token} {ts : List Token} → t.kind ≡ kind.Op op.Semicolon → t.pos.offset ≡ t.end → MadeOf text place ts → MadeOf text place (t ∷ ts)

-- before the first token stands a byte order mark at most, and else spaces and comments alone
abbrev pub OnlySpacesAndCommentsBetween : Type 0
OnlySpacesAndCommentsBetween = (text : List ℕ) (tokens : List Token) → AreTokens text tokens → MadeOf text (mark_len text) tokens

-- ---- tokens

-- a token of a text that has tokens
abbrev pub IsTokenOf : List ℕ → Token → Type 0
IsTokenOf text t = (tokens : List Token) × AreTokens text tokens × Contains tokens t

-- what is left of a text from a token on
abbrev pub from_token : List ℕ → Token → List ℕ
from_token text t = drop t.pos.offset text

-- the bytes of a token
abbrev pub spelling_of : List ℕ → Token → List ℕ
spelling_of text t = take (t.end - t.pos.offset) (from_token text t)

-- no letter and no digit stands there
abbrev pub StopsWord : List ℕ → Type 0
StopsWord rest = (rest ≡ []) ⊎ (is_letter_or_digit (char_at rest) ≡ false)

-- A name or a keyword begins with a letter, each character that begins in it is a letter or a digit, and it ends where neither
-- follows.
pub record IsWhole (text : List ℕ) (t : Token) : Type 0 where
  pub letter : IsTrue (is_letter (char_at (from_token text t)))
  pub others : (k : ℕ) → k < t.end - t.pos.offset → is_continuation (slice_index (from_token text t) k) ≡ false → IsTrue (is_letter_or_digit (char_at (drop k (from_token text t))))
  pub stops : StopsWord (drop (t.end - t.pos.offset) (from_token text t))

abbrev pub NamesAreWhole : Type 0
NamesAreWhole = (text : List ℕ) (t : Token) → IsTokenOf text t → t.kind ≡ kind.Name → IsWhole text t

abbrev pub KeywordsAreSpelled : Type 0
KeywordsAreSpelled = (text : List ℕ) (t : Token) (k : Keyword) → IsTokenOf text t → t.kind ≡ kind.Keyword k → (spelling_of text t ≡ keyword_spelling k) × IsWhole text t

-- an operator is spelled so, and no longer one stands in its place
pub record IsLongest (text : List ℕ) (t : Token) (x : Op) : Type 0 where
  pub spelled : spelling_of text t ≡ op_spelling x
  pub longest : (y : Op) → IsTrue (starts_with nat_eq (from_token text t) (op_spelling y)) → length (op_spelling y) ≤ length (op_spelling x)

-- an inserted semicolon has no byte
abbrev pub OperatorsAreLongest : Type 0
OperatorsAreLongest = (text : List ℕ) (t : Token) (x : Op) → IsTokenOf text t → t.kind ≡ kind.Op x → t.pos.offset < t.end → IsLongest text t x

-- a number is an integer literal, and no longer one stands in its place
pub record IsLongestInteger (text : List ℕ) (t : Token) : Type 0 where
  pub integer : IsInteger (spelling_of text t)
  pub longest : (m : ℕ) → t.end - t.pos.offset < m → m ≤ length (from_token text t) → IsInteger (take m (from_token text t)) → ⊥

abbrev pub NumbersAreLiterals : Type 0
NumbersAreLiterals = (text : List ℕ) (t : Token) (v : ℕ) → IsTokenOf text t → t.kind ≡ kind.Number v → IsLongestInteger text t

abbrev pub StringsAreLiterals : Type 0
StringsAreLiterals = (text : List ℕ) (t : Token) → IsTokenOf text t → t.kind ≡ kind.String → IsString (spelling_of text t)
