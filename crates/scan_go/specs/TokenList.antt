-- The tokens of a text, beside the text.
use Rattle.std.specs.Prelude.{ℕ, ◌≤◌, List, length}
use Rattle.scan_go.specs.declared.token.Token.{Token}
use Rattle.scan_go.specs.Lines.{AreSpans}

pub record TokenList : Type 0 where
  pub text : List ℕ
  pub list : List Token

-- the most bytes of a text
abbrev pub most_bytes : ℕ
most_bytes = 1048576

-- the text is not too long, and the spans lie within it
pub record IsWithin (text : List ℕ) (list : List Token) : Type 0 where
  pub short : length text ≤ most_bytes
  pub spans : AreSpans 0 list (length text)
