-- Forms of the language [Go specification, Comments, Integer literals, String literals].
use Rattle.std.specs.Prelude.{◌≡◌, ◌≢◌, ◌⊎◌, ⊤, ℕ, false, List, [], ◌∷◌, ◌++◌, nat_eq, codes, IsTrue}
use Rattle.std.specs.List.{starts_with, list_all}
use Rattle.std.specs.Char.{is_digit}
use Rattle.scan_go.specs.Characters.{is_space, is_within_line}
use Rattle.scan_go.specs.Strings.{begins_escape}

-- ---- comments

-- a comment that begins with // and has no newline
pub record IsLineComment (bytes : List ℕ) : Type 0 where
  pub begins : IsTrue (starts_with nat_eq bytes (codes "//"))
  pub one_line : IsTrue (list_all is_within_line bytes)

-- the bytes end with */, and have no other one before
pub data IsClosed : List ℕ → Type 0 where
  closed : IsClosed (codes "*/")
  later : {b : ℕ} {bytes : List ℕ} → starts_with nat_eq (b ∷ bytes) (codes "*/") ≡ false → IsClosed bytes → IsClosed (b ∷ bytes)

-- a comment that begins with /* and stops with the first */ after it
pub record IsGeneralComment (bytes : List ℕ) : Type 0 where
  pub body : List ℕ
  pub begins : bytes ≡ codes "/*" ++ body
  pub closed : IsClosed body

-- the end of a line, or of the text
abbrev pub EndsLine : List ℕ → Type 0
EndsLine [] = ⊤
EndsLine (b ∷ rest) = b ≡ 10

-- Spaces and comments lead from what is left of a text to what is left after them. A line comment stops at the end of its line.
pub data Skips : List ℕ → List ℕ → Type 0 where
  nothing : {rest : List ℕ} → Skips rest rest
  space : {b : ℕ} {rest after : List ℕ} → IsTrue (is_space b) → Skips rest after → Skips (b ∷ rest) after
  line : {comment rest after : List ℕ} → IsLineComment comment → EndsLine rest → Skips rest after → Skips (comment ++ rest) after
  general : {comment rest after : List ℕ} → IsGeneralComment comment → Skips rest after → Skips (comment ++ rest) after

-- ---- integer literals

-- digits, with at most one mark `_` between two of them
pub data AreDigits (radix : ℕ) : List ℕ → Type 0 where
  one : {c : ℕ} → IsTrue (is_digit c radix) → AreDigits radix (c ∷ [])
  next : {c : ℕ} {cs : List ℕ} → IsTrue (is_digit c radix) → AreDigits radix cs → AreDigits radix (c ∷ cs)
  marked : {c : ℕ} {cs : List ℕ} → IsTrue (is_digit c radix) → AreDigits radix cs → AreDigits radix (c ∷ 95 ∷ cs)

-- digits, after a mark or without one
pub data AreMarked (radix : ℕ) : List ℕ → Type 0 where
  plain : {cs : List ℕ} → AreDigits radix cs → AreMarked radix cs
  mark : {cs : List ℕ} → AreDigits radix cs → AreMarked radix (95 ∷ cs)

-- the letter after a 0 that names a radix: b or B, o or O, x or X
pub data Names : ℕ → ℕ → Type 0 where
  binary : {c : ℕ} → (c ≡ 98) ⊎ (c ≡ 66) → Names c 2
  octal : {c : ℕ} → (c ≡ 111) ⊎ (c ≡ 79) → Names c 8
  hexadecimal : {c : ℕ} → (c ≡ 120) ⊎ (c ≡ 88) → Names c 16

-- 0; decimal digits that begin with another one; octal digits after a 0; or digits of a radix after a 0 and the letter that names it
pub data IsInteger : List ℕ → Type 0 where
  zero : IsInteger (48 ∷ [])
  decimal : {c : ℕ} {cs : List ℕ} → c ≢ 48 → AreDigits 10 (c ∷ cs) → IsInteger (c ∷ cs)
  octal : {cs : List ℕ} → AreMarked 8 cs → IsInteger (48 ∷ cs)
  prefixed : {radix c : ℕ} {cs : List ℕ} → Names c radix → AreMarked radix cs → IsInteger (48 ∷ c ∷ cs)

-- ---- string literals

-- between the quotes: bytes that are no quote, no backslash, no newline and not the byte 0; and backslashes that escapes follow
pub data IsContent : List ℕ → Type 0 where
  nothing : IsContent []
  byte : {b : ℕ} {bytes : List ℕ} → b ≢ 34 → b ≢ 92 → b ≢ 10 → b ≢ 0 → IsContent bytes → IsContent (b ∷ bytes)
  escape : {b : ℕ} {bytes : List ℕ} → IsTrue (begins_escape (b ∷ bytes)) → IsContent bytes → IsContent (92 ∷ b ∷ bytes)

-- a string literal in double quotes
pub record IsString (bytes : List ℕ) : Type 0 where
  pub content : List ℕ
  pub quoted : bytes ≡ 34 ∷ (content ++ 34 ∷ [])
  pub formed : IsContent content
