-- What stands at the front of a text, by its form.
use Rattle.std.proofs.Common.{◌≡◌, ℕ, ◌+◌, ◌<◌, ◌≤◌, Bool, true, false, cond, List, [], length, take, drop, Option, Some, None, refl, sym, ap, subst, ◌∙◌, arith}
use Rattle.std.specs.Prelude.{◌-◌, ⊤, nat_eq, slice_index, codes, IsTrue, position, nat_lt, ◌^◌, ◌==◌, ◌||◌, ◌&&◌}
use Rattle.std.specs.List.{starts_with, prefix_len}
use Rattle.std.specs.Char.{is_ascii_digit}
use Rattle.scan_go.specs.declared.fault.FaultKind.{FaultKind}
use Rattle.scan_go.specs.declared.fault.FaultKind.TheVariants as fault
use Rattle.scan_go.specs.declared.number_base.Base.{Base}
use Rattle.scan_go.specs.declared.piece.Piece.{Piece}
use Rattle.scan_go.specs.declared.piece.Piece.TheVariants as piece
use Rattle.scan_go.specs.declared.spelling.Keyword.{Keyword}
use Rattle.scan_go.specs.declared.spelling.Op.{Op}
use Rattle.scan_go.specs.declared.token.Kind.{Kind}
use Rattle.scan_go.specs.declared.token.Kind.TheVariants as kind
use Rattle.scan_go.specs.Characters.{char_at, is_continuation, is_letter, is_letter_or_digit, is_space, is_within_line, begins_other_literal}
use Rattle.scan_go.specs.Comments.{gap_or_nul, closed_at, comment_end}
use Rattle.scan_go.specs.Numbers.{value, digits_fit, begins_other_form, literal, prefix_base, plain_number, number_by, begins_fraction}
use Rattle.scan_go.specs.Operators.{operator_of, operator_piece}
use Rattle.scan_go.specs.Pieces.{piece_at}
use Rattle.scan_go.specs.Spelling.{keyword_spelling, op_spelling}
use Rattle.scan_go.specs.Strings.{closing, string_piece, closed_string, fault_within, string_or_fault}
use Rattle.scan_go.specs.Words.{keyword_of, kind_of_word, word_len}
use Rattle.scan_laws.specs.Forms.{Skips, IsInteger, IsString}
use Rattle.scan_laws.specs.Laws.{StopsWord}
use Rattle.scan_laws.proofs.Gaps.{space_skips, line_skips, general_skips}
use Rattle.scan_laws.proofs.Words.{word_stops, word_inner, word_within, keyword_spelled, operator_spelled, operator_within}
use Rattle.scan_laws.proofs.Numbers.{number_is}
use Rattle.scan_laws.proofs.Longest.{number_longest}
use Rattle.scan_laws.proofs.Strings.{string_is}

-- a word: a letter at the front, letters and digits in n bytes, and neither after them
pub record IsWord (rest : List ℕ) (n : ℕ) : Type 0 where
  pub letter : is_letter (char_at rest) ≡ true
  pub others : (k : ℕ) → k < n → is_continuation (slice_index rest k) ≡ false → is_letter_or_digit (char_at (drop k rest)) ≡ true
  pub stops : StopsWord (drop n rest)

word : (rest : List ℕ) → is_letter (char_at rest) ≡ true → IsWord rest (word_len rest)
word rest letter = record { letter = letter; others = word_inner rest; stops = word_stops rest }

-- more bytes than n are no integer literal
abbrev pub IsLongest : List ℕ → ℕ → Type 0
IsLongest rest n = (m : ℕ) → n < m → m ≤ length rest → IsInteger (take m rest) → ⊥

-- what is so of a token of n bytes at the front
abbrev pub OfKind : Kind → List ℕ → ℕ → Type 0
OfKind kind.Name rest n = IsWord rest n
OfKind (kind.Keyword k) rest n = (take n rest ≡ keyword_spelling k) × IsWord rest n
OfKind (kind.Number v) rest n = IsInteger (take n rest) × IsLongest rest n
OfKind kind.String rest n = IsString (take n rest)
OfKind (kind.Op x) rest n = (take n rest ≡ op_spelling x) × (operator_of rest ≡ Some x)

-- what is so of a piece at the front
abbrev pub Says : List ℕ → Piece → Type 0
Says rest (piece.Gap n) = Skips rest (drop n rest)
Says rest (piece.Token k n) = (n ≤ length rest) × OfKind k rest n
Says rest (piece.Fault f n) = ⊤

pub record Said (rest : List ℕ) (p : Piece) : Type 0 where
  pub said : Says rest p

-- a piece that is a number or a fault
abbrev NumberOr : Piece → Type 0
NumberOr (piece.Gap n) = ⊥
NumberOr (piece.Token (kind.Number v) n) = ⊤
NumberOr (piece.Token k n) = ⊥
NumberOr (piece.Fault f n) = ⊤

record IsNumber (p : Piece) : Type 0 where
  number : NumberOr p

number_test : (t : Bool) (p q : Piece) → IsNumber p → IsNumber q → IsNumber (cond t p q)
number_test true p q first second = first
number_test false p q first second = second

fault_number : (f : FaultKind) (n : ℕ) → IsNumber (piece.Fault f n)
fault_number f n = record { number = tt }

token_number : (v n : ℕ) → IsNumber (piece.Token (kind.Number v) n)
token_number v n = record { number = tt }

literal_number : (b : Base) (front : ℕ) (run : List ℕ) (next : ℕ) → IsNumber (literal b front run next)
unfolding literal
literal_number b front run next =
    number_test (begins_other_form next) _ _ (fault_number _ _)
    (number_test (nat_lt 0 (length run) && digits_fit b run) _ _ (number_test (nat_lt (value b run) (2 ^ 127)) _ _ (token_number _ _) (fault_number _ _)) (fault_number _ _))

is_number : (rest : List ℕ) (o : Option Base) → IsNumber (number_by o rest)
is_number rest None = literal_number _ _ _ _
is_number rest (Some b) = literal_number _ _ _ _

-- a piece that is a string or a fault
abbrev StringOr : Piece → Type 0
StringOr (piece.Gap n) = ⊥
StringOr (piece.Token kind.String n) = ⊤
StringOr (piece.Token k n) = ⊥
StringOr (piece.Fault f n) = ⊤

string_or : (n : ℕ) (o : Option (FaultKind × ℕ)) → StringOr (string_or_fault n o)
string_or n None = tt
string_or n (Some f) = tt

is_quoted : (o : Option ℕ) (after : List ℕ) → StringOr (closed_string o after)
is_quoted None after = tt
is_quoted (Some n) after = string_or (1 + n) (fault_within false (take (n - 1) after))

module _ (rest : List ℕ) where
  by_test : (t : Bool) (p q : Piece) → (t ≡ true → Said rest p) → (t ≡ false → Said rest q) → Said rest (cond t p q)
  by_test true p q first second = first refl
  by_test false p q first second = second refl

  of_fault : (f : FaultKind) (n : ℕ) → Said rest (piece.Fault f n)
  of_fault f n = record { said = tt }

  of_space : (n : ℕ) → Skips rest (drop n rest) → Said rest (piece.Gap n)
  of_space n skips = record { said = skips }

  of_gap : (n : ℕ) (o : Option ℕ) → Skips rest (drop n rest) → Said rest (gap_or_nul n o)
  of_gap n None skips = of_space n skips
  of_gap n (Some i) skips = of_fault fault.Nul i

  of_general : (o : Option ℕ) → comment_end (drop 2 rest) ≡ o → starts_with nat_eq rest (codes "/*") ≡ true → Said rest (closed_at o rest)
  of_general None stops begins = of_fault fault.OpenComment 0
  of_general (Some m) stops begins = of_gap (2 + m) _ (general_skips rest m begins stops)

  of_word : (o : Option Keyword) → keyword_of (take (word_len rest) rest) ≡ o → is_letter (char_at rest) ≡ true → Said rest (piece.Token (kind_of_word o) (word_len rest))
  of_word None found letter = record { said = (word_within rest, word rest letter) }
  of_word (Some k) found letter = record { said = (word_within rest, (keyword_spelled (take (word_len rest) rest) k found, word rest letter)) }

  of_operator : (o : Option Op) → operator_of rest ≡ o → Said rest (operator_piece o)
  of_operator None found = of_fault fault.BadChar 0
  of_operator (Some x) found = record { said = (operator_within rest x found, (operator_spelled rest x found, found)) }

  of_number : (p : Piece) → is_ascii_digit (slice_index rest 0) ≡ true → number_by (prefix_base rest) rest ≡ p → NumberOr p → Says rest p
  of_number (piece.Gap n) digit is number = absurd number
  of_number (piece.Fault f n) digit is number = tt
  of_number (piece.Token kind.Name n) digit is number = absurd number
  of_number (piece.Token (kind.Number v) n) digit is number = (let found = number_is rest (kind.Number v) n digit is in (found.0, (found.1, number_longest rest (kind.Number v) n digit is)))
  of_number (piece.Token kind.String n) digit is number = absurd number
  of_number (piece.Token (kind.Keyword k) n) digit is number = absurd number
  of_number (piece.Token (kind.Op x) n) digit is number = absurd number

  of_string : (p : Piece) → (slice_index rest 0 == 34) ≡ true → string_piece rest ≡ p → StringOr p → Says rest p
  of_string (piece.Gap n) quote is quoted = absurd quoted
  of_string (piece.Fault f n) quote is quoted = tt
  of_string (piece.Token kind.Name n) quote is quoted = absurd quoted
  of_string (piece.Token (kind.Number v) n) quote is quoted = absurd quoted
  of_string (piece.Token kind.String n) quote is quoted = string_is rest kind.String n quote is
  of_string (piece.Token (kind.Keyword k) n) quote is quoted = absurd quoted
  of_string (piece.Token (kind.Op x) n) quote is quoted = absurd quoted

  number_said : is_ascii_digit (slice_index rest 0) ≡ true → Said rest (number_by (prefix_base rest) rest)
  number_said digit = record { said = of_number (number_by (prefix_base rest) rest) digit refl (is_number rest (prefix_base rest)).number }

  string_said : (slice_index rest 0 == 34) ≡ true → Said rest (string_piece rest)
  string_said quote = record { said = of_string (string_piece rest) quote refl (is_quoted (closing false (drop 1 rest)) (drop 1 rest)) }

  pub says : Said rest (piece_at rest)
  unfolding piece_at
  says =
      let first = slice_index rest 0 in
      by_test (first == 0) _ _ (λ nul. of_fault fault.Nul 0) (λ _.
      by_test (is_space first) _ _ (λ space. of_space 1 (space_skips rest space)) (λ _.
      by_test (starts_with nat_eq rest (codes "//")) _ _ (λ begins. of_gap (prefix_len is_within_line rest) _ (line_skips rest begins)) (λ _.
      by_test (starts_with nat_eq rest (codes "/*")) _ _ (λ begins. of_general (comment_end (drop 2 rest)) refl begins) (λ _.
      by_test (is_letter (char_at rest)) _ _ (λ letter. of_word (keyword_of (take (word_len rest) rest)) refl letter) (λ _.
      by_test (is_ascii_digit first) _ _ (λ digit. number_said digit) (λ _.
      by_test (first == 34) _ _ (λ quote. string_said quote) (λ _.
      by_test (begins_other_literal first || begins_fraction rest) _ _ (λ other. of_fault fault.OutOfProfile 0) (λ _. of_operator (operator_of rest) refl))))))))
