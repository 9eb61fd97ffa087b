-- No string literal of a text that has tokens has a backslash that stands for nothing.
use Rattle.std.proofs.Common.{◌≡◌, ℕ, suc, ◌+◌, ◌-◌, ◌≤◌, Bool, true, false, cond, List, [], ◌∷◌, ◌++◌, take, drop, length, Option, Some, None, Ok, Err, refl, sym, ap, subst, ◌∙◌, arith}
use Rattle.std.specs.Prelude.{◌^◌, ◌==◌, ◌||◌, ◌&&◌, nat_eq, nat_lt, slice_index, codes}
use Rattle.std.specs.List.{AllByRecursion, starts_with}
use Rattle.std.specs.Char.{is_ascii_digit}
use Rattle.std.proofs.lemmas.List.{length-take-le, take-take, drop-drop, length-drop}
use Rattle.std.proofs.lemmas.List.Elements.{All-from_recursion, All-contains}
use Rattle.scan_go.specs.declared.fault.FaultKind.{FaultKind}
use Rattle.scan_go.specs.declared.fault.FaultKind.TheVariants as fault
use Rattle.scan_go.specs.declared.lexeme.Lexeme.{Lexeme}
use Rattle.scan_go.specs.declared.number_base.Base.{Base}
use Rattle.scan_go.specs.declared.piece.Piece.{Piece}
use Rattle.scan_go.specs.declared.piece.Piece.TheVariants as piece
use Rattle.scan_go.specs.declared.spelling.Keyword.{Keyword}
use Rattle.scan_go.specs.declared.spelling.Op.{Op}
use Rattle.scan_go.specs.declared.token.Kind.{Kind}
use Rattle.scan_go.specs.declared.token.Kind.TheVariants as kind
use Rattle.scan_go.specs.declared.token.Token.{Token}
use Rattle.scan_go.specs.Comments.{later, gap_or_nul, closed_at, comment_end}
use Rattle.scan_go.specs.Words.{keyword_of, kind_of_word, word_len}
use Rattle.scan_go.specs.Numbers.{digits_fit, value, begins_other_form, literal, prefix_base, number_by, begins_fraction}
use Rattle.scan_go.specs.Characters.{char_at, is_letter, is_space, begins_other_literal}
use Rattle.scan_go.specs.Operators.{operator_of, operator_piece}
use Rattle.scan_go.specs.Strings.{closing, closes, hides, fault_within, string_or_fault, closed_string, string_piece}
use Rattle.scan_go.specs.Pieces.{piece_at}
use Rattle.scan_go.specs.Tokens.{Cut, Found, with_front, found_in, mark_len}
use Rattle.scan_go.specs.Lines.{with_semicolons}
use Rattle.scan_go.proofs.Spans.{offset_at}
use Rattle.string_value.specs.StringValue.{meanings, content}
use Rattle.string_value.specs.Laws.{IsSomething, spelling_of, LiteralsHaveNoBareBackslash}
use Rattle.string_value.proofs.Content.{all_something}

abbrev Keeps : List ℕ → Type 0
Keeps spelling = AllByRecursion IsSomething (meanings 0 (content spelling))

-- ---- from quote to quote

closed_within : (line quote : Bool) (o : Option ℕ) (len n : ℕ) → ((m : ℕ) → o ≡ Some m → m ≤ len) → cond line (cond quote (Some 1) (later 1 o)) None ≡ Some n → n ≤ suc len
closed_within true true o len n after is = let e : 1 ≡ n = cc is in omega arith
closed_within true false (Some m) len n after is = let e : 1 + m ≡ n = cc is in omega (arith, after m refl)
closed_within true false None len n after is = absurd (cc is)
closed_within false quote o len n after is = absurd (cc is)

closing_within : (h : Bool) (rest : List ℕ) (n : ℕ) → closing h rest ≡ Some n → n ≤ length rest
unfolding closing
closing_within h [] n is = absurd (cc is)
closing_within h (b ∷ rest) n is = closed_within _ _ (closing (hides h b) rest) (length rest) n (closing_within (hides h b) rest) is

content_of : (q m : ℕ) (after : List ℕ) → m ≤ length after → content (take (1 + m) (q ∷ after)) ≡ take (m - 1) after
content_of q m after within =
    let front : 1 + m ≡ suc m = omega arith in
    let least : suc (length (take m after)) - 2 ≡ m - 1 = omega (arith, length-take-le m after within) in
    ap (λ (k : ℕ). content (take k (q ∷ after))) front ∙ ap (λ (k : ℕ). take k (take m after)) least ∙ take-take (m - 1) m after (omega arith)

without_fault : (m n : ℕ) (o : Option (FaultKind × ℕ)) → string_or_fault (1 + m) o ≡ piece.Token kind.String n → (1 + m ≡ n) × (o ≡ None)
without_fault m n None is = (cc is, refl)
without_fault m n (Some f) is = absurd (cc is)

closed_keeps : (q : ℕ) (after : List ℕ) (n : ℕ) (o : Option ℕ) → closing false after ≡ o → closed_string o after ≡ piece.Token kind.String n → Keeps (take n (q ∷ after))
closed_keeps q after n None closes is = absurd (cc is)
closed_keeps q after n (Some m) closes is =
    let found = without_fault m n (fault_within false (take (m - 1) after)) is in
    let same : content (take n (q ∷ after)) ≡ take (m - 1) after = ap (λ (k : ℕ). content (take k (q ∷ after))) (sym found.0) ∙ content_of q m after (closing_within false after m closes) in
    subst (λ (c : List ℕ). AllByRecursion IsSomething (meanings 0 c)) (sym same) (all_something false 0 (take (m - 1) after) tt found.1)

string_keeps : (rest : List ℕ) (n : ℕ) → string_piece rest ≡ piece.Token kind.String n → Keeps (take n rest)
unfolding closing
string_keeps [] n is = absurd (cc is)
string_keeps (q ∷ after) n is = closed_keeps q after n (closing false after) refl is

-- ---- no other piece is a string

module _ (rest : List ℕ) (n : ℕ) where
  abbrev Only : Piece → Type 0
  Only p = p ≡ piece.Token kind.String n → string_piece rest ≡ piece.Token kind.String n

  by_test : (t : Bool) (p q : Piece) → Only p → Only q → Only (cond t p q)
  by_test true p q first second = first
  by_test false p q first second = second

  of_fault : (f : FaultKind) (k : ℕ) → Only (piece.Fault f k)
  of_fault f k is = absurd (cc is)

  of_spaces : (k : ℕ) → Only (piece.Gap k)
  of_spaces k is = absurd (cc is)

  of_gap : (k : ℕ) (o : Option ℕ) → Only (gap_or_nul k o)
  of_gap k None = of_spaces k
  of_gap k (Some i) = of_fault _ i

  of_comment : (o : Option ℕ) → Only (closed_at o rest)
  of_comment None = of_fault _ 0
  of_comment (Some k) = of_gap (2 + k) _

  of_word : (o : Option Keyword) (k : ℕ) → Only (piece.Token (kind_of_word o) k)
  of_word None k is = absurd (cc is)
  of_word (Some w) k is = absurd (cc is)

  of_value : (v k : ℕ) → Only (piece.Token (kind.Number v) k)
  of_value v k is = absurd (cc is)

  of_literal : (b : Base) (front : ℕ) (run : List ℕ) (next : ℕ) → Only (literal b front run next)
  unfolding literal
  of_literal b front run next =
      by_test (begins_other_form next) _ _ (of_fault _ _)
      (by_test (nat_lt 0 (length run) && digits_fit b run) _ _ (by_test (nat_lt (value b run) (2 ^ 127)) _ _ (of_value _ _) (of_fault _ _)) (of_fault _ _))

  of_number : (o : Option Base) → Only (number_by o rest)
  of_number None = of_literal _ _ _ _
  of_number (Some b) = of_literal _ _ _ _

  of_operator : (o : Option Op) → Only (operator_piece o)
  of_operator None = of_fault _ 0
  of_operator (Some op) = λ is. absurd (cc is)

  only_string : Only (piece_at rest)
  unfolding piece_at
  only_string =
      let first = slice_index rest 0 in
      by_test (first == 0) _ _ (of_fault _ _) (by_test (is_space first) _ _ (of_spaces _) (by_test (starts_with nat_eq rest (codes "//")) _ _ (of_gap _ _)
      (by_test (starts_with nat_eq rest (codes "/*")) _ _ (of_comment (comment_end (drop 2 rest)))
      (by_test (is_letter (char_at rest)) _ _ (of_word (keyword_of (take (word_len rest) rest)) (word_len rest))
      (by_test (is_ascii_digit first) _ _ (of_number (prefix_base rest)) (by_test (first == 34) _ _ (λ is. is)
      (by_test (begins_other_literal first || begins_fraction rest) _ _ (of_fault fault.OutOfProfile 0) (of_operator (operator_of rest)))))))))

-- ---- the tokens of a text

abbrev LexemeKeeps : List ℕ → Lexeme → Type 0
LexemeKeeps text l = l.kind ≡ kind.String → (l.start ≤ length text) × Keeps (take (l.end - l.start) (drop l.start text))

after_front : (front : List Lexeme) (f : Found) (ls : List Lexeme) → with_front front f ≡ Ok ls → (more : List Lexeme) × (f ≡ Ok more) × (front ++ more ≡ ls)
after_front front (Ok more) ls is = (more, refl, cc is)
after_front front (Err e) ls is = absurd (cc is)

lexemes_keep : (text : List ℕ) (place : ℕ) (ps : List Piece) (ls : List Lexeme) → Cut (drop place text) ps → found_in place ps ≡ Ok ls → AllByRecursion (LexemeKeeps text) ls
lexemes_keep text place [] ls cut is = let e : [] ≡ ls = cc is in subst (AllByRecursion (LexemeKeeps text)) e tt
lexemes_keep text place (piece.Gap n ∷ ps) ls cut is = lexemes_keep text (place + n) ps ls (subst (λ (r : List ℕ). Cut r ps) (drop-drop n place text) cut.2) is
lexemes_keep text place (piece.Token k n ∷ ps) ls cut is =
    let l : Lexeme = record { kind = k; start = place; end = place + n } in
    let f = after_front (l ∷ []) (found_in (place + n) ps) ls is in
    let len : n ≡ place + n - place = omega arith in
    let here : LexemeKeeps text l = λ string. (
      omega (arith, cut.0, length-drop place text),
      subst (λ (m : ℕ). Keeps (take m (drop place text))) len
          (string_keeps (drop place text) n (only_string (drop place text) n (subst (λ (j : Kind). piece_at (drop place text) ≡ piece.Token j n) string cut.1))),
    ) in
    subst (AllByRecursion (LexemeKeeps text)) f.2 (here, lexemes_keep text (place + n) ps f.0 (subst (λ (r : List ℕ). Cut r ps) (drop-drop n place text) cut.2) f.1)
lexemes_keep text place (piece.Fault e n ∷ ps) ls cut is = absurd (cc is)

abbrev TokenKeeps : List ℕ → Token → Type 0
TokenKeeps text t = t.kind ≡ kind.String → Keeps (spelling_of text t)

with_inserted : (text : List ℕ) (t : Bool) (s : Token) (ts : List Token) → TokenKeeps text s → AllByRecursion (TokenKeeps text) ts → AllByRecursion (TokenKeeps text) (cond t (s ∷ []) [] ++ ts)
with_inserted text true s ts here all = (here, all)
with_inserted text false s ts here all = all

tokens_keep : (text : List ℕ) (ls : List Lexeme) → AllByRecursion (LexemeKeeps text) ls → AllByRecursion (TokenKeeps text) (with_semicolons text ls)
tokens_keep text [] all = tt
tokens_keep text (l ∷ ls) all = (
  λ string.
      let at = all.0 string in
      subst (λ (o : ℕ). Keeps (take (l.end - o) (drop o text))) (sym (offset_at text l.start at.0)) at.1,
  with_inserted text _ _ (with_semicolons text ls) (λ string. absurd (cc string)) (tokens_keep text ls all.1),
)

pub no_bare_backslash : LiteralsHaveNoBareBackslash
no_bare_backslash text tokens are t among string =
    let ls = are.1.0 in
    let all = tokens_keep text ls (lexemes_keep text (mark_len text) are.1.1.0 ls are.1.1.1 are.1.1.2) in
    All-from_recursion IsSomething (meanings 0 (content (spelling_of text t)))
    (All-contains (TokenKeeps text) tokens t (All-from_recursion (TokenKeeps text) tokens (subst (AllByRecursion (TokenKeeps text)) (sym are.1.2) all)) among string)
