-- The escapes that the tokens of a text allow are those that stand for something.
use Rattle.std.proofs.Common.{◌≡◌, ℕ, ◌+◌, ◌*◌, Bool, true, false, cond, List, [], ◌∷◌, take, drop, length, Option, Some, None, refl, sym, ap, ◌∙◌, arith, inl, inr}
use Rattle.std.specs.Prelude.{slice_index, fold, nat_lt, nat_le, option_and_then, ◌==◌, ◌||◌, ◌&&◌}
use Rattle.std.specs.List.{list_all}
use Rattle.std.specs.Option.{is_some}
use Rattle.std.specs.Char.{is_digit, digit_value}
use Rattle.std.proofs.lemmas.Bool.{cases_Bool, and_parts, lt-ltb, ltb-true, true≢false}
use Rattle.scan_go.specs.declared.number_base.Base.TheVariants as scan_base
use Rattle.scan_go.specs.Numbers.{value as scan_value}
use Rattle.scan_go.specs.Strings.{is_simple_escape, begins_code_point, begins_byte, begins_escape}
use Rattle.string_value.specs.declared.number_base.Base.{Base}
use Rattle.string_value.specs.declared.number_base.Base.TheVariants as number_base
use Rattle.string_value.specs.declared.piece.Meaning.{Meaning}
use Rattle.string_value.specs.declared.piece.Meaning.TheVariants as meaning
use Rattle.string_value.specs.declared.piece.Piece.{Piece}
use Rattle.string_value.specs.Digits.{radix, value, begins_digits, byte, is_code_point, character}
use Rattle.string_value.specs.Pieces.{simple_escape, byte_piece, character_piece, escape}
use Rattle.string_value.specs.Laws.{IsSomething, EscapesAgree}

abbrev pub something : Meaning → Bool
something meaning.Nothing = false
something (meaning.Byte b) = true
something (meaning.Character c) = true

-- ---- digits

abbrev with_digit : ℕ → ℕ → ℕ → ℕ
with_digit r v c = r * v + digit_value c

-- where all are digits, no other byte is passed over
same_fold : (r v : ℕ) (run : List ℕ) → list_all (λ c. is_digit c r) run ≡ true
    → fold (λ (u c : ℕ). cond (is_digit c r) (with_digit r u c) u) v run ≡ fold (with_digit r) v run
same_fold r v [] all = refl
same_fold r v (c ∷ run) all =
    let parts = and_parts (is_digit c r) (list_all (λ d. is_digit d r) run) all in
    rw parts.0 (same_fold r (with_digit r v c) run parts.1)

-- two hexadecimal digits give a byte
two_digits : (rest : List ℕ) → begins_digits number_base.Hexadecimal 2 rest ≡ true → nat_lt (value number_base.Hexadecimal (take 2 rest)) 256 ≡ true
two_digits [] begins = absurd (true≢false (sym begins))
two_digits (a ∷ []) begins = absurd (true≢false (sym begins))
two_digits (a ∷ b ∷ rest) begins =
    let all = and_parts (nat_le 2 (length (a ∷ b ∷ rest))) (is_digit a 16 && (is_digit b 16 && true)) begins in
    let first = and_parts (is_digit a 16) (is_digit b 16 && true) all.1 in
    let second = and_parts (is_digit b 16) true first.1 in
    lt-ltb (value number_base.Hexadecimal (a ∷ b ∷ [])) 256 (omega (arith, ltb-true (digit_value a) 16 first.0, ltb-true (digit_value b) 16 second.0))

-- ---- pieces

of_byte : (o : Option ℕ) (n : ℕ) → something (byte_piece o n).meaning ≡ is_some o
of_byte None n = refl
of_byte (Some b) n = refl

of_character : (o : Option ℕ) (n : ℕ) → something (character_piece o n).meaning ≡ is_some o
of_character None n = refl
of_character (Some c) n = refl

-- the number of digits, if they are there and it passes a test
tested : (begins : Bool) (test : ℕ → Bool) (n : ℕ)
    → is_some (option_and_then (λ c. cond (test c) (Some c) None) (cond begins (Some n) None)) ≡ (begins && test n)
tested false test n = refl
tested true test n = elim (cases_Bool (test n)) [
  | inl is ↦ rw is refl
  | inr is ↦ rw is refl
]

-- the number counts only where its digits are there
same_test : (begins : Bool) (test : ℕ → Bool) (m n : ℕ) → (begins ≡ true → m ≡ n) → (begins && test m) ≡ (begins && test n)
same_test false test m n same = refl
same_test true test m n same = ap test (same refl)

only_begins : (begins test : Bool) → (begins ≡ true → test ≡ true) → begins ≡ (begins && test)
only_begins false test passes = refl
only_begins true test passes = sym (passes refl)

same_value : (b : Base) (n : ℕ) (rest : List ℕ) → begins_digits b n rest ≡ true
    → fold (λ (u c : ℕ). cond (is_digit c (radix b)) (with_digit (radix b) u c) u) 0 (take n rest) ≡ value b (take n rest)
same_value b n rest begins = same_fold (radix b) 0 (take n rest) (and_parts (nat_le n (length rest)) (list_all (λ c. is_digit c (radix b)) (take n rest)) begins).1

code_point : (n : ℕ) (rest : List ℕ) → begins_code_point n rest ≡ is_some (character n rest)
code_point n rest =
    let begins = begins_digits number_base.Hexadecimal n rest in
    same_test begins is_code_point (scan_value scan_base.Hexadecimal (take n rest)) (value number_base.Hexadecimal (take n rest)) (same_value number_base.Hexadecimal n rest)
    ∙ sym (tested begins is_code_point (value number_base.Hexadecimal (take n rest)))

octal_byte : (rest : List ℕ) → begins_byte rest ≡ is_some (byte number_base.Octal 3 rest)
octal_byte rest =
    let begins = begins_digits number_base.Octal 3 rest in
    same_test begins (λ c. nat_lt c 256) (scan_value scan_base.Octal (take 3 rest)) (value number_base.Octal (take 3 rest)) (same_value number_base.Octal 3 rest)
    ∙ sym (tested begins (λ c. nat_lt c 256) (value number_base.Octal (take 3 rest)))

hexadecimal_byte : (rest : List ℕ) → begins_digits number_base.Hexadecimal 2 rest ≡ is_some (byte number_base.Hexadecimal 2 rest)
hexadecimal_byte rest =
    let begins = begins_digits number_base.Hexadecimal 2 rest in
    let n = value number_base.Hexadecimal (take 2 rest) in
    only_begins begins (nat_lt n 256) (two_digits rest) ∙ sym (tested begins (λ c. nat_lt c 256) n)

-- ---- letters

one_letter : (t : Bool) (x : ℕ) (others : Bool) (o : Option ℕ) → others ≡ is_some o → (t || others) ≡ is_some (cond t (Some x) o)
one_letter true x others o same = refl
one_letter false x others o same = same

itself : (t : Bool) (c : ℕ) → t ≡ is_some (cond t (Some c) None)
itself true c = refl
itself false c = refl

simple : (c : ℕ) → is_simple_escape c ≡ is_some (simple_escape c)
unfolding simple_escape
simple c =
    one_letter (c == 97) 7 _ _ (one_letter (c == 98) 8 _ _ (one_letter (c == 102) 12 _ _ (one_letter (c == 110) 10 _ _
    (one_letter (c == 114) 13 _ _ (one_letter (c == 116) 9 _ _ (one_letter (c == 118) 11 _ _ (itself ((c == 92) || (c == 34)) c)))))))

-- ---- escapes

-- by a test of the first byte
by_test : (t x y : Bool) (p q : Piece) → x ≡ something p.meaning → y ≡ something q.meaning → cond t x y ≡ something (cond t p q).meaning
by_test true x y p q first second = first
by_test false x y p q first second = second

pub agree : (rest : List ℕ) → begins_escape rest ≡ something (escape rest).meaning
unfolding begins_escape escape
agree rest =
    let c = slice_index rest 0 in
    let after = drop 1 rest in
    by_test (c == 120) _ _ _ _ (hexadecimal_byte after ∙ sym (of_byte (byte number_base.Hexadecimal 2 after) 4))
    (by_test (c == 117) _ _ _ _ (code_point 4 after ∙ sym (of_character (character 4 after) 6))
    (by_test (c == 85) _ _ _ _ (code_point 8 after ∙ sym (of_character (character 8 after) 10))
    (by_test (is_digit c 8) _ _ _ _ (octal_byte rest ∙ sym (of_byte (byte number_base.Octal 3 rest) 4))
    (simple c ∙ sym (of_byte (simple_escape c) 2)))))

pub is_something : (m : Meaning) → something m ≡ true → IsSomething m
is_something meaning.Nothing is e = true≢false (sym is)
is_something (meaning.Byte b) is e = cc
is_something (meaning.Character c) is e = cc

something_is : (m : Meaning) → IsSomething m → something m ≡ true
something_is meaning.Nothing is = absurd (is refl)
something_is (meaning.Byte b) is = refl
something_is (meaning.Character c) is = refl

pub escapes_agree : EscapesAgree
escapes_agree rest =
    (λ begins. is_something (escape rest).meaning (sym (agree rest) ∙ begins), λ is. agree rest ∙ something_is (escape rest).meaning is)
