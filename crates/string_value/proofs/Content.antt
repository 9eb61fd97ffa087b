-- Between quotes where the tokens of a text find no fault, each piece stands for something.
use Rattle.std.proofs.Common.{◌≡◌, ℕ, zero, suc, ◌-◌, Bool, true, false, cond, not, List, [], ◌∷◌, take, length, Option, Some, None, refl, sym, subst, ◌∙◌, inl, inr}
use Rattle.std.specs.Prelude.{nat_le, ◌==◌, ◌&&◌, option_and_then}
use Rattle.std.specs.List.{list_all, AllByRecursion}
use Rattle.std.specs.Option.{is_some}
use Rattle.std.specs.Char.{is_digit}
use Rattle.std.proofs.lemmas.Bool.{cases_Bool, and_parts, eqb-true, true≢false, false_from_ne_true}
use Rattle.scan_go.specs.declared.fault.FaultKind.{FaultKind}
use Rattle.scan_go.specs.declared.fault.FaultKind.TheVariants as fault
use Rattle.scan_go.specs.Strings.{hides, begins_escape, fault_at, here_or, fault_within}
use Rattle.string_value.specs.declared.number_base.Base.{Base}
use Rattle.string_value.specs.declared.number_base.Base.TheVariants as number_base
use Rattle.string_value.specs.declared.piece.Meaning.TheVariants as meaning
use Rattle.string_value.specs.declared.piece.Piece.{Piece}
use Rattle.string_value.specs.Digits.{radix, value, begins_digits, number, byte, if_byte, if_character, character}
use Rattle.string_value.specs.Pieces.{simple_escape, byte_piece, character_piece, escape}
use Rattle.string_value.specs.StringValue.{meanings}
use Rattle.string_value.specs.Laws.{IsSomething}
use Rattle.string_value.proofs.Escapes.{something, agree, is_something}

-- no backslash among the first n bytes
abbrev NoBackslash : ℕ → List ℕ → Type 0
NoBackslash zero rest = Unit {0}
NoBackslash (suc n) [] = Unit {0}
NoBackslash (suc n) (b ∷ rest) = ((b == 92) ≡ false) × NoBackslash n rest

-- The first n bytes belong to a piece that has begun, and begin no other one. Where the first of them is hidden, it
-- stands after the backslash of that piece.
abbrev Ready : Bool → ℕ → List ℕ → Type 0
Ready false n rest = NoBackslash n rest
Ready true zero rest = ⊥
Ready true (suc n) [] = Unit {0}
Ready true (suc n) (b ∷ rest) = NoBackslash n rest

-- ---- an escape ends before the next backslash

no_digit : (b : Base) → is_digit 92 (radix b) ≡ false
no_digit number_base.Octal = refl
no_digit number_base.Hexadecimal = refl

is_other : (b : Base) (c : ℕ) → is_digit c (radix b) ≡ true → (c == 92) ≡ false
is_other b c is = false_from_ne_true (c == 92) (λ e. true≢false (sym (subst (λ (d : ℕ). is_digit d (radix b) ≡ true) (eqb-true c 92 e) is) ∙ no_digit b))

all_digits : (b : Base) (n : ℕ) (rest : List ℕ) → list_all (λ c. is_digit c (radix b)) (take n rest) ≡ true → NoBackslash n rest
all_digits b zero rest all = tt
all_digits b (suc n) [] all = tt
all_digits b (suc n) (c ∷ rest) all =
    let parts = and_parts (is_digit c (radix b)) (list_all (λ d. is_digit d (radix b)) (take n rest)) all in
    (is_other b c parts.0, all_digits b n rest parts.1)

-- what passes a test is the number of digits
of_digits : (begins : Bool) (n : ℕ) (test : ℕ → Option ℕ) → is_some (option_and_then test (cond begins (Some n) None)) ≡ true → begins ≡ true
of_digits true n test is = refl
of_digits false n test is = absurd (true≢false (sym is))

number_plain : (b : Base) (n : ℕ) (rest : List ℕ) (test : ℕ → Option ℕ) → is_some (option_and_then test (number b n rest)) ≡ true → NoBackslash n rest
number_plain b n rest test is =
    let begins = of_digits (begins_digits b n rest) (value b (take n rest)) test is in
    all_digits b n rest (and_parts (nat_le n (length rest)) (list_all (λ c. is_digit c (radix b)) (take n rest)) begins).1

-- Where a piece stands for something, none of its bytes after its backslash is a backslash, but for the first one,
-- which that one hides.
abbrev Ends : List ℕ → Piece → Type 0
Ends rest p = something p.meaning ≡ true → Ready true (p.len - 1) rest

byte_ends : (o : Option ℕ) (n k c : ℕ) (rest : List ℕ) → suc k ≡ n - 1 → (is_some o ≡ true → NoBackslash k rest) → Ends (c ∷ rest) (byte_piece o n)
byte_ends None n k c rest len plain is = absurd (true≢false (sym is))
byte_ends (Some b) n k c rest len plain is = subst (λ (m : ℕ). Ready true m (c ∷ rest)) len (plain refl)

character_ends : (o : Option ℕ) (n k c : ℕ) (rest : List ℕ) → suc k ≡ n - 1 → (is_some o ≡ true → NoBackslash k rest) → Ends (c ∷ rest) (character_piece o n)
character_ends None n k c rest len plain is = absurd (true≢false (sym is))
character_ends (Some b) n k c rest len plain is = subst (λ (m : ℕ). Ready true m (c ∷ rest)) len (plain refl)

by_test : (t : Bool) (rest : List ℕ) (p q : Piece) → Ends rest p → Ends rest q → Ends rest (cond t p q)
by_test true rest p q first second = first
by_test false rest p q first second = second

escape_ends : (rest : List ℕ) → Ends rest (escape rest)
unfolding escape simple_escape
escape_ends [] = λ is. absurd (true≢false (sym is))
escape_ends (c ∷ rest) =
    by_test (c == 120) (c ∷ rest) _ _ (byte_ends (byte number_base.Hexadecimal 2 rest) 4 2 c rest refl (number_plain number_base.Hexadecimal 2 rest if_byte))
    (by_test (c == 117) (c ∷ rest) _ _ (character_ends (character 4 rest) 6 4 c rest refl (number_plain number_base.Hexadecimal 4 rest if_character))
    (by_test (c == 85) (c ∷ rest) _ _ (character_ends (character 8 rest) 10 8 c rest refl (number_plain number_base.Hexadecimal 8 rest if_character))
    (by_test (is_digit c 8) (c ∷ rest) _ _ (byte_ends (byte number_base.Octal 3 (c ∷ rest)) 4 2 c rest refl (λ is. (number_plain number_base.Octal 3 (c ∷ rest) if_byte is).1))
    (byte_ends (simple_escape c) 2 0 c rest refl (λ is. tt)))))

-- ---- no fault

here_none : (o : Option FaultKind) (others : Option (FaultKind × ℕ)) → here_or o others ≡ None → (o ≡ None) × (others ≡ None)
here_none None None none = (refl, refl)
here_none None (Some f) none = absurd (cc none)
here_none (Some kind) others none = absurd (cc none)

without_fault : (h : Bool) (b : ℕ) (rest : List ℕ) → fault_within h (b ∷ rest) ≡ None → (fault_at h (b ∷ rest) ≡ None) × (fault_within (hides h b) rest ≡ None)
unfolding fault_within
without_fault h b rest none = here_none (fault_at h (b ∷ rest)) (fault_within (hides h b) rest) none

escaped : (nul t begins : Bool) → t ≡ true → cond nul (Some fault.Nul) (cond (t && not begins) (Some fault.BadEscape) None) ≡ None → begins ≡ true
escaped true t begins is none = absurd (cc none)
escaped false false begins is none = absurd (true≢false (sym is))
escaped false true false is none = absurd (cc none)
escaped false true true is none = refl

an_escape : (b : ℕ) (rest : List ℕ) → (b == 92) ≡ true → fault_at false (b ∷ rest) ≡ None → something (escape rest).meaning ≡ true
unfolding fault_at
an_escape b rest is none = sym (agree rest) ∙ escaped (b == 0) (b == 92) (begins_escape rest) is none

pub all_something : (h : Bool) (n : ℕ) (rest : List ℕ) → Ready h n rest → fault_within h rest ≡ None → AllByRecursion IsSomething (meanings n rest)
unfolding meanings
all_something h n [] ready none = tt
all_something true zero (b ∷ rest) ready none = absurd ready
all_something true (suc n) (b ∷ rest) ready none = all_something false n rest ready (without_fault true b rest none).1
all_something false (suc n) (b ∷ rest) ready none =
    all_something false n rest ready.1 (subst (λ (h : Bool). fault_within h rest ≡ None) ready.0 (without_fault false b rest none).1)
all_something false zero (b ∷ rest) ready none = elim (cases_Bool (b == 92)) [
  | inl is ↦
      let some = an_escape b rest is (without_fault false b rest none).0 in
      rw is (
        is_something (escape rest).meaning some,
        all_something true ((escape rest).len - 1) rest (escape_ends rest some) (subst (λ (h : Bool). fault_within h rest ≡ None) is (without_fault false b rest none).1),
      )
  | inr is ↦
      rw is (is_something (meaning.Byte b) refl, all_something false 0 rest tt (subst (λ (h : Bool). fault_within h rest ≡ None) is (without_fault false b rest none).1))
]
