-- No longer integer literal stands in the place of a number.
use Rattle.std.proofs.Common.{◌≡◌, ℕ, suc, zero, ◌+◌, ◌<◌, ◌≤◌, ◌⊎◌, Bool, true, false, cond, List, [], ◌∷◌, length, take, drop, Option, Some, None, refl, sym, ap, subst, ◌∙◌, inl, inr, arith, length-take-le}
use Rattle.std.specs.Prelude.{nat_lt, slice_index, ◌==◌, ◌||◌, ◌&&◌}
use Rattle.std.specs.List.{prefix_len, list_all}
use Rattle.std.specs.Char.{is_digit, is_ascii_digit, digit_value}
use Rattle.std.proofs.lemmas.Bool.{and_parts, lt-ltb}
use Rattle.std.proofs.lemmas.List.Folds.{length-prefix_len}
use borrow.Author.Tests.{ltb-true}
use Rattle.scan_go.specs.declared.number_base.Base.{Base}
use Rattle.scan_go.specs.declared.number_base.Base.TheVariants as number_base
use Rattle.scan_go.specs.declared.piece.Piece.TheVariants as piece
use Rattle.scan_go.specs.declared.token.Kind.{Kind}
use Rattle.scan_go.specs.Numbers.{radix, writing_radix, is_digit_or_mark, base_named, prefix_base, plain_base, plain_number, prefixed_number, number_by}
use Rattle.scan_laws.specs.Forms.{AreDigits, AreMarked, Names, IsInteger, one, next, marked, plain, mark, binary, octal as eight, hexadecimal, decimal, octal, prefixed}
use Rattle.scan_laws.specs.Forms.{zero as zero_literal}
use Rattle.scan_laws.proofs.Numbers.{literal_of, named, prefix_named}

-- ---- digits and marks pass the test of the run

module _ (test : ℕ → Bool) where
  prefix_covers : (k : ℕ) (rest : List ℕ) → k ≤ length rest → list_all test (take k rest) ≡ true → k ≤ prefix_len test rest
  prefix_covers zero rest le all = omega arith
  prefix_covers (suc k) [] le all = absurd (omega arith)
  prefix_covers (suc k) (b ∷ rest) le all =
      let parts = and_parts (test b) (list_all test (take k rest)) all in
      let more = prefix_covers k rest (omega arith) parts.1 in
      rw parts.0 (omega (arith, more))

  both : (a b : Bool) → a ≡ true → b ≡ true → a && b ≡ true
  both a b p q = rw (p, q) refl

  module _ (r : ℕ) (each : (c : ℕ) → is_digit c r ≡ true → test c ≡ true) (mark_passes : test 95 ≡ true) where
    digits_pass : (cs : List ℕ) → AreDigits r cs → list_all test cs ≡ true
    digits_pass [] none = elim none [ ]
    digits_pass (c ∷ []) (one is) = both (test c) true (each c is) refl
    digits_pass (c ∷ cs) (next is more) = both (test c) (list_all test cs) (each c is) (digits_pass cs more)
    digits_pass (c ∷ d ∷ cs) (marked is more) = both (test c) (test 95 && list_all test cs) (each c is) (both (test 95) (list_all test cs) mark_passes (digits_pass cs more))

    marked_pass : (cs : List ℕ) → AreMarked r cs → list_all test cs ≡ true
    marked_pass cs (plain digits) = digits_pass cs digits
    marked_pass (d ∷ cs) (mark digits) = both (test 95) (list_all test cs) mark_passes (digits_pass cs digits)

left_true : (a b : Bool) → a ≡ true → (a || b) ≡ true
left_true a b is = rw is refl

wider : (r w c : ℕ) → r ≤ w → is_digit c r ≡ true → is_digit c w ≡ true
wider r w c le is = lt-ltb (digit_value c) w (omega (arith, le, ltb-true (digit_value c) r is))

writes : (b : Base) (r : ℕ) → r ≤ writing_radix b → (c : ℕ) → is_digit c r ≡ true → is_digit_or_mark b c ≡ true
writes b r le c is = left_true (is_digit c (writing_radix b)) (c == 95) (wider r (writing_radix b) c le is)

mark_writes : (b : Base) → is_digit_or_mark b 95 ≡ true
mark_writes number_base.Hexadecimal = refl
mark_writes number_base.Binary = refl
mark_writes number_base.Octal = refl
mark_writes number_base.Decimal = refl

radix_writes : (b : Base) → radix b ≤ writing_radix b
radix_writes number_base.Hexadecimal = omega arith
radix_writes number_base.Binary = omega arith
radix_writes number_base.Octal = omega arith
radix_writes number_base.Decimal = omega arith

-- ---- the letter after a 0

names_base : (c r : ℕ) → Names c r → (b : Base) × (base_named c ≡ Some b) × (radix b ≡ r)
names_base c r (binary (inl e)) = (number_base.Binary, subst (λ (x : ℕ). base_named x ≡ Some number_base.Binary) (sym e) refl, refl)
names_base c r (binary (inr e)) = (number_base.Binary, subst (λ (x : ℕ). base_named x ≡ Some number_base.Binary) (sym e) refl, refl)
names_base c r (eight (inl e)) = (number_base.Octal, subst (λ (x : ℕ). base_named x ≡ Some number_base.Octal) (sym e) refl, refl)
names_base c r (eight (inr e)) = (number_base.Octal, subst (λ (x : ℕ). base_named x ≡ Some number_base.Octal) (sym e) refl, refl)
names_base c r (hexadecimal (inl e)) = (number_base.Hexadecimal, subst (λ (x : ℕ). base_named x ≡ Some number_base.Hexadecimal) (sym e) refl, refl)
names_base c r (hexadecimal (inr e)) = (number_base.Hexadecimal, subst (λ (x : ℕ). base_named x ≡ Some number_base.Hexadecimal) (sym e) refl, refl)

-- such a letter is no octal digit and no mark
no_octal : (c r : ℕ) → Names c r → (is_digit c 8 ≡ true) ⊎ (c ≡ 95) → ⊥
no_octal c r (binary (inl e)) (inl d) = let t : is_digit 98 8 ≡ true = subst (λ (x : ℕ). is_digit x 8 ≡ true) e d in cc t
no_octal c r (binary (inr e)) (inl d) = let t : is_digit 66 8 ≡ true = subst (λ (x : ℕ). is_digit x 8 ≡ true) e d in cc t
no_octal c r (eight (inl e)) (inl d) = let t : is_digit 111 8 ≡ true = subst (λ (x : ℕ). is_digit x 8 ≡ true) e d in cc t
no_octal c r (eight (inr e)) (inl d) = let t : is_digit 79 8 ≡ true = subst (λ (x : ℕ). is_digit x 8 ≡ true) e d in cc t
no_octal c r (hexadecimal (inl e)) (inl d) = let t : is_digit 120 8 ≡ true = subst (λ (x : ℕ). is_digit x 8 ≡ true) e d in cc t
no_octal c r (hexadecimal (inr e)) (inl d) = let t : is_digit 88 8 ≡ true = subst (λ (x : ℕ). is_digit x 8 ≡ true) e d in cc t
no_octal c r (binary (inl e)) (inr m) = omega (arith, e, m)
no_octal c r (binary (inr e)) (inr m) = omega (arith, e, m)
no_octal c r (eight (inl e)) (inr m) = omega (arith, e, m)
no_octal c r (eight (inr e)) (inr m) = omega (arith, e, m)
no_octal c r (hexadecimal (inl e)) (inr m) = omega (arith, e, m)
no_octal c r (hexadecimal (inr e)) (inr m) = omega (arith, e, m)

first_digit : (r c : ℕ) (cs : List ℕ) → AreDigits r (c ∷ cs) → is_digit c r ≡ true
first_digit r c cs (one is) = is
first_digit r c cs (next is more) = is
first_digit r c cs (marked is more) = is

first_marked : (r c : ℕ) (cs : List ℕ) → AreMarked r (c ∷ cs) → (is_digit c r ≡ true) ⊎ (c ≡ 95)
first_marked r c cs (plain digits) = inl (first_digit r c cs digits)
first_marked r c cs (mark digits) = inr refl

-- ---- a number without a prefix

record Two (x y : ℕ) (cs : List ℕ) (m : ℕ) (rest : List ℕ) : Type 0 where
  after : List ℕ
  is : rest ≡ x ∷ y ∷ after

two_bytes : (x y : ℕ) (cs : List ℕ) (m : ℕ) (rest : List ℕ) → x ∷ y ∷ cs ≡ take m rest → Two x y cs m rest
two_bytes x y cs zero rest e = absurd (cc e)
two_bytes x y cs (suc m) [] e = absurd (cc e)
two_bytes x y cs (suc zero) (a ∷ rest) e = absurd (cc e)
two_bytes x y cs (suc (suc k)) (a ∷ []) e = absurd (cc e)
two_bytes x y cs (suc (suc k)) (a ∷ b ∷ r) e = record { after = r; is = cc e }

plain_longest : (rest : List ℕ) (m : ℕ) → m ≤ length rest → prefix_base rest ≡ None → 0 < prefix_len (is_digit_or_mark number_base.Decimal) rest → prefix_len (is_digit_or_mark number_base.Decimal) rest < m
    → (bytes : List ℕ) → IsInteger bytes → bytes ≡ take m rest → ⊥
plain_longest rest m le none some less bytes literal e = by bytes literal e
  where
    covers : list_all (is_digit_or_mark number_base.Decimal) bytes ≡ true → ⊥
    covers all =
        let c = prefix_covers (is_digit_or_mark number_base.Decimal) m rest le (subst (λ (l : List ℕ). list_all (is_digit_or_mark number_base.Decimal) l ≡ true) e all) in
        omega (arith, c, less)

    by : (bs : List ℕ) → IsInteger bs → bs ≡ take m rest → ⊥
    by bs zero_literal f = let long = ap length f in omega (arith, long, length-take-le m rest le, some, less)
    by bs (decimal ne digits) f = covers (subst (λ (l : List ℕ). list_all (is_digit_or_mark number_base.Decimal) l ≡ true) (f ∙ sym e) (digits_pass (is_digit_or_mark number_base.Decimal) 10 (writes number_base.Decimal 10 (omega arith)) refl bs digits))
    by (z ∷ cs) (octal digits) f = covers (subst (λ (l : List ℕ). list_all (is_digit_or_mark number_base.Decimal) l ≡ true) (f ∙ sym e) (marked_pass (is_digit_or_mark number_base.Decimal) 8 (writes number_base.Decimal 8 (omega arith)) refl cs digits))
    by (z ∷ c ∷ cs) (prefixed {radix = r} names digits) f =
        let two = two_bytes 48 c cs m rest f in
        let b = names_base c r names in
        let named' : prefix_base rest ≡ Some b.0 = ap prefix_base two.is ∙ b.1 in
        cc (none, named')

-- ---- a number with a prefix

prefixed_longest : (c : ℕ) (rest : List ℕ) (b : Base) (k : ℕ) → base_named c ≡ Some b → k ≤ length rest → prefix_len (is_digit_or_mark b) rest < k
    → (bytes : List ℕ) → IsInteger bytes → bytes ≡ 48 ∷ c ∷ take k rest → ⊥
prefixed_longest c rest b k name le less bytes zero_literal e = cc e
prefixed_longest c rest b k name le less (d ∷ cs) (decimal ne digits) e = ne (cc e)
prefixed_longest c rest b k name le less (z ∷ cs) (octal digits) e =
    let same : cs ≡ c ∷ take k rest = cc e in
    no_octal c (radix b) (named c b name) (first_marked 8 c (take k rest) (subst (AreMarked 8) same digits))
prefixed_longest c rest b k name le less (z ∷ d ∷ cs) (prefixed {radix = r} names digits) e =
    let same : d ≡ c = cc e in
    let run : cs ≡ take k rest = cc e in
    let other = names_base d r names in
    let bases : other.0 ≡ b = cc (other.1, name, same) in
    let radixes : r ≡ radix b = sym other.2 ∙ ap radix bases in
    let all = marked_pass (is_digit_or_mark b) (radix b) (writes b (radix b) (radix_writes b)) (mark_writes b) (take k rest) (subst (AreMarked (radix b)) run (subst (λ (s : ℕ). AreMarked s cs) radixes digits)) in
    omega (arith, prefix_covers (is_digit_or_mark b) k rest le all, less)

-- ---- each number

plain_case : (rest : List ℕ) (k : Kind) (n : ℕ) → prefix_base rest ≡ None → plain_number rest ≡ piece.Token k n → (m : ℕ) → n < m → m ≤ length rest → IsInteger (take m rest) → ⊥
plain_case rest k n none is m less le literal =
    let test : ℕ → Bool = is_digit_or_mark number_base.Decimal in
    let len = prefix_len test rest in
    let found = literal_of (plain_base (take len rest)) 0 (take len rest) (slice_index rest len) k n is in
    let long = length-prefix_len test rest in
    plain_longest rest m le none (omega (arith, found.some, long)) (omega (arith, found.long, long, less)) (take m rest) literal refl

prefixed_case : (c : ℕ) (rest : List ℕ) (b : Base) (k : Kind) (n : ℕ) → base_named c ≡ Some b → prefixed_number b rest ≡ piece.Token k n → (m : ℕ) → n < m → m ≤ length (48 ∷ c ∷ rest) → IsInteger (take m (48 ∷ c ∷ rest)) → ⊥
prefixed_case c rest b k n name is m less le literal = by m less le literal
  where
    test : ℕ → Bool
    test = is_digit_or_mark b

    long : 2 + prefix_len test rest ≡ n
    long =
        let found = literal_of b 2 (take (prefix_len test rest) rest) (slice_index rest (prefix_len test rest)) k n is in
        omega (arith, found.long, length-prefix_len test rest)

    by : (j : ℕ) → n < j → j ≤ length (48 ∷ c ∷ rest) → IsInteger (take j (48 ∷ c ∷ rest)) → ⊥
    by zero lt within form = omega arith
    by (suc zero) lt within form = omega (arith, long)
    by (suc (suc j)) lt within form = prefixed_longest c rest b j name (omega arith) (omega (arith, long, lt)) (48 ∷ c ∷ take j rest) form refl

prefixed_rest : (rest : List ℕ) (b : Base) (k : Kind) (n : ℕ) → prefix_base rest ≡ Some b → prefixed_number b (drop 2 rest) ≡ piece.Token k n → (m : ℕ) → n < m → m ≤ length rest → IsInteger (take m rest) → ⊥
prefixed_rest [] b k n name is = absurd (let p = prefix_named [] b name in cc p.0)
prefixed_rest (x ∷ []) b k n name is = absurd (let p = prefix_named (x ∷ []) b name in cc p.1)
prefixed_rest (x ∷ c ∷ rest) b k n name is =
    let p = prefix_named (x ∷ c ∷ rest) b name in
    subst (λ (z : ℕ). (m : ℕ) → n < m → m ≤ length (z ∷ c ∷ rest) → IsInteger (take m (z ∷ c ∷ rest)) → ⊥) (sym p.0) (prefixed_case c rest b k n p.1 is)

pub number_longest : (rest : List ℕ) (k : Kind) (n : ℕ) → is_ascii_digit (slice_index rest 0) ≡ true → number_by (prefix_base rest) rest ≡ piece.Token k n → (m : ℕ) → n < m → m ≤ length rest → IsInteger (take m rest) → ⊥
number_longest rest k n digit is = by (prefix_base rest) refl is
  where
    by : (o : Option Base) → prefix_base rest ≡ o → number_by o rest ≡ piece.Token k n → (m : ℕ) → n < m → m ≤ length rest → IsInteger (take m rest) → ⊥
    by None name found = plain_case rest k n name found
    by (Some b) name found = prefixed_rest rest b k n name found
