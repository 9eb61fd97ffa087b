-- Numbers are read from exactly their decimal texts.
use Rattle.std.proofs.Common.{◌≡◌, inl, inr, ℕ, zero, suc, ◌+◌, ◌-◌, ◌*◌, ◌^◌, ◌<◌, ◌≤◌, Bool, true, false, ℤ, pos, negsuc, List, [], ◌∷◌, length, get_or, Option, Some, None, refl, sym, ap, subst, ◌∙◌, arith, rules}
use Rattle.std.specs.Prelude.{◌&&◌, nat_lt, codes, decimal, if◌then◌else◌}
use Rattle.std.specs.Fmt.{signed_decimal}
use Rattle.std.specs.Char.{is_ascii_digit}
use Rattle.std.specs.Str.{all_ascii_digits}
use Rattle.std.proofs.lemmas.Bool.Decides.{nat_tests}
use Rattle.std.proofs.lemmas.Str.Parse.{IsNumeralModel, FoldsDigits, numerals_by_fold, tells_all_ascii_digits}
use Rattle.std.proofs.lemmas.Fmt.{digits_decimal, digits_value-decimal, decimal-digits_value, decimal_nonempty, first_decimal, decimal_digit}
use Rattle.report_checks.specs.Texts.{SignedFits}
use Rattle.report_checks.specs.Cuts.{after}
use Rattle.report_checks.proofs.Cutting.{after_is, after_whole, Free, free_cons, free_nil}
use Rattle.report_checks.proofs.Choices.{bound, tried}
use Rattle.report_checks.specs.Reading.{◌>>=◌, first_of, with_digit, with_digits, begins_number, read_number, positive, negative, read_signed}

-- the value of digits behind those of n
value : ℕ → List ℕ → ℕ
value n [] = n
value n (c ∷ cs) = value (n * 10 + (c - 48)) cs

abbrev AreDigits : List ℕ → Type 0
AreDigits ds = all_ascii_digits ds ≡ true

folds : FoldsDigits value
unfolding value
folds = search rules

own : IsNumeralModel AreDigits (value 0)
own = numerals_by_fold AreDigits tells_all_ascii_digits value folds

both_true : (a b : Bool) → a ≡ true → b ≡ true → (a && b) ≡ true
both_true true b p q = q
both_true false b p q = absurd (cc)

true_parts : (a b : Bool) → (a && b) ≡ true → (a ≡ true) × (b ≡ true)
true_parts true b h = (refl, h)
true_parts false b h = absurd (cc)

both_ways : (b : Bool) → b ≡ true → b ≡ false → ⊥
both_ways b p q = cc

other_numbers : (n : ℕ) → n ≡ 45 → n ≡ 32 → ⊥
other_numbers n d e = omega arith

-- ---- one digit

digit_sound : (n c m : ℕ) → with_digit n c ≡ Some m → (is_ascii_digit c ≡ true) × (m ≡ n * 10 + (c - 48)) × (m < 2 ^ 32)
unfolding with_digit
digit_sound n c m h = grind (arith, nat_tests)

digit_complete : (n c : ℕ) → is_ascii_digit c ≡ true → n * 10 + (c - 48) < 2 ^ 32 → with_digit n c ≡ Some (n * 10 + (c - 48))
unfolding with_digit
digit_complete n c d h = grind (arith, nat_tests)

-- ---- digits

value_grows : (n : ℕ) (ds : List ℕ) → n ≤ value n ds
unfolding value
value_grows n [] = omega arith
value_grows n (c ∷ cs) = let h = value_grows (n * 10 + (c - 48)) cs in omega arith

digits_sound : (n : ℕ) (ds : List ℕ) (v : ℕ) → with_digits n ds ≡ Some v → n < 2 ^ 32 → AreDigits ds × (v ≡ value n ds) × (v < 2 ^ 32)
unfolding with_digits value
digits_sound n [] v h small = let e : n ≡ v = cc in (refl, sym e, subst (λ (m : ℕ). m < 2 ^ 32) e small)
digits_sound n (c ∷ cs) v h small =
    let b = bound (with_digit n c) (λ m. with_digits m cs) v h in
    let one = digit_sound n c b.0 b.1 in
    let more = digits_sound b.0 cs v b.2 one.2 in
    (both_true (is_ascii_digit c) (all_ascii_digits cs) one.0 more.0, more.1 ∙ ap (λ (m : ℕ). value m cs) one.1, more.2)

digits_complete : (n : ℕ) (ds : List ℕ) → AreDigits ds → value n ds < 2 ^ 32 → with_digits n ds ≡ Some (value n ds)
unfolding with_digits value
digits_complete n [] d small = refl
digits_complete n (c ∷ cs) d small =
    let parts = true_parts (is_ascii_digit c) (all_ascii_digits cs) d in
    let grows = value_grows (n * 10 + (c - 48)) cs in
    ap (λ (o : Option ℕ). o >>= (λ m. with_digits m cs)) (digit_complete n c parts.0 (omega arith)) ∙ digits_complete (n * 10 + (c - 48)) cs parts.1 small

-- ---- a number

begins : (ds : List ℕ) → begins_number ds ≡ true → (0 < length ds) × (get_or ds 0 0 ≡ 48 → length ds ≡ 1)
unfolding begins_number
begins [] h = absurd (cc)
begins (c ∷ []) h = (omega arith, λ _. refl)
begins (c ∷ d ∷ ds) h = (omega arith, λ e. absurd (let k : begins_number (48 ∷ d ∷ ds) ≡ true = subst (λ (x : ℕ). begins_number (x ∷ d ∷ ds) ≡ true) e h in cc))

begins_one : (n : ℕ) (ds : List ℕ) → ds ≡ n ∷ [] → begins_number ds ≡ true
unfolding begins_number
begins_one n ds e = ap begins_number e

begins_above : (ds : List ℕ) → 0 < length ds → 48 < get_or ds 0 0 → begins_number ds ≡ true
unfolding begins_number
begins_above [] h k = absurd (omega arith)
begins_above (c ∷ []) h k = refl
begins_above (c ∷ d ∷ ds) h k = grind (arith, nat_tests)

begins_decimal : (n : ℕ) → n < 2 ^ 64 → begins_number (decimal n) ≡ true
begins_decimal zero h = begins_one 48 (decimal 0) (decimal_digit 0 (omega arith))
begins_decimal (suc n) h = begins_above (decimal (suc n)) (decimal_nonempty (suc n) h) (first_decimal (suc n) (omega arith) h)

chosen : (b : Bool) (o : Option ℕ) (v : ℕ) → (if b then o else None) ≡ Some v → (b ≡ true) × (o ≡ Some v)
chosen true o v h = (refl, h)
chosen false o v h = absurd (cc)

pub number_sound : (t : List ℕ) (n : ℕ) → read_number t ≡ Some n → (t ≡ decimal n) × (n < 2 ^ 32)
unfolding read_number
number_sound t n h =
    let parts = chosen (begins_number t) (with_digits 0 t) n h in
    let head = begins t parts.0 in
    let digits = digits_sound 0 t n parts.1 (omega arith) in
    let small : value 0 t < 2 ^ 64 = (let e : n ≡ value 0 t = digits.1 in let f : n < 2 ^ 32 = digits.2 in omega arith) in
    (sym (ap decimal digits.1 ∙ decimal-digits_value own t digits.0 head.0 head.1 small), digits.2)

pub number_complete : (n : ℕ) → n < 2 ^ 32 → read_number (decimal n) ≡ Some n
unfolding read_number
number_complete n h =
    let wide : n < 2 ^ 64 = omega arith in
    let v : value 0 (decimal n) ≡ n = digits_value-decimal own n wide in
    ap (λ (b : Bool). if b then with_digits 0 (decimal n) else None) (begins_decimal n wide) ∙ digits_complete 0 (decimal n) (digits_decimal own n wide) (subst (λ (m : ℕ). m < 2 ^ 32) (sym v) h) ∙ ap Some v

-- ---- a number with a sign

minus_none : (ds : List ℕ) → AreDigits ds → after (codes "-") ds ≡ None
unfolding after
minus_none [] d = refl
minus_none (c ∷ cs) d = let p = true_parts (is_ascii_digit c) (all_ascii_digits cs) d in let q = p.0 in grind (arith, nat_tests)

positive_sound : (n : ℕ) (z : ℤ) → positive n ≡ Some z → (z ≡ pos n) × (n < 2 ^ 31)
unfolding positive
positive_sound n z h = grind (arith, nat_tests)

positive_complete : (n : ℕ) → n < 2 ^ 31 → positive n ≡ Some (pos n)
unfolding positive
positive_complete n h = grind (arith, nat_tests)

minus_sound : (n : ℕ) (z : ℤ) → (if nat_lt n (2 ^ 31) then Some (negsuc n) else None) ≡ Some z → (z ≡ negsuc n) × (n < 2 ^ 31)
minus_sound n z h = grind (arith, nat_tests)

negative_sound : (n : ℕ) (z : ℤ) → negative n ≡ Some z → (m : ℕ) × (n ≡ suc m) × (z ≡ negsuc m) × (m < 2 ^ 31)
unfolding negative
negative_sound zero z h = absurd (cc)
negative_sound (suc m) z h = let p = minus_sound m z h in (m, refl, p.0, p.1)

negative_complete : (n : ℕ) → n < 2 ^ 31 → negative (suc n) ≡ Some (negsuc n)
unfolding negative
negative_complete n h = grind (arith, nat_tests)

fits_at : (y z : ℤ) → y ≡ z → SignedFits z → SignedFits y
fits_at y z e h = subst SignedFits (sym e) h

pub signed_sound : (t : List ℕ) (z : ℤ) → read_signed t ≡ Some z → (t ≡ signed_decimal z) × SignedFits z
unfolding read_signed
signed_sound t z h = elim (tried (after (codes "-") t) (λ ds. read_number ds >>= negative) (read_number t >>= positive) z h) [
  | inl minus ↦ (let b = bound (read_number minus.0) negative z minus.2 in
      let n = negative_sound b.0 z b.2 in
      let number = number_sound minus.0 b.0 b.1 in
      let whole : t ≡ 45 ∷ decimal (suc n.0) = after_is (codes "-") t minus.0 minus.1 ∙ ap (λ (ds : List ℕ). 45 ∷ ds) (number.0 ∙ ap decimal n.1) in
      (whole ∙ sym (ap signed_decimal n.2), fits_at z (negsuc n.0) n.2 n.3))
  | inr plain ↦ (let b = bound (read_number t) positive z plain.1 in
      let n = positive_sound b.0 z b.2 in
      let number = number_sound t b.0 b.1 in
      (number.0 ∙ sym (ap signed_decimal n.0), fits_at z (pos b.0) n.0 n.1))
]

pub signed_complete : (z : ℤ) → SignedFits z → read_signed (signed_decimal z) ≡ Some z
unfolding read_signed
signed_complete (pos n) h =
    ap (λ (o : Option (List ℕ)). first_of o (λ ds. read_number ds >>= negative) (read_number (decimal n) >>= positive)) (minus_none (decimal n) (digits_decimal own n (omega arith)))
    ∙ ap (λ (o : Option ℕ). o >>= positive) (number_complete n (omega arith)) ∙ positive_complete n h
signed_complete (negsuc n) h =
    ap (λ (o : Option (List ℕ)). first_of o (λ ds. read_number ds >>= negative) (read_number (45 ∷ decimal (suc n)) >>= positive)) (after_whole (codes "-") (decimal (suc n)))
    ∙ ap (λ (o : Option ℕ). o >>= negative) (number_complete (suc n) (omega arith)) ∙ negative_complete n h

-- ---- no separator stands in a number

digits_free : (s : ℕ) (ds : List ℕ) → is_ascii_digit s ≡ false → AreDigits ds → Free s ds
digits_free s [] h d = free_nil
digits_free s (c ∷ cs) h d =
    let p = true_parts (is_ascii_digit c) (all_ascii_digits cs) d in
    free_cons (λ e. both_ways (is_ascii_digit s) (subst (λ (x : ℕ). is_ascii_digit x ≡ true) e p.0) h) (digits_free s cs h p.1)

pub number_free : (s n : ℕ) → is_ascii_digit s ≡ false → n < 2 ^ 32 → Free s (decimal n)
number_free s n h small = digits_free s (decimal n) h (digits_decimal own n (omega arith))

pub signed_free : (z : ℤ) → SignedFits z → Free 32 (signed_decimal z)
signed_free (pos n) h = number_free 32 n refl (omega arith)
signed_free (negsuc n) h = free_cons (λ e. other_numbers 45 refl e) (number_free 32 (suc n) refl (omega arith))
