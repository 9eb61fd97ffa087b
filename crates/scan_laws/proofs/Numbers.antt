-- A number is an integer literal.
use Rattle.std.proofs.Common.{◌≡◌, ◌≢◌, ℕ, suc, zero, ◌+◌, ◌<◌, ◌≤◌, ◌⊎◌, Bool, true, false, cond, List, [], ◌∷◌, length, take, drop, Option, Some, None, refl, sym, ap, subst, ◌∙◌, inl, inr, arith, length-drop}
use Rattle.std.specs.Prelude.{nat_lt, slice_index, ◌==◌, ◌||◌, ◌&&◌, ◌^◌}
use Rattle.std.specs.List.{prefix_len}
use Rattle.std.specs.Char.{is_digit, is_ascii_digit}
use Rattle.std.proofs.lemmas.Bool.{cases_Bool, and_parts, lt-ltb}
use Rattle.std.proofs.lemmas.List.Folds.{length-prefix_len}
use Rattle.std.proofs.lemmas.List.Sums.{prefix_len-le-length}
use borrow.Author.Tests.{eqb-true, ltb-true}
use Rattle.scan_go.specs.declared.fault.FaultKind.TheVariants as fault
use Rattle.scan_go.specs.declared.number_base.Base.{Base}
use Rattle.scan_go.specs.declared.number_base.Base.TheVariants as number_base
use Rattle.scan_go.specs.declared.piece.Piece.{Piece}
use Rattle.scan_go.specs.declared.piece.Piece.TheVariants as piece
use Rattle.scan_go.specs.declared.token.Kind.{Kind}
use Rattle.scan_go.specs.declared.token.Kind.TheVariants as kind
use Rattle.scan_go.specs.Numbers.{radix, is_digit_or_mark, value, begins_digit, digits_fit, begins_other_form, literal, base_named, prefix_base, plain_base, plain_number, prefixed_number, number_by}
use Rattle.scan_laws.specs.Forms.{AreDigits, AreMarked, Names, IsInteger, one, next, marked, plain, mark, binary, octal as eight, hexadecimal, decimal, octal, prefixed}
use Rattle.scan_laws.specs.Forms.{zero as zero_literal}

-- ---- digits and marks

-- a digit, or a mark before a digit
digit_or_mark : (b : Base) (c : ℕ) (run : List ℕ) → digits_fit b (c ∷ run) ≡ true → is_digit c (radix b) ≡ false → (c ≡ 95) × (begins_digit b run ≡ true)
digit_or_mark b c run fit other =
    let parts = and_parts (is_digit c (radix b) || ((c == 95) && begins_digit b run)) (digits_fit b run) fit in
    let both = and_parts (c == 95) (begins_digit b run) (ap (λ (t : Bool). t || ((c == 95) && begins_digit b run)) (sym other) ∙ parts.0) in
    (eqb-true c 95 both.0, both.1)

rest_fits : (b : Base) (c : ℕ) (run : List ℕ) → digits_fit b (c ∷ run) ≡ true → digits_fit b run ≡ true
rest_fits b c run fit = (and_parts (is_digit c (radix b) || ((c == 95) && begins_digit b run)) (digits_fit b run) fit).1

digits : (b : Base) (c : ℕ) (run : List ℕ) → is_digit c (radix b) ≡ true → digits_fit b run ≡ true → AreDigits (radix b) (c ∷ run)
digits b c [] is fit = one is
digits b c (d ∷ []) is fit =
    elim (cases_Bool (is_digit d (radix b))) [
      | inl digit ↦ next is (one digit)
      | inr other ↦ (let found = digit_or_mark b d [] fit other in absurd (cc found.1))
    ]
digits b c (d ∷ e ∷ run) is fit =
    elim (cases_Bool (is_digit d (radix b))) [
      | inl digit ↦ next is (digits b d (e ∷ run) digit (rest_fits b d (e ∷ run) fit))
      | inr other ↦ (
          let found = digit_or_mark b d (e ∷ run) fit other in
          let rest = rest_fits b e run (rest_fits b d (e ∷ run) fit) in
          subst (λ (m : ℕ). AreDigits (radix b) (c ∷ m ∷ e ∷ run)) (sym found.0) (marked is (digits b e run found.1 rest)))
    ]

with_mark : (b : Base) (run : List ℕ) → 0 < length run → digits_fit b run ≡ true → AreMarked (radix b) run
with_mark b [] some fit = absurd (omega arith)
with_mark b (c ∷ run) some fit =
    elim (cases_Bool (is_digit c (radix b))) [
      | inl digit ↦ plain (digits b c run digit (rest_fits b c run fit))
      | inr other ↦ after_mark b c run (rest_fits b c run fit) (digit_or_mark b c run fit other)
    ]
  where
    after_mark : (b : Base) (c : ℕ) (run : List ℕ) → digits_fit b run ≡ true → (c ≡ 95) × (begins_digit b run ≡ true) → AreMarked (radix b) (c ∷ run)
    after_mark b c [] fit found = absurd (cc found.1)
    after_mark b c (d ∷ run) fit found = subst (λ (m : ℕ). AreMarked (radix b) (m ∷ d ∷ run)) (sym found.0) (mark (digits b d run found.1 (rest_fits b d run fit)))

-- ---- what a literal is, if it is a token

pub record IsLiteral (b : Base) (front : ℕ) (run : List ℕ) (k : Kind) (n : ℕ) : Type 0 where
  pub some : 0 < length run
  pub fits : digits_fit b run ≡ true
  pub long : front + length run ≡ n

module _ (b : Base) (front : ℕ) (run : List ℕ) (next' : ℕ) (k : Kind) (n : ℕ) where
  abbrev pub If : Piece → Type 0
  If p = p ≡ piece.Token k n → IsLiteral b front run k n

  value_of : (fit : nat_lt 0 (length run) && digits_fit b run ≡ true) (t : Bool) → If (cond t (piece.Token (kind.Number (value b run)) (front + length run)) (piece.Fault fault.NumberTooBig 0))
  value_of fit true is = let parts = and_parts (nat_lt 0 (length run)) (digits_fit b run) fit in record { some = ltb-true 0 (length run) parts.0; fits = parts.1; long = cc is }
  value_of fit false is = absurd (cc is)

  fit_of : (t : Bool) → nat_lt 0 (length run) && digits_fit b run ≡ t
      → If (cond t (cond (nat_lt (value b run) (2 ^ 127)) (piece.Token (kind.Number (value b run)) (front + length run)) (piece.Fault fault.NumberTooBig 0)) (piece.Fault fault.BadNumber 0))
  fit_of true fit = value_of fit (nat_lt (value b run) (2 ^ 127))
  fit_of false fit = λ is. absurd (cc is)

  form_of : (t : Bool)
      → If (cond t (piece.Fault fault.OutOfProfile 0) (cond (nat_lt 0 (length run) && digits_fit b run) (cond (nat_lt (value b run) (2 ^ 127)) (piece.Token (kind.Number (value b run)) (front + length run)) (piece.Fault fault.NumberTooBig 0)) (piece.Fault fault.BadNumber 0)))
  form_of true = λ is. absurd (cc is)
  form_of false = fit_of (nat_lt 0 (length run) && digits_fit b run) refl

  pub literal_of : If (literal b front run next')
  unfolding literal
  literal_of = form_of (begins_other_form next')

-- ---- numbers without a prefix

plain_digits : (c : ℕ) (run : List ℕ) → is_ascii_digit c ≡ true → digits_fit (plain_base (c ∷ run)) (c ∷ run) ≡ true → IsInteger (c ∷ run)
plain_digits c run digit fit = by (c == 48) refl run fit
  where
    ten : (t : Bool) → is_digit c 10 ≡ t → c ≢ 95 → (run' : List ℕ) → digits_fit number_base.Decimal (c ∷ run') ≡ true → is_digit c 10 ≡ true
    ten true is never run' f = is
    ten false is never run' f = absurd (never (digit_or_mark number_base.Decimal c run' f is).0)

    no_mark : c ≡ 95 → ⊥
    no_mark same = let d : is_ascii_digit 95 ≡ true = subst (λ (x : ℕ). is_ascii_digit x ≡ true) same digit in cc d

    no_zero : (c == 48) ≡ false → c ≡ 48 → ⊥
    no_zero is same = let d : (48 == 48) ≡ false = subst (λ (x : ℕ). (x == 48) ≡ false) same is in cc d

    by : (t : Bool) → (c == 48) ≡ t → (run' : List ℕ) → digits_fit (cond (t && nat_lt 1 (length (c ∷ run'))) number_base.Octal number_base.Decimal) (c ∷ run') ≡ true → IsInteger (c ∷ run')
    by true is [] f = subst (λ (x : ℕ). IsInteger (x ∷ [])) (sym (eqb-true c 48 is)) zero_literal
    by true is (d ∷ run') f = subst (λ (x : ℕ). IsInteger (x ∷ d ∷ run')) (sym (eqb-true c 48 is)) (octal (with_mark number_base.Octal (d ∷ run') (omega arith) (rest_fits number_base.Octal c (d ∷ run') (subst (λ (t : Bool). digits_fit (cond (true && t) number_base.Octal number_base.Decimal) (c ∷ d ∷ run') ≡ true) (lt-ltb 1 (length (c ∷ d ∷ run')) (omega arith)) f))))
    by false is run' f = decimal (no_zero is) (digits number_base.Decimal c run' (ten (is_digit c 10) refl no_mark run' f) (rest_fits number_base.Decimal c run' f))

pub plain_is : (rest : List ℕ) (k : Kind) (n : ℕ) → is_ascii_digit (slice_index rest 0) ≡ true → plain_number rest ≡ piece.Token k n → (n ≤ length rest) × IsInteger (take n rest)
plain_is [] k n digit is = absurd (cc digit)
plain_is (c ∷ rest) k n digit is =
    let test : ℕ → Bool = is_digit_or_mark number_base.Decimal in
    let len = prefix_len test (c ∷ rest) in
    let run : List ℕ = take len (c ∷ rest) in
    let found = literal_of (plain_base run) 0 run (slice_index (c ∷ rest) len) k n is in
    let same : len ≡ n = omega (arith, length-prefix_len test (c ∷ rest), found.long) in
    (omega (arith, same, prefix_len-le-length test (c ∷ rest)), subst (λ (m : ℕ). IsInteger (take m (c ∷ rest))) same (of_run len (omega (arith, same, found.long, found.some)) found.fits))
  where
    of_run : (len : ℕ) → 0 < len → digits_fit (plain_base (take len (c ∷ rest))) (take len (c ∷ rest)) ≡ true → IsInteger (take len (c ∷ rest))
    of_run zero some fit = absurd (omega arith)
    of_run (suc len) some fit = plain_digits c (take len rest) digit fit

-- ---- numbers with a prefix

either : (x y : ℕ) (c : ℕ) → ((c == x) || (c == y)) ≡ true → (c ≡ x) ⊎ (c ≡ y)
either x y c is = elim (cases_Bool (c == x)) [
  | inl e ↦ inl (eqb-true c x e)
  | inr e ↦ inr (eqb-true c y (ap (λ (t : Bool). t || (c == y)) (sym e) ∙ is))
]

pub named : (c : ℕ) (b : Base) → base_named c ≡ Some b → Names c (radix b)
named c b is = by ((c == 120) || (c == 88)) ((c == 98) || (c == 66)) ((c == 111) || (c == 79)) refl refl refl is
  where
    by : (x t o : Bool) → ((c == 120) || (c == 88)) ≡ x → ((c == 98) || (c == 66)) ≡ t → ((c == 111) || (c == 79)) ≡ o
        → cond x (Some number_base.Hexadecimal) (cond t (Some number_base.Binary) (cond o (Some number_base.Octal) None)) ≡ Some b → Names c (radix b)
    by true t o sixteen two ei found = let e : number_base.Hexadecimal ≡ b = cc found in subst (λ (d : Base). Names c (radix d)) e (hexadecimal (either 120 88 c sixteen))
    by false true o sixteen two ei found = let e : number_base.Binary ≡ b = cc found in subst (λ (d : Base). Names c (radix d)) e (binary (either 98 66 c two))
    by false false true sixteen two ei found = let e : number_base.Octal ≡ b = cc found in subst (λ (d : Base). Names c (radix d)) e (eight (either 111 79 c ei))
    by false false false sixteen two ei found = absurd (cc found)

pub prefix_named : (rest : List ℕ) (b : Base) → prefix_base rest ≡ Some b → (slice_index rest 0 ≡ 48) × (base_named (slice_index rest 1) ≡ Some b)
prefix_named rest b is = by (slice_index rest 0 == 48) refl is
  where
    by : (t : Bool) → (slice_index rest 0 == 48) ≡ t → cond t (base_named (slice_index rest 1)) None ≡ Some b → (slice_index rest 0 ≡ 48) × (base_named (slice_index rest 1) ≡ Some b)
    by true zero' found = (eqb-true (slice_index rest 0) 48 zero', found)
    by false zero' found = absurd (cc found)

prefixed_from : (c : ℕ) (rest : List ℕ) (b : Base) (k : Kind) (n : ℕ) → base_named c ≡ Some b → prefixed_number b rest ≡ piece.Token k n → (n ≤ length (48 ∷ c ∷ rest)) × IsInteger (take n (48 ∷ c ∷ rest))
prefixed_from c rest b k n name is =
    let test : ℕ → Bool = is_digit_or_mark b in
    let len = prefix_len test rest in
    let run : List ℕ = take len rest in
    let found = literal_of b 2 run (slice_index rest len) k n is in
    let same : suc (suc len) ≡ n = omega (arith, length-prefix_len test rest, found.long) in
    (omega (arith, same, prefix_len-le-length test rest), subst (λ (m : ℕ). IsInteger (take m (48 ∷ c ∷ rest))) same (prefixed (named c b name) (with_mark b run found.some found.fits)))

prefixed_is : (rest : List ℕ) (b : Base) (k : Kind) (n : ℕ) → prefix_base rest ≡ Some b → prefixed_number b (drop 2 rest) ≡ piece.Token k n → (n ≤ length rest) × IsInteger (take n rest)
prefixed_is [] b k n name is = absurd (let p = prefix_named [] b name in cc p.0)
prefixed_is (x ∷ []) b k n name is = absurd (let p = prefix_named (x ∷ []) b name in cc p.1)
prefixed_is (x ∷ c ∷ rest) b k n name is =
    let p = prefix_named (x ∷ c ∷ rest) b name in
    subst (λ (z : ℕ). (n ≤ length (z ∷ c ∷ rest)) × IsInteger (take n (z ∷ c ∷ rest))) (sym p.0) (prefixed_from c rest b k n p.1 is)

pub number_is : (rest : List ℕ) (k : Kind) (n : ℕ) → is_ascii_digit (slice_index rest 0) ≡ true → number_by (prefix_base rest) rest ≡ piece.Token k n → (n ≤ length rest) × IsInteger (take n rest)
number_is rest k n digit is = by (prefix_base rest) refl is
  where
    by : (o : Option Base) → prefix_base rest ≡ o → number_by o rest ≡ piece.Token k n → (n ≤ length rest) × IsInteger (take n rest)
    by None name found = plain_is rest k n digit found
    by (Some b) name found = prefixed_is rest b k n name found
