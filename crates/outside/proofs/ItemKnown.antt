-- What the reader knows of an item is what the item is.
use Rattle.std.proofs.Common.{◌≡◌, ◌⊎◌, inl, inr, ℕ, ◌+◌, ◌-◌, ◌*◌, ◌^◌, ◌≤◌, ◌<◌, Bool, true, false, ltb, leb, ◌&&◌, ◌||◌, List, [], ◌∷◌, ◌++◌, length, Option, Some, None, ℤ, arith, refl, sym, ◌∙◌, length-append}
use Rattle.std.specs.Prelude.{pos, neg_ℤ, nat_lt, nat_le, ◌==◌, if◌then◌else◌}
use Rattle.std.specs.Char.{is_ascii_digit, digit_value}
use Rattle.std.specs.List.{list_all}
use Rattle.std.specs.Str.Parse.{digits_value}
use Rattle.std.proofs.lemmas.Bool.{cases_Bool, lt-ltb, le-ltb, leb-true, leb-false, and_parts, and_cases, and_left}
use Rattle.std.proofs.lemmas.Int.Digits.{digits_value_push}
use Rattle.std.proofs.lemmas.List.Folds.{list_all-append}
use Rattle.std.proofs.lemmas.Str.{digit_value_digit}
use Rattle.outside.specs.Items.{is_negative, magnitude, is_numeral, number_of}
use Rattle.outside.specs.ItemSoFar.{start, grow, push, number_so_far}
use Rattle.outside.specs.declared.item.Item.{Item}

-- of the bytes after a sign
pub record KnowsMagnitude (i : Item) (ds : List ℕ) : Type 0 where
  pub digits : i.good ≡ true → i.digits ≡ nat_lt 0 (length ds)
  pub all : i.good ≡ true → list_all is_ascii_digit ds ≡ true
  pub value : i.good ≡ true → i.value ≡ digits_value 10 ds
  pub bad : i.good ≡ false → (list_all is_ascii_digit ds ≡ false) ⊎ (2 ^ 63 < digits_value 10 ds)

pub record Knows (i : Item) (text : List ℕ) : Type 0 where
  pub any : i.any ≡ nat_lt 0 (length text)
  pub negative : i.negative ≡ is_negative text
  pub magnitude : KnowsMagnitude i (magnitude text)

digit_is : (b : ℕ) → is_ascii_digit b ≡ true → digit_value b ≡ b - 48
digit_is b is = let p = and_parts (leb 48 b) (leb b 57) is in
    omega (arith, digit_value_digit b (leb-true 48 b p.0, leb-true b 57 p.1), leb-true 48 b p.0)

pushed : (ds : List ℕ) (b : ℕ) → digits_value 10 (ds ++ (b ∷ [])) ≡ digits_value 10 ds * 10 + digit_value b
pushed ds b = digits_value_push 10 ds b

some_more : (ds : List ℕ) (b : ℕ) → true ≡ nat_lt 0 (length (ds ++ (b ∷ [])))
some_more ds b = sym (lt-ltb 0 (length (ds ++ (b ∷ []))) (omega (arith, length-append ds (b ∷ []))))

all_more : (ds : List ℕ) (b : ℕ) (s t : Bool) → list_all is_ascii_digit ds ≡ s → is_ascii_digit b ≡ t → list_all is_ascii_digit (ds ++ (b ∷ [])) ≡ (s && (t && true))
all_more ds b s t one two = list_all-append is_ascii_digit ds (b ∷ []) ∙ rw (one, two) refl

-- what was bad stays bad
bad_more : (ds : List ℕ) (b : ℕ) → (list_all is_ascii_digit ds ≡ false) ⊎ (2 ^ 63 < digits_value 10 ds)
    → (list_all is_ascii_digit (ds ++ (b ∷ [])) ≡ false) ⊎ (2 ^ 63 < digits_value 10 (ds ++ (b ∷ [])))
bad_more ds b (inl none) = inl (list_all-append is_ascii_digit ds (b ∷ []) ∙ rw none refl)
bad_more ds b (inr more) = inr (omega (arith, pushed ds b))

other_bad : (ds : List ℕ) (b : ℕ) → is_ascii_digit b ≡ false → list_all is_ascii_digit (ds ++ (b ∷ [])) ≡ false
other_bad ds b other_byte = all_more ds b (list_all is_ascii_digit ds) false refl other_byte ∙ and_right_false (list_all is_ascii_digit ds)
  where
    and_right_false : (s : Bool) → (s && false) ≡ false
    and_right_false true = refl
    and_right_false false = refl

too_large : (ds : List ℕ) (b v : ℕ) → v ≡ digits_value 10 ds → is_ascii_digit b ≡ true → nat_le (10 * v + (b - 48)) (2 ^ 63) ≡ false → 2 ^ 63 < digits_value 10 (ds ++ (b ∷ []))
too_large ds b v same is large = omega (arith, pushed ds b, digit_is b is, leb-false (10 * v + (b - 48)) (2 ^ 63) large)

-- a byte more after the sign
grown : (i : Item) (ds : List ℕ) (b : ℕ) → KnowsMagnitude i ds → KnowsMagnitude (grow i b) (ds ++ (b ∷ []))
grown i ds b k =
    elim (cases_Bool (is_ascii_digit b && nat_le (10 * i.value + (b - 48)) (2 ^ 63))) [
      | inl fits ↦
          let both = and_parts (is_ascii_digit b) (nat_le (10 * i.value + (b - 48)) (2 ^ 63)) fits in
          rw fits (record {
            digits = λ good. some_more ds b;
            all = λ good. all_more ds b true true (k.all good) both.0;
            value = λ good. let v = k.value good in omega (arith, pushed ds b, digit_is b both.0);
            bad = λ worse. bad_more ds b (k.bad worse);
          })
      | inr not_so ↦ rw not_so (record {
        digits = λ good. absurd cc;
        all = λ good. absurd cc;
        value = λ good. absurd cc;
        bad = λ _. elim (cases_Bool i.good) [
          | inl good ↦ elim (and_cases (is_ascii_digit b) (nat_le (10 * i.value + (b - 48)) (2 ^ 63)) not_so) [
            | inl other_byte ↦ inl (other_bad ds b other_byte)
            | inr large ↦ elim (cases_Bool (is_ascii_digit b)) [
              | inl is ↦ inr (too_large ds b i.value (k.value good) is large)
              | inr other_byte ↦ inl (other_bad ds b other_byte)
            ]
          ]
          | inr worse ↦ bad_more ds b (k.bad worse)
        ];
      })
    ]

pub knows_start : Knows start []
knows_start = record {
  any = refl;
  negative = refl;
  magnitude = record { digits = λ _. refl; all = λ _. refl; value = λ _. refl; bad = λ worse. absurd cc };
}

grow_any : (i : Item) (b : ℕ) → (grow i b).any ≡ true
grow_any i b = elim (cases_Bool (is_ascii_digit b && nat_le (10 * i.value + (b - 48)) (2 ^ 63))) [
  | inl is ↦ rw is refl
  | inr is ↦ rw is refl
]

grow_negative : (i : Item) (b : ℕ) → (grow i b).negative ≡ i.negative
grow_negative i b = elim (cases_Bool (is_ascii_digit b && nat_le (10 * i.value + (b - 48)) (2 ^ 63))) [
  | inl is ↦ rw is refl
  | inr is ↦ rw is refl
]

magnitude_more : (c : ℕ) (cs : List ℕ) (b : ℕ) → magnitude ((c ∷ cs) ++ (b ∷ [])) ≡ magnitude (c ∷ cs) ++ (b ∷ [])
magnitude_more c cs b = elim (cases_Bool (c == 45)) [
  | inl is ↦ rw is refl
  | inr is ↦ rw is refl
]

no_magnitude : (b : ℕ) → (b == 45) ≡ true → magnitude (b ∷ []) ≡ []
no_magnitude b is = rw is refl

whole_magnitude : (b : ℕ) → (b == 45) ≡ false → magnitude (b ∷ []) ≡ [] ++ (b ∷ [])
whole_magnitude b is = rw is refl

pub knows_more : (i : Item) (text : List ℕ) (b : ℕ) → Knows i text → Knows (push i b) (text ++ (b ∷ []))
knows_more i [] b k =
    let none : i.any ≡ false = k.any in
    elim (cases_Bool (b == 45)) [
      | inl minus ↦ rw (none, minus) (record {
        any = refl;
        negative = sym minus;
        magnitude = rw (no_magnitude b minus) (record { digits = λ _. refl; all = λ _. refl; value = λ _. refl; bad = λ worse. absurd cc });
      })
      | inr other ↦ rw (none, other) (record {
        any = grow_any i b;
        negative = grow_negative i b ∙ k.negative ∙ sym other;
        magnitude = rw (whole_magnitude b other) (grown i [] b k.magnitude);
      })
    ]
knows_more i (c ∷ cs) b k =
    let some : i.any ≡ true = k.any ∙ lt-ltb 0 (length (c ∷ cs)) (omega arith) in
    rw some (record {
      any = grow_any i b ∙ some_more (c ∷ cs) b;
      negative = grow_negative i b ∙ k.negative;
      magnitude = rw (magnitude_more c cs b) (grown i (magnitude (c ∷ cs)) b k.magnitude);
    })

below_one_more : (v : ℕ) → v ≤ 2 ^ 63 → ltb v (2 ^ 63 + 1) ≡ true
below_one_more v le = lt-ltb v (2 ^ 63 + 1) (omega arith)

-- the number by what is known
number_is : (item : List ℕ) (negative numeral : Bool) (value : ℕ) → is_negative item ≡ negative → is_numeral (magnitude item) ≡ numeral → digits_value 10 (magnitude item) ≡ value
    → number_of item ≡ (if negative then (if numeral && nat_lt value (2 ^ 63 + 1) then Some (neg_ℤ (pos value)) else None) else (if numeral && nat_lt value (2 ^ 63) then Some (pos value) else None))
number_is item negative numeral value n m v = rw (n, m, v) refl

signed : (negative digits : Bool) (value : ℕ) → value ≤ 2 ^ 63
    → (if true && (digits && (negative || nat_lt value (2 ^ 63))) then Some (if negative then neg_ℤ (pos value) else pos value) else None)
    ≡ (if negative then (if digits && nat_lt value (2 ^ 63 + 1) then Some (neg_ℤ (pos value)) else None) else (if digits && nat_lt value (2 ^ 63) then Some (pos value) else None))
signed true true value le = rw (below_one_more value le) refl
signed true false value le = refl
signed false true value le = elim (cases_Bool (ltb value (2 ^ 63))) [
  | inl is ↦ rw is refl
  | inr is ↦ rw is refl
]
signed false false value le = refl

none_if : (negative a b : Bool) (v w : Option ℤ) → a ≡ false → b ≡ false → None ≡ (if negative then (if a then v else None) else (if b then w else None))
none_if true a b v w p q = rw p refl
none_if false a b v w p q = rw q refl

not_numeral : (ds : List ℕ) (t : Bool) → list_all is_ascii_digit ds ≡ false → (is_numeral ds && t) ≡ false
not_numeral ds t other_byte = and_left (is_numeral ds) t (last (nat_lt 0 (length ds)))
  where
    last : (s : Bool) → (s && list_all is_ascii_digit ds) ≡ false
    last true = other_byte
    last false = refl

too_far : (s : Bool) (v n : ℕ) → n ≤ v → (s && nat_lt v n) ≡ false
too_far true v n le = le-ltb v n le
too_far false v n le = refl

numeral_is : (ds : List ℕ) (digits : Bool) → digits ≡ nat_lt 0 (length ds) → list_all is_ascii_digit ds ≡ true → is_numeral ds ≡ digits
numeral_is ds digits some all = rw (all, ← some) (last digits)
  where
    last : (s : Bool) → (s && true) ≡ s
    last true = refl
    last false = refl

pub number_known : (i : Item) (text : List ℕ) → Knows i text → i.value ≤ 2 ^ 63 → number_so_far i ≡ number_of text
number_known i text k small = elim (cases_Bool i.good) [
  | inl good ↦
      let m = k.magnitude in
      rw good (signed i.negative i.digits i.value small ∙ sym (number_is text i.negative i.digits i.value (sym k.negative) (numeral_is (magnitude text) i.digits (m.digits good) (m.all good)) (sym (m.value good))))
  | inr worse ↦
      rw worse (elim (k.magnitude.bad worse) [
        | inl other_byte ↦ none_if (is_negative text) _ _ _ _ (not_numeral (magnitude text) _ other_byte) (not_numeral (magnitude text) _ other_byte)
        | inr far ↦ let v = digits_value 10 (magnitude text) in
            none_if (is_negative text) _ _ _ _ (too_far (is_numeral (magnitude text)) v (2 ^ 63 + 1) (omega arith)) (too_far (is_numeral (magnitude text)) v (2 ^ 63) (omega arith))
      ])
]
