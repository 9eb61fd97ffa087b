-- What the matches of a command give.
use Rattle.std.proofs.Common.{◌≡◌, refl, sym, ap, ℕ, ◌<◌, ◌^◌, ◌&&◌, Bool, true, false, List, [], ◌∷◌, length, Option, Some, None, Result, Ok, Err, true≢false, lt-ltb, ltb-true}
use Rattle.std.specs.Prelude.{option_map, nat_lt}
use Rattle.std.specs.Option.{unwrap_or}
use Rattle.std.specs.List.{list_all}
use Rattle.std.specs.Borrow.{Bor}
use Rattle.std.specs.Char.{digit_value}
use Rattle.std.specs.Str.Parse.{AllDigits, IsNumeral, ParsesUnsigned, digits_value, without_leading_plus}
use Rattle.clap.specs.Words.{Row, Text, ReadsOne}
use Rattle.gostk.specs.Words.{rows_in, number_of}

pub rows_here : (o : Option (Text × List Row)) (rows : List Row) → Some rows ≡ option_map (λ p. p.1) o → rows ≡ rows_in o
rows_here None rows e = cc
rows_here (Some p) rows e = cc

pub no_rows : (o : Option (Text × List Row)) → None ≡ option_map (λ (p : Text × List Row). p.1) o → [] ≡ rows_in o
no_rows None e = refl
no_rows (Some p) e = cc

digits_pass : (ds : List ℕ) → AllDigits 10 ds → list_all (λ d. nat_lt (digit_value d) 10) ds ≡ true
digits_pass [] h = refl
digits_pass (d ∷ ds) h = rw (lt-ltb (digit_value d) 10 h.0) (digits_pass ds h.1)

both : (a b : Bool) → (a && b) ≡ true → (a ≡ true) × (b ≡ true)
both true b e = (refl, e)
both false b e = absurd (true≢false (sym e))

digits_from : (ds : List ℕ) → list_all (λ d. nat_lt (digit_value d) 10) ds ≡ true → AllDigits 10 ds
digits_from [] e = tt
digits_from (d ∷ ds) e =
    let parts = both _ _ e in
    (ltb-true _ _ parts.0, digits_from ds parts.1)

abbrev is_number : List ℕ → Bool
is_number ds = nat_lt 0 (length ds) && list_all (λ d. nat_lt (digit_value d) 10) ds && nat_lt (digits_value 10 ds) (2 ^ 64)

value_of_text : (E : Type 0) (default : ℕ) (text : Text) (n : ℕ) → ParsesUnsigned {E = E} 64 10 text (Ok n) → n ≡ number_of default (Some text)
value_of_text E default text n h =
    let ds = without_leading_plus text in
    rw (lt-ltb 0 (length ds) h.0.0.0, digits_pass ds h.0.0.1, lt-ltb (digits_value 10 ds) (2 ^ 64) h.0.1) h.1

no_number : (default : ℕ) (text : Text) (b : Bool) → is_number (without_leading_plus text) ≡ b
    → (IsNumeral 10 (without_leading_plus text) × (digits_value 10 (without_leading_plus text) < 2 ^ 64) → ⊥) → default ≡ number_of default (Some text)
no_number default text false t no_numeral = rw t refl
no_number default text true t no_numeral =
    let outer = both _ _ t in
    let inner = both _ _ outer.0 in
    absurd (no_numeral ((ltb-true _ _ inner.0, digits_from (without_leading_plus text) inner.1), ltb-true _ _ outer.1))

module _ {E : Type 0} (gives : List ℕ → Result ℕ E → Type 0) (weak : (bs : List ℕ) (r : Result ℕ E) → gives bs r → ParsesUnsigned 64 10 bs r) where
  read_here : (default : ℕ) (text : Text) (r : Option ℕ) → ReadsOne gives text r → unwrap_or r default ≡ number_of default (Some text)
  read_here default text (Some n) h = value_of_text E default text n (weak text (Ok n) h)
  read_here default text None h = no_number default text (is_number (without_leading_plus text)) refl (weak text (Err h.0) h.1)

  pub number_read : (default : ℕ) (o : Option Text) (r : Option ℕ) → (o ≡ None → r ≡ None) → ((text : Text) → o ≡ Some text → ReadsOne gives text r)
      → unwrap_or r default ≡ number_of default o
  number_read default None r none some = ap (λ x. unwrap_or x default) (none refl)
  number_read default (Some text) r none some = read_here default text r (some text refl)

pub now_of : (o : Option (Bor (List ℕ))) (d : Bor (List ℕ)) → (unwrap_or o d).now ≡ unwrap_or (option_map (λ s. s.now) o) d.now
now_of None d = refl
now_of (Some s) d = refl
