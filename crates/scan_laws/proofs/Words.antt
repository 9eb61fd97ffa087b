-- Words end where no letter and no digit follows, and keywords and operators are spelled as their tables say.
use Rattle.std.proofs.Common.{◌≡◌, ℕ, zero, suc, ◌+◌, ◌<◌, ◌≤◌, Bool, true, false, cond, List, [], ◌∷◌, length, take, drop, Option, Some, None, refl, sym, ap, subst, ◌∙◌, inl, inr, arith, length-take-le}
use Rattle.std.specs.Prelude.{find, nat_eq, slice_index, ◌||◌}
use Rattle.std.specs.List.{starts_with}
use Rattle.std.specs.Str.{bytes_eq}
use Rattle.std.proofs.lemmas.Slice.Eq.{bytes_eq-Decides}
use Rattle.scan_go.specs.declared.spelling.Keyword.{Keyword}
use Rattle.scan_go.specs.declared.spelling.Op.{Op}
use Rattle.scan_go.specs.Characters.{char_at, is_continuation, is_letter_or_digit}
use Rattle.scan_go.specs.Spelling.{keyword_spelling, keyword_table, op_spelling, op_table}
use Rattle.scan_go.specs.Words.{goes_on, keyword_of, word_len}
use Rattle.scan_go.specs.Operators.{operator_of, OperatorFits}
use Rattle.scan_go.proofs.LongestOperator.{fits}
use Rattle.scan_laws.specs.Laws.{StopsWord}
use Rattle.scan_laws.proofs.Gaps.{begun}

right_false : (a b : Bool) → (a || b) ≡ false → b ≡ false
right_false true b is = absurd (cc is)
right_false false b is = is

pub word_stops : (rest : List ℕ) → StopsWord (drop (word_len rest) rest)
unfolding word_len goes_on
word_stops [] = inl refl
word_stops (b ∷ rest) = by (goes_on (b ∷ rest)) refl (word_stops rest)
  where
    by : (t : Bool) → goes_on (b ∷ rest) ≡ t → StopsWord (drop (word_len rest) rest) → StopsWord (drop (cond t (1 + word_len rest) 0) (b ∷ rest))
    by true is later =
        let e : suc (word_len rest) ≡ 1 + word_len rest = omega arith in
        subst (λ (k : ℕ). StopsWord (drop k (b ∷ rest))) e later
    by false is later = inr (right_false (is_continuation b) (is_letter_or_digit (char_at (b ∷ rest))) is)

right_true : (a b : Bool) → (a || b) ≡ true → a ≡ false → b ≡ true
right_true true b is other = absurd (cc other)
right_true false b is other = is

pub word_inner : (rest : List ℕ) (k : ℕ) → k < word_len rest → is_continuation (slice_index rest k) ≡ false → is_letter_or_digit (char_at (drop k rest)) ≡ true
unfolding word_len goes_on
word_inner [] k lt other = absurd (omega arith)
word_inner (b ∷ rest) k lt other = by (goes_on (b ∷ rest)) refl k lt other (word_inner rest)
  where
    by : (t : Bool) → goes_on (b ∷ rest) ≡ t → (j : ℕ) → j < cond t (1 + word_len rest) 0 → is_continuation (slice_index (b ∷ rest) j) ≡ false
        → ((i : ℕ) → i < word_len rest → is_continuation (slice_index rest i) ≡ false → is_letter_or_digit (char_at (drop i rest)) ≡ true)
        → is_letter_or_digit (char_at (drop j (b ∷ rest))) ≡ true
    by false is j less out later = absurd (omega arith)
    by true is zero less out later = right_true (is_continuation b) (is_letter_or_digit (char_at (b ∷ rest))) is out
    by true is (suc j) less out later = later j (omega arith) out

pub word_within : (rest : List ℕ) → word_len rest ≤ length rest
unfolding word_len
word_within [] = omega arith
word_within (b ∷ rest) = by (goes_on (b ∷ rest)) (word_within rest)
  where
    by : (t : Bool) → word_len rest ≤ length rest → cond t (1 + word_len rest) 0 ≤ length (b ∷ rest)
    by true le = omega arith
    by false le = omega arith

module _ {X : Type 0} (test : X → Bool) where
  some_same : (x y : X) → Some x ≡ Some y → x ≡ y
  some_same x y is = cc is

  pub found_passes : (xs : List X) (y : X) → find test xs ≡ Some y → test y ≡ true
  found_passes [] y is = absurd (cc is)
  found_passes (x ∷ xs) y is = by (test x) refl is (found_passes xs y)
    where
      by : (t : Bool) → test x ≡ t → cond t (Some x) (find test xs) ≡ Some y → (find test xs ≡ Some y → test y ≡ true) → test y ≡ true
      by true e found others = subst (λ (z : X). test z ≡ true) (some_same x y found) e
      by false e found others = others found

pub keyword_spelled : (word : List ℕ) (k : Keyword) → keyword_of word ≡ Some k → word ≡ keyword_spelling k
keyword_spelled word k is = (bytes_eq-Decides word (keyword_spelling k)).0 (found_passes (λ (j : Keyword). bytes_eq word (keyword_spelling j)) keyword_table k is)

pub operator_spelled : (rest : List ℕ) (x : Op) → operator_of rest ≡ Some x → take (length (op_spelling x)) rest ≡ op_spelling x
operator_spelled rest x is = begun rest (op_spelling x) (found_passes (λ (y : Op). starts_with nat_eq rest (op_spelling y)) op_table x is)

pub operator_within : (rest : List ℕ) (x : Op) → operator_of rest ≡ Some x → length (op_spelling x) ≤ length rest
operator_within rest x is = let f : OperatorFits (length rest) (Some x) = subst (OperatorFits (length rest)) is (fits rest) in f.1
