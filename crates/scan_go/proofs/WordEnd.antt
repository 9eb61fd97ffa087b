-- The end of a word, found from left to right.
use Rattle.std.proofs.Common.{◌≡◌, ℕ, ◌+◌, ◌<◌, ◌≤◌, true, false, List, [], ◌∷◌, length, get_or, drop, refl, sym, ap, ◌∙◌, arith}
use Rattle.std.proofs.lemmas.List.{drop_more, drop_all}
use Rattle.std.proofs.lemmas.Bool.{or_right}
use Rattle.scan_go.specs.Characters.{char_at, is_continuation, is_letter, is_letter_or_digit}
use Rattle.scan_go.specs.Words.{goes_on, word_len}

cons_on : (b : ℕ) (rest : List ℕ) → goes_on (b ∷ rest) ≡ true → word_len (b ∷ rest) ≡ 1 + word_len rest
unfolding word_len
cons_on b rest is = rw is refl

cons_off : (b : ℕ) (rest : List ℕ) → goes_on (b ∷ rest) ≡ false → word_len (b ∷ rest) ≡ 0
unfolding word_len
cons_off b rest is = rw is refl

pub end_later : (rest : List ℕ) (i : ℕ) → i < length rest → goes_on (drop i rest) ≡ true → i + word_len (drop i rest) ≡ (i + 1) + word_len (drop (i + 1) rest)
end_later rest i lt on =
    let e = drop_more rest i 0 lt in
    let more = cons_on (get_or rest i 0) (drop (i + 1) rest) (ap goes_on (sym e) ∙ on) in
    omega (arith, ap word_len e, more)

pub end_here : (rest : List ℕ) (i : ℕ) → i < length rest → goes_on (drop i rest) ≡ false → i + word_len (drop i rest) ≡ i
end_here rest i lt off =
    let e = drop_more rest i 0 lt in
    let none = cons_off (get_or rest i 0) (drop (i + 1) rest) (ap goes_on (sym e) ∙ off) in
    omega (arith, ap word_len e, none)

pub end_nowhere : (rest : List ℕ) (i : ℕ) → length rest ≤ i → word_len (drop i rest) ≡ 0
unfolding word_len
end_nowhere rest i le = rw (drop_all i rest le) refl

pub letter_goes_on : (rest : List ℕ) → 0 < length rest → is_letter (char_at rest) ≡ true → 0 < word_len rest
unfolding goes_on
letter_goes_on [] some is = absurd (omega arith)
letter_goes_on (b ∷ rest) some is =
    let on : goes_on (b ∷ rest) ≡ true = or_right (is_continuation b) (is_letter_or_digit (char_at (b ∷ rest))) (rw is refl) in
    omega (arith, cons_on b rest on)
