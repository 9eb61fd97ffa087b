-- The character that a text begins with, by its bytes.
use Rattle.std.proofs.Common.{◌≡◌, ℕ, ◌+◌, ◌-◌, ◌*◌, ◌<◌, ◌≤◌, List, [], ◌∷◌, length, get_or, refl, ap, ◌∙◌, arith}
use Rattle.std.specs.Prelude.{slice_index, suc, zero}
use Rattle.std.specs.Str.{chars, chars_after, continuation_len, lead_bits}
use Rattle.std.proofs.lemmas.Bool.{lt-ltb, le-ltb}
use Rattle.scan_go.specs.Characters.{char_at}

one : (c : ℕ) (bs : List ℕ) → slice_index (chars_after 0 c bs) 0 ≡ c
one c [] = refl
one c (b ∷ bs) = refl

two : (c b : ℕ) (bs : List ℕ) → slice_index (chars_after 1 c (b ∷ bs)) 0 ≡ c * 64 + (b - 128)
two c b bs = one (c * 64 + (b - 128)) bs

three : (c b d : ℕ) (bs : List ℕ) → slice_index (chars_after 2 c (b ∷ d ∷ bs)) 0 ≡ (c * 64 + (b - 128)) * 64 + (d - 128)
three c b d bs = two (c * 64 + (b - 128)) d bs

four : (c b d e : ℕ) (bs : List ℕ) → slice_index (chars_after 3 c (b ∷ d ∷ e ∷ bs)) 0 ≡ ((c * 64 + (b - 128)) * 64 + (d - 128)) * 64 + (e - 128)
four c b d e bs = three (c * 64 + (b - 128)) d e bs

ended : (n c : ℕ) (bs : List ℕ) → length bs < n → slice_index (chars_after n c bs) 0 ≡ 0
ended zero c bs short = absurd (omega arith)
ended (suc n) c [] short = refl
ended (suc n) c (b ∷ bs) short = ended n (c * 64 + (b - 128)) bs (omega arith)

by_lead : (a n c : ℕ) (bs : List ℕ) → continuation_len a ≡ n → lead_bits a ≡ c → char_at (a ∷ bs) ≡ slice_index (chars_after n c bs) 0
unfolding chars
by_lead a n c bs len bits = ap (λ (k : ℕ). slice_index (chars_after k (lead_bits a) bs) 0) len ∙ ap (λ (k : ℕ). slice_index (chars_after n k bs) 0) bits

len_one : (a : ℕ) → a < 128 → continuation_len a ≡ 0
len_one a lt = rw (lt-ltb a 128 lt) refl

len_two : (a : ℕ) → 128 ≤ a → a < 224 → continuation_len a ≡ 1
len_two a le lt = rw (le-ltb a 128 le, lt-ltb a 224 lt) refl

len_three : (a : ℕ) → 224 ≤ a → a < 240 → continuation_len a ≡ 2
len_three a le lt = rw (le-ltb a 128 (omega arith), le-ltb a 224 le, lt-ltb a 240 lt) refl

len_four : (a : ℕ) → 240 ≤ a → continuation_len a ≡ 3
len_four a le = rw (le-ltb a 128 (omega arith), le-ltb a 224 (omega arith), le-ltb a 240 le) refl

bits_one : (a : ℕ) → a < 128 → lead_bits a ≡ a
bits_one a lt = rw (lt-ltb a 128 lt) refl

bits_two : (a : ℕ) → 128 ≤ a → a < 224 → lead_bits a ≡ a - 192
bits_two a le lt = rw (le-ltb a 128 le, lt-ltb a 224 lt) refl

bits_three : (a : ℕ) → 224 ≤ a → a < 240 → lead_bits a ≡ a - 224
bits_three a le lt = rw (le-ltb a 128 (omega arith), le-ltb a 224 le, lt-ltb a 240 lt) refl

bits_four : (a : ℕ) → 240 ≤ a → lead_bits a ≡ a - 240
bits_four a le = rw (le-ltb a 128 (omega arith), le-ltb a 224 (omega arith), le-ltb a 240 le) refl

pub of_one : (rest : List ℕ) → 0 < length rest → get_or rest 0 0 < 128 → char_at rest ≡ get_or rest 0 0
of_one [] some lt = absurd (omega arith)
of_one (a ∷ bs) some lt = by_lead a 0 a bs (len_one a lt) (bits_one a lt) ∙ one a bs

pub of_two : (rest : List ℕ) → 2 ≤ length rest → 128 ≤ get_or rest 0 0 → get_or rest 0 0 < 224
    → char_at rest ≡ (get_or rest 0 0 - 192) * 64 + (get_or rest 1 0 - 128)
of_two [] some le lt = absurd (omega arith)
of_two (a ∷ []) some le lt = absurd (omega arith)
of_two (a ∷ b ∷ bs) some le lt = by_lead a 1 (a - 192) (b ∷ bs) (len_two a le lt) (bits_two a le lt) ∙ two (a - 192) b bs

pub of_three : (rest : List ℕ) → 3 ≤ length rest → 224 ≤ get_or rest 0 0 → get_or rest 0 0 < 240
    → char_at rest ≡ ((get_or rest 0 0 - 224) * 64 + (get_or rest 1 0 - 128)) * 64 + (get_or rest 2 0 - 128)
of_three [] some le lt = absurd (omega arith)
of_three (a ∷ []) some le lt = absurd (omega arith)
of_three (a ∷ b ∷ []) some le lt = absurd (omega arith)
of_three (a ∷ b ∷ c ∷ bs) some le lt = by_lead a 2 (a - 224) (b ∷ c ∷ bs) (len_three a le lt) (bits_three a le lt) ∙ three (a - 224) b c bs

pub of_four : (rest : List ℕ) → 4 ≤ length rest → 240 ≤ get_or rest 0 0
    → char_at rest ≡ (((get_or rest 0 0 - 240) * 64 + (get_or rest 1 0 - 128)) * 64 + (get_or rest 2 0 - 128)) * 64 + (get_or rest 3 0 - 128)
of_four [] some le = absurd (omega arith)
of_four (a ∷ []) some le = absurd (omega arith)
of_four (a ∷ b ∷ []) some le = absurd (omega arith)
of_four (a ∷ b ∷ c ∷ []) some le = absurd (omega arith)
of_four (a ∷ b ∷ c ∷ d ∷ bs) some le = by_lead a 3 (a - 240) (b ∷ c ∷ d ∷ bs) (len_four a le) (bits_four a le) ∙ four (a - 240) b c d bs

short_by : (rest : List ℕ) (n : ℕ) → 0 < length rest → length rest ≤ n → continuation_len (get_or rest 0 0) ≡ n → char_at rest ≡ 0
short_by [] n some short len = absurd (omega arith)
short_by (a ∷ bs) n some short len = by_lead a n (lead_bits a) bs len refl ∙ ended n (lead_bits a) bs (omega arith)

pub cut_two : (rest : List ℕ) → 0 < length rest → length rest < 2 → 128 ≤ get_or rest 0 0 → get_or rest 0 0 < 224 → char_at rest ≡ 0
cut_two rest some short le lt = short_by rest 1 some (omega arith) (len_two (get_or rest 0 0) le lt)

pub cut_three : (rest : List ℕ) → 0 < length rest → length rest < 3 → 224 ≤ get_or rest 0 0 → get_or rest 0 0 < 240 → char_at rest ≡ 0
cut_three rest some short le lt = short_by rest 2 some (omega arith) (len_three (get_or rest 0 0) le lt)

pub cut_four : (rest : List ℕ) → 0 < length rest → length rest < 4 → 240 ≤ get_or rest 0 0 → char_at rest ≡ 0
cut_four rest some short le = short_by rest 3 some (omega arith) (len_four (get_or rest 0 0) le)
