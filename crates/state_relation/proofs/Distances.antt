-- Words by their distance from the stack's upper end, which is the same wherever the lower end lies.
use Rattle.std.proofs.Common.{◌≡◌, ◌≢◌, ◌⊎◌, inl, inr, ℕ, zero, suc, ◌+◌, ◌-◌, ◌<◌, ◌≤◌, List, [], ◌∷◌, ◌++◌, length, refl, sym, ap, ◌∙◌, arith, append_assoc, length-append, length-set, get_or-set_same, get_or-set_other}
use Rattle.std.specs.Prelude.{slice_index, slice_set, take, drop, replicate}
use Rattle.std.proofs.lemmas.List.{get_or-take, get_or-drop, get_or_append_left, get_or-append_right, length-take, length-take-le, length-drop, length-replicate, take_at, drop_at, take-append-le, take-take, drop-append-le, drop-take, drop-drop}
use Rattle.machine.specs.Machine.{put_words, words_at, entered}
use Rattle.state_relation.specs.Relation.{word_at}

-- one word among others
pub one_word : (xs : List ℕ) (i : ℕ) → i < length xs → words_at xs i 1 ≡ slice_index xs i ∷ []
one_word [] i l = absurd (omega arith)
one_word (x ∷ xs) zero l = refl
one_word (x ∷ xs) (suc i) l = one_word xs i (omega arith)

-- a word is put where it stands
pub put_own : (xs : List ℕ) (i : ℕ) → put_words xs i (words_at xs i 1) ≡ slice_set xs i (slice_index xs i)
put_own [] zero = refl
put_own [] (suc i) = let e : suc i + 0 ≡ suc i = omega arith in ap (λ n. drop {A = ℕ} n []) e
put_own (x ∷ xs) zero = refl
put_own (x ∷ xs) (suc i) =
    let ws = words_at xs i 1 in let e : suc i + length ws ≡ suc (i + length ws) = omega arith in
    ap (λ n. x ∷ (take i xs ++ (ws ++ drop n (x ∷ xs)))) e ∙ ap (λ zs. x ∷ zs) (put_own xs i)

pub put_one : (xs : List ℕ) (i x : ℕ) → i < length xs → put_words xs i (x ∷ []) ≡ slice_set xs i x
put_one [] i x l = absurd (omega arith)
put_one (y ∷ ys) zero x l = refl
put_one (y ∷ ys) (suc i) x l =
    let e : suc i + 1 ≡ suc (i + 1) = omega arith in
    ap (λ n. y ∷ (take i ys ++ (x ∷ drop n (y ∷ ys)))) e ∙ ap (λ zs. y ∷ zs) (put_one ys i x (omega arith))

-- a slot is counted from the lower end
pub word_slot : (words : List ℕ) (d a : ℕ) → length words ≡ d → a ≤ d → word_at words (d - a) ≡ slice_index words a
word_slot words d a l le = let e : length words - (d - a) ≡ a = omega arith in ap (slice_index words) e

pub word_other : (words : List ℕ) (a x d : ℕ) → length words - d ≢ a → word_at (slice_set words a x) d ≡ word_at words d
word_other words a x d ne =
    ap (λ l. slice_index (slice_set words a x) (l - d)) (length-set words a x) ∙ get_or-set_other words a (length words - d) x 0 ne

pub word_same : (words : List ℕ) (a x d : ℕ) → a < length words → length words - d ≡ a → word_at (slice_set words a x) d ≡ x
word_same words a x d l e =
    ap (λ m. slice_index (slice_set words a x) (m - d)) (length-set words a x) ∙ ap (slice_index (slice_set words a x)) e ∙ get_or-set_same words a x 0 l

-- some words are replaced
pub put_length : (words : List ℕ) (from : ℕ) (put : List ℕ) → from + length put ≤ length words → length (put_words words from put) ≡ length words
put_length words from put le =
    let behind = drop (from + length put) words in
    omega (arith, length-append (take from words) (put ++ behind), length-append put behind, length-take from words, length-drop (from + length put) words)

taken : (words : List ℕ) (from : ℕ) → from ≤ length words → length (take from words) ≡ from
taken words from le = omega (arith, length-take from words)

pub put_in : (words : List ℕ) (from : ℕ) (put : List ℕ) (i : ℕ) → from ≤ length words → i < length put → slice_index (put_words words from put) (from + i) ≡ slice_index put i
put_in words from put i le l =
    let behind = drop (from + length put) words in let e : from + i - from ≡ i = omega arith in
    get_or-append_right (take from words) (put ++ behind) from (from + i) 0 (taken words from le) (omega arith)
    ∙ ap (slice_index (put ++ behind)) e ∙ get_or_append_left put behind 0 i l

pub put_out : (words : List ℕ) (from : ℕ) (put : List ℕ) (i : ℕ) → from ≤ length words → (i < from) ⊎ (from + length put ≤ i) → slice_index (put_words words from put) i ≡ slice_index words i
put_out words from put i le (inl l) =
    let behind = drop (from + length put) words in
    get_or_append_left (take from words) (put ++ behind) 0 i (omega (arith, taken words from le)) ∙ get_or-take from words i 0 l
put_out words from put i le (inr l) =
    let behind = drop (from + length put) words in let e : from + length put + (i - from - length put) ≡ i = omega arith in
    get_or-append_right (take from words) (put ++ behind) from i 0 (taken words from le) (omega arith)
    ∙ get_or-append_right put behind (length put) (i - from) 0 refl (omega arith)
    ∙ get_or-drop (from + length put) words (i - from - length put) 0 ∙ ap (slice_index words) e

pub put_other : (words : List ℕ) (from : ℕ) (put : List ℕ) (d : ℕ) → from + length put ≤ length words → (length words - d < from) ⊎ (from + length put ≤ length words - d) → word_at (put_words words from put) d ≡ word_at words d
put_other words from put d le apart =
    ap (λ l. slice_index (put_words words from put) (l - d)) (put_length words from put le) ∙ put_out words from put (length words - d) (omega arith) apart

pub put_same : (words : List ℕ) (from : ℕ) (put : List ℕ) (i d : ℕ) → from + length put ≤ length words → i < length put → length words - d ≡ from + i → word_at (put_words words from put) d ≡ slice_index put i
put_same words from put i d le l e =
    ap (λ m. slice_index (put_words words from put) (m - d)) (put_length words from put le) ∙ ap (slice_index (put_words words from put)) e ∙ put_in words from put i (omega arith) l

-- some words are replaced twice
pub put_twice : (words : List ℕ) (from : ℕ) (xs ys : List ℕ) → from ≤ length words → length xs ≡ length ys → put_words (put_words words from xs) from ys ≡ put_words words from ys
put_twice words from xs ys le same =
    let front = take from words in let rest = drop (from + length xs) words in
    let long : length front ≡ from = length-take-le from words le in
    let both : length (front ++ xs) ≡ from + length ys = omega (arith, length-append front xs, long, same) in
    let ends : from + length xs ≡ from + length ys = omega (arith, same) in
    ap (λ l. l ++ (ys ++ drop (from + length ys) (front ++ (xs ++ rest)))) (take_at front (xs ++ rest) from long)
    ∙ ap (λ l. front ++ (ys ++ l)) (ap (drop (from + length ys)) (sym (append_assoc front xs rest)) ∙ drop_at (front ++ xs) rest (from + length ys) both)
    ∙ ap (λ n. front ++ (ys ++ drop n words)) ends

-- words below and above those that are replaced
pub read_below : (words : List ℕ) (from n to : ℕ) (put : List ℕ) → from + n ≤ to → to ≤ length words → words_at (put_words words to put) from n ≡ words_at words from n
read_below words from n to put below within =
    let front = take to words in let behind = put ++ drop (to + length put) words in
    let long : length front ≡ to = length-take-le to words within in
    let split : from + (to - from) ≡ to = omega (arith, below) in
    ap (take n) (drop-append-le from front behind (omega (arith, long, below)))
    ∙ take-append-le n (drop from front) behind (omega (arith, length-drop from front, long, below))
    ∙ ap (take n) (ap (λ k. drop from (take k words)) (sym split) ∙ drop-take from (to - from) words)
    ∙ take-take n (to - from) (drop from words) (omega (arith, below))

pub read_above : (words : List ℕ) (from n to : ℕ) (put : List ℕ) → to + length put ≤ from → to ≤ length words → words_at (put_words words to put) from n ≡ words_at words from n
read_above words from n to put above within =
    let front = take to words ++ put in let past = to + length put in let rest = drop past words in
    let long : length front ≡ past = omega (arith, length-append (take to words) put, length-take-le to words within) in
    let on : past + (from - past) ≡ from = omega (arith, above) in
    ap (take n)
    (ap (drop from) (sym (append_assoc (take to words) put rest))
    ∙ ap (λ k. drop k (front ++ rest)) (sym on)
    ∙ sym (drop-drop (from - past) past (front ++ rest))
    ∙ ap (drop (from - past)) (drop_at front rest past long)
    ∙ drop-drop (from - past) past words
    ∙ ap (λ k. drop k words) on)

-- some words are read
pub read_length : (words : List ℕ) (from n : ℕ) → from + n ≤ length words → length (words_at words from n) ≡ n
read_length words from n le = omega (arith, length-take n (drop from words), length-drop from words)

pub read_index : (words : List ℕ) (from n i : ℕ) → i < n → slice_index (words_at words from n) i ≡ slice_index words (from + i)
read_index words from n i l = get_or-take n (drop from words) i 0 l ∙ get_or-drop from words i 0

-- a frame stands below
pub entered_length : (frame link ret : ℕ) (words : List ℕ) → 2 ≤ frame → length (entered frame link ret words) ≡ frame + length words
entered_length frame link ret words le =
    let two : length (link ∷ ret ∷ words) ≡ suc (suc (length words)) = refl in
    omega (arith, two, length-append (replicate (frame - 2) 0) (link ∷ ret ∷ words), length-replicate {A = ℕ} (frame - 2) 0)

entered_at : (frame link ret : ℕ) (words : List ℕ) (i : ℕ) → 2 ≤ frame → slice_index (entered frame link ret words) (frame - 2 + i) ≡ slice_index (link ∷ ret ∷ words) i
entered_at frame link ret words i le =
    let e : frame - 2 + i - (frame - 2) ≡ i = omega arith in
    get_or-append_right (replicate (frame - 2) 0) (link ∷ ret ∷ words) (frame - 2) (frame - 2 + i) 0 (length-replicate {A = ℕ} (frame - 2) 0) (omega arith)
    ∙ ap (slice_index (link ∷ ret ∷ words)) e

entered_word : (frame link ret : ℕ) (words : List ℕ) (d i : ℕ) → 2 ≤ frame → frame + length words - d ≡ frame - 2 + i → word_at (entered frame link ret words) d ≡ slice_index (link ∷ ret ∷ words) i
entered_word frame link ret words d i le e =
    let f : length (entered frame link ret words) - d ≡ frame - 2 + i = omega (arith, entered_length frame link ret words le) in
    ap (slice_index (entered frame link ret words)) f ∙ entered_at frame link ret words i le

pub entered_link : (frame link ret : ℕ) (words : List ℕ) → 2 ≤ frame → word_at (entered frame link ret words) (length words + 2) ≡ link
entered_link frame link ret words le = entered_word frame link ret words (length words + 2) 0 le (omega arith)

pub entered_return : (frame link ret : ℕ) (words : List ℕ) → 2 ≤ frame → word_at (entered frame link ret words) (length words + 1) ≡ ret
entered_return frame link ret words le = entered_word frame link ret words (length words + 1) 1 le (omega arith)

pub entered_keeps : (frame link ret : ℕ) (words : List ℕ) (d : ℕ) → 2 ≤ frame → d ≤ length words → word_at (entered frame link ret words) d ≡ word_at words d
entered_keeps frame link ret words d le l = entered_word frame link ret words d (suc (suc (length words - d))) le (omega arith)

-- the lowest words are taken away
pub dropped_length : (words : List ℕ) (n d : ℕ) → length words ≡ n + d → length (drop n words) ≡ d
dropped_length words n d e = omega (arith, length-drop n words)

pub dropped : (words : List ℕ) (n d : ℕ) → n + d ≤ length words → word_at (drop n words) d ≡ word_at words d
dropped words n d le =
    let e : n + (length (drop n words) - d) ≡ length words - d = omega (arith, length-drop n words) in
    get_or-drop n words (length (drop n words) - d) 0 ∙ ap (slice_index words) e
