-- Lists of words that a block and its frames are made of.
use Rattle.std.proofs.Common.{◌≡◌, ℕ, ◌+◌, ◌-◌, ◌*◌, ◌%◌, ◌^◌, ◌<◌, ◌≤◌, List, [], ◌∷◌, ◌++◌, length, take, drop, replicate, get_or, refl, ap, sym, ◌∙◌, arith, append_assoc}
use Rattle.std.specs.Prelude.{slice_index, slice_set}
use Rattle.std.proofs.Math.Nat.{add-mod-mod}
use Rattle.std.proofs.Math.Seq.{drop-set-add, get_or-drop}
use Rattle.std.proofs.lemmas.List.{take-append-drop, drop-append-le, drop-take, drop-drop, drop_at, drop_more, set_at, set-append_right, length-take-le, length-replicate}
use Rattle.machine.specs.Machine.{put_words, words_at, zeroed, entered}

pub slot_read : (words : List ℕ) (base a : ℕ) → slice_index (drop base words) a ≡ slice_index words (base + a)
slot_read words base a = get_or-drop base words a 0

pub slot_written : (words : List ℕ) (base a word : ℕ) → drop base (slice_set words (base + a) word) ≡ slice_set (drop base words) a word
slot_written words base a word = drop-set-add base words a word

pub slots_read : (words : List ℕ) (base a count : ℕ) → take count (drop (base + a) words) ≡ words_at (drop base words) a count
slots_read words base a count = ap (take count) (sym (drop-drop a base words))

pub element_wraps : (first index w : ℕ) → (first + (index * w) % 2 ^ 64) % 2 ^ 64 ≡ (first + index * w) % 2 ^ 64
element_wraps first index w = add-mod-mod first (index * w) (2 ^ 64)

-- words that are replaced after an index, seen from the index
pub put_behind : (words put : List ℕ) (base from : ℕ) → base + from ≤ length words → drop base (put_words words (base + from) put) ≡ put_words (drop base words) from put
put_behind words put base from room =
    let front : length (take (base + from) words) ≡ base + from = length-take-le (base + from) words room in
    let same : base + from + length put ≡ base + (from + length put) = omega arith in
    let rest : drop (base + from + length put) words ≡ drop (from + length put) (drop base words) =
    ap (λ n. drop n words) same ∙ sym (drop-drop (from + length put) base words) in
    drop-append-le base (take (base + from) words) (put ++ drop (base + from + length put) words) (omega arith)
    ∙ ap (λ l. l ++ (put ++ drop (base + from + length put) words)) (drop-take base from words)
    ∙ ap (λ l. take from (drop base words) ++ (put ++ l)) rest

-- a copy of words after an index, seen from the index
pub copied : (words : List ℕ) (base from to count : ℕ) → base + to ≤ length words
    → drop base (put_words words (base + to) (words_at words (base + from) count)) ≡ put_words (drop base words) to (words_at (drop base words) from count)
copied words base from to count room =
    put_behind words (words_at words (base + from) count) base to room ∙ ap (λ l. put_words (drop base words) to (take count l)) (sym (drop-drop from base words))

-- a copy of one word
pub copied_one : (words : List ℕ) (from to : ℕ) → from < length words → to < length words → slice_set words to (slice_index words from) ≡ put_words words to (words_at words from 1)
copied_one words from to inside room =
    let one : words_at words from 1 ≡ get_or words from 0 ∷ [] = ap (take 1) (drop_more words from 0 inside) in
    let apart : words ≡ take to words ++ (get_or words to 0 ∷ drop (to + 1) words) =
    sym (take-append-drop to words) ∙ ap (λ l. take to words ++ l) (drop_more words to 0 room) in
    ap (λ l. slice_set l to (slice_index words from)) apart
    ∙ set_at (take to words) (get_or words to 0) (drop (to + 1) words) (get_or words from 0) to (length-take-le to words (omega (arith, room)))
    ∙ ap (put_words words to) (sym one)

-- one zero
pub cleared_one : (words : List ℕ) (a : ℕ) → a < length words → slice_set words a 0 ≡ zeroed words a 1
cleared_one words a room =
    let apart : words ≡ take a words ++ (get_or words a 0 ∷ drop (a + 1) words) = sym (take-append-drop a words) ∙ ap (λ l. take a words ++ l) (drop_more words a 0 room) in
    ap (λ l. slice_set l a 0) apart ∙ set_at (take a words) (get_or words a 0) (drop (a + 1) words) 0 a (length-take-le a words (omega (arith, room)))

-- zeros after an index, seen from the index
pub cleared : (words : List ℕ) (base from count : ℕ) → base + from + count ≤ length words
    → drop base (take (base + from) words ++ replicate count 0 ++ drop (base + from + count) words) ≡ zeroed (drop base words) from count
cleared words base from count room =
    let zeros : List ℕ = replicate count 0 in
    let long : length zeros ≡ count = length-replicate count 0 in
    ap (λ l. drop base l) (append_assoc (take (base + from) words) zeros (drop (base + from + count) words)
    ∙ ap (λ n. take (base + from) words ++ (zeros ++ drop (base + from + n) words)) (sym long))
    ∙ put_behind words zeros base from (omega arith)

-- two words after a list of n
set_two : (zeros rest : List ℕ) (x y link ret n m : ℕ) → length zeros ≡ n → m ≡ n + 1
    → slice_set (slice_set (zeros ++ (x ∷ (y ∷ rest))) n link) m ret ≡ zeros ++ (link ∷ (ret ∷ rest))
set_two zeros rest x y link ret n m long next =
    let one = set_at zeros x (y ∷ rest) link n long in
    let two = set-append_right zeros (link ∷ (y ∷ rest)) n m ret long (omega arith) in
    let at : m - n ≡ 1 = omega arith in
    ap (λ l. slice_set l m ret) one ∙ two ∙ ap (λ k. zeros ++ slice_set (link ∷ (y ∷ rest)) k ret) at

-- two words of a list are replaced, one by one
pub put_two : (words : List ℕ) (a x y : ℕ) → a + 2 ≤ length words → slice_set (slice_set words a x) (a + 1) y ≡ put_words words a (x ∷ (y ∷ []))
put_two words a x y room =
    let front = length-take-le a words (omega (arith, room)) in
    let one = drop_more words a 0 (omega (arith, room)) in
    let two = drop_more words (a + 1) 0 (omega (arith, room)) in
    let next : a + 1 + 1 ≡ a + 2 = omega arith in
    let apart : words ≡ take a words ++ (get_or words a 0 ∷ (get_or words (a + 1) 0 ∷ drop (a + 2) words)) =
    sym (take-append-drop a words) ∙ ap (λ l. take a words ++ l) (one ∙ ap (λ l. get_or words a 0 ∷ l) (two ∙ ap (λ n. get_or words (a + 1) 0 ∷ drop n words) next)) in
    ap (λ l. slice_set (slice_set l a x) (a + 1) y) apart
    ∙ set_two (take a words) (drop (a + 2) words) _ _ x y a (a + 1) front refl

-- a frame below an index, seen from its lowest word
pub pushed : (words : List ℕ) (base frame low link ret : ℕ) → 2 ≤ frame → frame ≤ base → base ≤ length words → low ≡ base - frame
    → slice_set (slice_set (zeroed (drop low words) 0 (frame - 2)) (frame - 2) link) (frame - 1) ret ≡ entered frame link ret (drop base words)
pushed words base frame low link ret two room inside is =
    let zeros : List ℕ = replicate (frame - 2) 0 in
    let long : length zeros ≡ frame - 2 = length-replicate (frame - 2) 0 in
    let start : low + (0 + length zeros) ≡ base - 2 = omega arith in
    let next : base - 2 + 1 ≡ base - 1 = omega arith in
    let last : base - 1 + 1 ≡ base = omega arith in
    let one = drop_more words (base - 2) 0 (omega arith) ∙ ap (λ n. get_or words (base - 2) 0 ∷ drop n words) next in
    let more = drop_more words (base - 1) 0 (omega arith) ∙ ap (λ n. get_or words (base - 1) 0 ∷ drop n words) last in
    let below : drop (0 + length zeros) (drop low words) ≡ get_or words (base - 2) 0 ∷ (get_or words (base - 1) 0 ∷ drop base words) =
    drop-drop (0 + length zeros) low words ∙ ap (λ n. drop n words) start ∙ one ∙ ap (λ l. get_or words (base - 2) 0 ∷ l) more in
    ap (λ l. slice_set (slice_set (zeros ++ l) (frame - 2) link) (frame - 1) ret) below
    ∙ set_two zeros (drop base words) _ _ link ret (frame - 2) (frame - 1) long (omega arith)

-- zeros before the used words
pub behind_zeros : (below : ℕ) (used : List ℕ) → drop below (replicate below 0 ++ used) ≡ used
behind_zeros below used = drop_at (replicate below 0) used below (length-replicate below 0)
