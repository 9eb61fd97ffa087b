-- Marks of sites add up.
use Rattle.std.proofs.Common.{◌≡◌, ℕ, zero, suc, ◌+◌, ◌==◌, ◌<◌, ◌≤◌, Bool, true, false, ◌||◌, List, [], ◌∷◌, length, drop, get_or, slice_set, refl, sym, ap, ap₂, ◌∙◌, arith}
use Rattle.std.proofs.lemmas.Bool.Decides.{nat_tests}
use Rattle.std.proofs.Math.Seq.{drop-cons}
use Rattle.typed.specs.declared.program.Site.{Site}
use Rattle.taken_addresses.specs.Takes.{among, marked_from, marked}

or_nested : (a b c : Bool) → (a || (b || c)) ≡ ((a || b) || c)
or_nested true b c = refl
or_nested false b c = refl

or_none : (a : Bool) → (a || false) ≡ a
or_none true = refl
or_none false = refl

-- the marks of one number, and then those of more
pub marked_more : (n m : ℕ) (ms : List ℕ) (ss : List Site) → marked_from n ms (marked_from n (m ∷ []) ss) ≡ marked_from n (m ∷ ms) ss
marked_more n m ms [] = refl
marked_more n m ms (s ∷ ss) =
    ap₂ (λ (b : Bool) (rest : List Site). record s { address_taken = b } ∷ rest)
    (ap (λ (b : Bool). (s.address_taken || b) || among n ms) (or_none (m == n)) ∙ sym (or_nested s.address_taken (m == n) (among n ms)))
    (marked_more (suc n) m ms ss)

-- no number, no marks
pub marked_none : (n : ℕ) (ss : List Site) → marked_from n [] ss ≡ ss
marked_none n [] = refl
marked_none n (s ∷ ss) = ap₂ (λ (b : Bool) (rest : List Site). record s { address_taken = b } ∷ rest) (or_none s.address_taken) (marked_none (suc n) ss)

self_number : (n : ℕ) → (n == n) ≡ true
self_number n = grind (arith, nat_tests)

other_number : (m n : ℕ) → m < n → (m == n) ≡ false
other_number m n lt = grind (arith, nat_tests)

later_number : (m n : ℕ) → n < m → (m == n) ≡ false
later_number m n lt = grind (arith, nat_tests)

above : (n k : ℕ) → ((n + suc k) == n) ≡ false
above n k = later_number (n + suc k) n (omega arith)

or_true : (a : Bool) → (a || (true || false)) ≡ true
or_true true = refl
or_true false = refl

-- a number below those of the sites marks none
pub marked_before : (n m : ℕ) (ss : List Site) → m < n → marked_from n (m ∷ []) ss ≡ ss
marked_before n m [] lt = refl
marked_before n m (s ∷ ss) lt =
    ap₂ (λ (b : Bool) (rest : List Site). record s { address_taken = b } ∷ rest)
    (ap (λ (b : Bool). s.address_taken || (b || false)) (other_number m n lt) ∙ or_none s.address_taken)
    (marked_before (suc n) m ss (omega (arith, lt)))

-- the site of a number that is there is marked, and no other
one_from : (n k : ℕ) (ss : List Site) (s : Site) → s ≡ get_or ss k s → k < length ss → slice_set ss k (record s { address_taken = true }) ≡ marked_from n ((n + k) ∷ []) ss
one_from n k [] s is within = absurd (omega (arith, within))
one_from n zero (x ∷ ss) s is within =
    let e : n + 0 ≡ n = omega arith in
    ap₂ (λ (y : Site) (rest : List Site). y ∷ rest)
    (ap (λ (y : Site). record y { address_taken = true }) is
    ∙ ap (λ (b : Bool). record x { address_taken = b }) (sym (ap (λ (b : Bool). x.address_taken || (b || false)) (ap (λ (i : ℕ). i == n) e ∙ self_number n) ∙ or_true x.address_taken)))
    (sym (marked_before (suc n) (n + 0) ss (omega (arith, e))))
one_from n (suc k) (x ∷ ss) s is within =
    let e : suc n + k ≡ n + suc k = omega arith in
    ap₂ (λ (b : Bool) (rest : List Site). record x { address_taken = b } ∷ rest)
    (sym (ap (λ (b : Bool). x.address_taken || (b || false)) (above n k) ∙ or_none x.address_taken))
    (one_from (suc n) k ss s is (omega (arith, within)) ∙ ap (λ (i : ℕ). marked_from (suc n) (i ∷ []) ss) e)

pub marked_one : (k : ℕ) (ss : List Site) (s : Site) → s ≡ get_or ss k s → k < length ss → slice_set ss k (record s { address_taken = true }) ≡ marked (k ∷ []) ss
marked_one k ss s is within =
    let e : 0 + k ≡ k = omega arith in
    one_from 0 k ss s is within ∙ ap (λ (i : ℕ). marked (i ∷ []) ss) e

-- one number of a list after the other
pub marked_next : (numbers : List ℕ) (k d : ℕ) (now next : List Site) → k < length numbers → next ≡ marked (get_or numbers k d ∷ []) now
    → marked (drop (k + 1) numbers) next ≡ marked (drop k numbers) now
marked_next numbers k d now next within is =
    let one : suc k ≡ k + 1 = omega arith in
    let n = get_or numbers k d in
    let here : drop k numbers ≡ n ∷ drop (k + 1) numbers = drop-cons numbers k d within ∙ ap (λ (j : ℕ). n ∷ drop j numbers) one in
    ap (marked (drop (k + 1) numbers)) is ∙ marked_more 0 n (drop (k + 1) numbers) now ∙ ap (λ (l : List ℕ). marked l now) (sym here)

nothing_left : (k : ℕ) (numbers : List ℕ) → length numbers ≤ k → drop k numbers ≡ []
nothing_left zero [] le = refl
nothing_left (suc k) [] le = refl
nothing_left zero (n ∷ ns) le = absurd (omega (arith, le))
nothing_left (suc k) (n ∷ ns) le = nothing_left k ns (omega (arith, le))

pub marked_last : (numbers : List ℕ) (k : ℕ) (now : List Site) → length numbers ≤ k → marked (drop k numbers) now ≡ now
marked_last numbers k now le = ap (λ (l : List ℕ). marked l now) (nothing_left k numbers le) ∙ marked_none 0 now

-- a number past them marks none
pub marked_past : (n m : ℕ) (ss : List Site) → n + length ss ≤ m → marked_from n (m ∷ []) ss ≡ ss
marked_past n m [] le = refl
marked_past n m (s ∷ ss) le =
    ap₂ (λ (b : Bool) (rest : List Site). record s { address_taken = b } ∷ rest)
    (ap (λ (b : Bool). s.address_taken || (b || false)) (later_number m n (omega (arith, le))) ∙ or_none s.address_taken)
    (marked_past (suc n) m ss (omega (arith, le)))
