-- What turning a list round does to its parts; and the words of a region, which are such a list, after each change of it.
use Rattle.std.proofs.Common.{◌≡◌, ℕ, ◌-◌, ◌<◌, ◌≤◌, ◌++◌, List, [], ◌∷◌, length, take, drop, reverse, replicate, set, get_or, arith, rules, suc, sym, ap, ◌∙◌}
use Rattle.std.proofs.lemmas.List.{places, same_lists, length-reverse, length-drop, reverse-append, append_assoc, take_all, set_split, set-get_or, set_at}
use Rattle.std.proofs.lemmas.Grind.{reverse_onto}

reverse-replicate : {X : Type 0} (n : ℕ) (x : X) → reverse (replicate n x) ≡ replicate n x
reverse-replicate n x = same_lists _ _ (search (rules, places)) (λ k d h. grind (arith, places))

-- the first n, turned round, are the last n of the list turned round
reverse-take : {X : Type 0} (n : ℕ) (xs : List X) → n ≤ length xs → reverse (take n xs) ≡ drop (length xs - n) (reverse xs)
reverse-take n xs h = same_lists _ _ (search (rules, places)) (λ k d l. grind (arith, places))

reverse_at : {X : Type 0} (p q : List X) (x : X) → reverse (p ++ x ∷ q) ≡ reverse q ++ x ∷ reverse p
reverse_at p q x = reverse-append p (x ∷ q) ∙ ap (λ r. r ++ reverse p) (reverse_onto q x []) ∙ append_assoc (reverse q) (x ∷ []) (reverse p)

reverse-set : {X : Type 0} (xs : List X) (i : ℕ) (x : X) → i < length xs → reverse (set xs i x) ≡ set (reverse xs) (length xs - 1 - i) x
reverse-set xs i x h =
    let p = take i xs in
    let q = drop (suc i) xs in
    let y = get_or xs i x in
    let whole : p ++ y ∷ q ≡ xs = sym (set_split xs i y h) ∙ set-get_or xs i x in
    let after : length (reverse q) ≡ length xs - 1 - i = length-reverse q ∙ length-drop (suc i) xs ∙ omega arith in
    let turned : reverse xs ≡ reverse q ++ y ∷ reverse p = ap reverse (sym whole) ∙ reverse_at p q y in
    let here : set (reverse xs) (length xs - 1 - i) x ≡ reverse q ++ x ∷ reverse p = rw turned (set_at (reverse q) y (reverse p) x _ after) in
    ap reverse (set_split xs i x h) ∙ reverse_at p q x ∙ sym here

pub lowered : (hi to : ℕ) (xs : List ℕ) → length xs ≤ hi → to ≤ hi - length xs → reverse (take (hi - to) xs ++ replicate (hi - to - length xs) 0) ≡ replicate (hi - length (reverse xs) - to) 0 ++ reverse xs
lowered hi to xs fits down =
    let all : take (hi - to) xs ≡ xs = take_all _ xs (omega arith) in
    let same : hi - to - length xs ≡ hi - length (reverse xs) - to = omega (arith, length-reverse xs) in
    rw (all, same, reverse-append, reverse-replicate)

pub raised : (hi to : ℕ) (xs : List ℕ) → length xs ≤ hi → hi - length xs ≤ to → to ≤ hi → reverse (take (hi - to) xs) ≡ drop (to - (hi - length (reverse xs))) (reverse xs)
raised hi to xs fits up within =
    let same : to - (hi - length (reverse xs)) ≡ length xs - (hi - to) = omega (arith, length-reverse xs) in
    rw same (reverse-take (hi - to) xs (omega arith))

pub written : (hi at word : ℕ) (xs : List ℕ) → length xs ≤ hi → hi - length xs ≤ at → at < hi → reverse (set xs (hi - 1 - at) word) ≡ set (reverse xs) (at - (hi - length (reverse xs))) word
written hi at word xs fits up within =
    let same : at - (hi - length (reverse xs)) ≡ length xs - 1 - (hi - 1 - at) = omega (arith, length-reverse xs) in
    rw same (reverse-set xs (hi - 1 - at) word (omega arith))
