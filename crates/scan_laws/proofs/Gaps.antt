-- A gap at the front of a text is a space or a comment.
use Rattle.std.proofs.Common.{◌≡◌, ℕ, suc, ◌+◌, ◌≤◌, Bool, true, false, cond, List, [], ◌∷◌, ◌++◌, length, take, drop, Option, Some, None, refl, sym, ap, subst, ◌∙◌, take-append-drop, take-take, arith}
use Rattle.std.specs.Prelude.{nat_eq, codes, slice_index, ◌==◌}
use Rattle.std.specs.List.{starts_with, prefix_len, list_all}
use borrow.Author.Tests.{eqb-true}
use lib.Pointwise.{pointwise, bytes_decides}
use Rattle.scan_go.specs.Characters.{is_space, is_within_line}
use Rattle.scan_go.specs.Comments.{comment_end, later}
use Rattle.scan_laws.specs.Forms.{IsLineComment, IsClosed, IsGeneralComment, EndsLine, Skips, closed, later as beyond, nothing, space, line, general}

pub skips-skips : {a b c : List ℕ} → Skips a b → Skips b c → Skips a c
skips-skips nothing s = s
skips-skips (space is r) s = space is (skips-skips r s)
skips-skips (line is ends r) s = line is ends (skips-skips r s)
skips-skips (general is r) s = general is (skips-skips r s)

-- ---- what a text begins with

pub begun : (rest needle : List ℕ) → starts_with nat_eq rest needle ≡ true → take (length needle) rest ≡ needle
begun rest needle is = sym ((bytes_decides needle (take (length needle) rest)).0 is)

pub front : (rest needle : List ℕ) → starts_with nat_eq rest needle ≡ true → needle ++ drop (length needle) rest ≡ rest
front rest needle is = ap (λ (l : List ℕ). l ++ drop (length needle) rest) (sym (begun rest needle is)) ∙ take-append-drop (length needle) rest

begins_take : (rest needle : List ℕ) (n : ℕ) → length needle ≤ n → starts_with nat_eq rest needle ≡ true → starts_with nat_eq (take n rest) needle ≡ true
begins_take rest needle n le is = ap (pointwise nat_eq needle) (take-take (length needle) n rest le) ∙ is

-- ---- spaces

pub space_skips : (rest : List ℕ) → is_space (slice_index rest 0) ≡ true → Skips rest (drop 1 rest)
space_skips [] is = absurd (cc is)
space_skips (b ∷ rest) is = space is nothing

-- ---- line comments

within : (rest : List ℕ) → list_all is_within_line (take (prefix_len is_within_line rest) rest) ≡ true
within [] = refl
within (b ∷ rest) = by (is_within_line b) refl (within rest)
  where
    by : (t : Bool) → is_within_line b ≡ t → list_all is_within_line (take (prefix_len is_within_line rest) rest) ≡ true → list_all is_within_line (take (cond t (1 + prefix_len is_within_line rest) 0) (b ∷ rest)) ≡ true
    by true is all =
        let e : suc (prefix_len is_within_line rest) ≡ 1 + prefix_len is_within_line rest = omega arith in
        subst (λ (k : ℕ). list_all is_within_line (take k (b ∷ rest)) ≡ true) e (rw is all)
    by false is all = refl

newline_of : (t : Bool) → cond t false true ≡ false → t ≡ true
newline_of true is = refl
newline_of false is = absurd (cc is)

ends : (rest : List ℕ) → EndsLine (drop (prefix_len is_within_line rest) rest)
ends [] = tt
ends (b ∷ rest) = by (is_within_line b) refl (ends rest)
  where
    by : (t : Bool) → is_within_line b ≡ t → EndsLine (drop (prefix_len is_within_line rest) rest) → EndsLine (drop (cond t (1 + prefix_len is_within_line rest) 0) (b ∷ rest))
    by true is later =
        let e : suc (prefix_len is_within_line rest) ≡ 1 + prefix_len is_within_line rest = omega arith in
        subst (λ (k : ℕ). EndsLine (drop k (b ∷ rest))) e later
    by false is later = eqb-true b 10 (newline_of (b == 10) is)

two_within : (rest : List ℕ) → 2 ≤ prefix_len is_within_line (codes "//" ++ rest)
two_within rest = omega arith

pub line_skips : (rest : List ℕ) → starts_with nat_eq rest (codes "//") ≡ true → Skips rest (drop (prefix_len is_within_line rest) rest)
line_skips rest is =
    let n = prefix_len is_within_line rest in
    let two : 2 ≤ n = subst (λ (r : List ℕ). 2 ≤ prefix_len is_within_line r) (front rest (codes "//") is) (two_within (drop 2 rest)) in
    let comment : IsLineComment (take n rest) = record { begins = begins_take rest (codes "//") n two is; one_line = within rest } in
    subst (λ (r : List ℕ). Skips r (drop n rest)) (take-append-drop n rest) (line comment (ends rest) nothing)

-- ---- general comments

later_some : (o : Option ℕ) (n : ℕ) → later 1 o ≡ Some n → (m : ℕ) × (o ≡ Some m) × (1 + m ≡ n)
later_some None n is = absurd (cc is)
later_some (Some m) n is = (m, refl, cc is)

some_same : (a b : ℕ) → Some a ≡ Some b → a ≡ b
some_same a b is = cc is

pub closing_end : (rest : List ℕ) (n : ℕ) → comment_end rest ≡ Some n → (2 ≤ n) × IsClosed (take n rest)
unfolding comment_end
closing_end [] n is = absurd (cc is)
closing_end (b ∷ rest) n is = by (starts_with nat_eq (b ∷ rest) (codes "*/")) refl is (closing_end rest)
  where
    by : (t : Bool) → starts_with nat_eq (b ∷ rest) (codes "*/") ≡ t → cond t (Some 2) (later 1 (comment_end rest)) ≡ Some n → ((m : ℕ) → comment_end rest ≡ Some m → (2 ≤ m) × IsClosed (take m rest)) → (2 ≤ n) × IsClosed (take n (b ∷ rest))
    by true starts is rests =
        let two : 2 ≡ n = some_same 2 n is in
        (omega arith, subst (λ (k : ℕ). IsClosed (take k (b ∷ rest))) two (subst IsClosed (sym (begun (b ∷ rest) (codes "*/") starts)) closed))
    by false starts is rests =
        let m = later_some (comment_end rest) n is in
        let after = rests m.0 m.1 in
        let e : suc m.0 ≡ n = omega (arith, m.2) in
        let other : starts_with nat_eq (b ∷ take m.0 rest) (codes "*/") ≡ false =
        ap (pointwise nat_eq (codes "*/")) (take-take 2 (suc m.0) (b ∷ rest) (omega (arith, after.0))) ∙ starts in
        (omega (arith, after.0, m.2), subst (λ (k : ℕ). IsClosed (take k (b ∷ rest))) e (beyond other after.1))

pub general_skips : (rest : List ℕ) (m : ℕ) → starts_with nat_eq rest (codes "/*") ≡ true → comment_end (drop 2 rest) ≡ Some m → Skips rest (drop (2 + m) rest)
general_skips rest m is stops =
    let body : List ℕ = take m (drop 2 rest) in
    let e : suc (suc m) ≡ 2 + m = omega arith in
    let spelled : take (2 + m) rest ≡ codes "/*" ++ body =
    ap (λ (k : ℕ). take k rest) (sym e) ∙ ap (take (suc (suc m))) (sym (front rest (codes "/*") is)) in
    let comment : IsGeneralComment (take (2 + m) rest) = record { body = body; begins = spelled; closed = (closing_end (drop 2 rest) m stops).1 } in
    subst (λ (r : List ℕ). Skips r (drop (2 + m) rest)) (take-append-drop (2 + m) rest) (general comment nothing)
