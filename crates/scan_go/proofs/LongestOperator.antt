-- An operator that was found stands in the text.
use Rattle.std.proofs.Common.{◌≡◌, ℕ, ◌≤◌, Bool, true, false, cond, List, [], ◌∷◌, length, take, Option, Some, ltb, leb, ◌⊎◌, inl, inr, refl, sym, ap, ◌∙◌, arith}
use Rattle.std.specs.Prelude.{find, nat_eq, slice_get, zero, suc, ◌&&◌}
use Rattle.std.proofs.lemmas.Bool.{cases_Bool, leb-true}
use Rattle.std.specs.List.{starts_with}
use Rattle.scan_go.specs.declared.spelling.Op.{Op}
use Rattle.scan_go.specs.declared.spelling.Op.TheVariants as op
use borrow.Author.Tests.{ltb-true}
use lib.Pointwise.{pointwise_long}
use Rattle.std.proofs.lemmas.List.{length-take}
use Rattle.scan_go.specs.Spelling.{op_spelling, op_table}
use Rattle.scan_go.specs.Operators.{operator_of, OperatorFits}

positive : (op : Op) → ltb 0 (length (op_spelling op)) ≡ true
positive op.Plus = refl
positive _ = refl

long : (rest needle : List ℕ) → starts_with nat_eq rest needle ≡ true → length needle ≤ length rest
long rest needle h = omega (arith, pointwise_long nat_eq needle (take (length needle) rest) h, length-take (length needle) rest)

fits_if : (rest : List ℕ) (op : Op) (others : Option Op) (t : Bool) → starts_with nat_eq rest (op_spelling op) ≡ t → OperatorFits (length rest) others → OperatorFits (length rest) (cond t (Some op) others)
fits_if rest op others true h fits = (ltb-true 0 (length (op_spelling op)) (positive op), long rest (op_spelling op) h)
fits_if rest op others false h fits = fits

pub found_fits : (rest : List ℕ) (ops : List Op) → OperatorFits (length rest) (find (λ op. starts_with nat_eq rest (op_spelling op)) ops)
found_fits rest [] = tt
found_fits rest (op ∷ ops) = fits_if rest op (find (λ x. starts_with nat_eq rest (op_spelling x)) ops) (starts_with nat_eq rest (op_spelling op)) refl (found_fits rest ops)

pub fits : (rest : List ℕ) → OperatorFits (length rest) (operator_of rest)
fits rest = found_fits rest op_table

-- ---- no longer operator stands there

size : Op → ℕ
size op = length (op_spelling op)

falls : List Op → Bool
falls [] = true
falls (o ∷ []) = true
falls (o ∷ p ∷ ops) = leb (length (op_spelling p)) (length (op_spelling o)) && falls (p ∷ ops)

table_falls : falls op_table ≡ true
unfolding falls
table_falls = refl

abbrev pub In : Op → List Op → Type 0
In y [] = ⊥
In y (o ∷ ops) = (y ≡ o) ⊎ In y ops

both_true : (a b : Bool) → a && b ≡ true → (a ≡ true) × (b ≡ true)
both_true true b h = (refl, h)
both_true false b h = absurd cc

below_first : (o : Op) (ops : List Op) → falls (o ∷ ops) ≡ true → (y : Op) → In y ops → length (op_spelling y) ≤ length (op_spelling o)
unfolding falls
below_first o [] h y i = absurd i
below_first o (p ∷ ops) h y i =
    let b = both_true (leb (length (op_spelling p)) (length (op_spelling o))) (falls (p ∷ ops)) h in
    let le = leb-true (length (op_spelling p)) (length (op_spelling o)) b.0 in
    elim i [
      | inl is ↦ let e : length (op_spelling y) ≡ length (op_spelling p) = ap (λ (x : Op). length (op_spelling x)) is in omega arith
      | inr j ↦ let k = below_first p ops b.1 y j in omega arith
    ]

tail_falls : (o : Op) (ops : List Op) → falls (o ∷ ops) ≡ true → falls ops ≡ true
unfolding falls
tail_falls o [] h = refl
tail_falls o (p ∷ ops) h = (both_true (leb (length (op_spelling p)) (length (op_spelling o))) (falls (p ∷ ops)) h).1

some_same : (a b : Op) → Some a ≡ Some b → a ≡ b
some_same a b e = cc

first_longest : (rest : List ℕ) (ops : List Op) (x y : Op) → falls ops ≡ true → find (λ o. starts_with nat_eq rest (op_spelling o)) ops ≡ Some x → In y ops → starts_with nat_eq rest (op_spelling y) ≡ true → length (op_spelling y) ≤ length (op_spelling x)
first_longest rest [] x y h found i begins = absurd i
first_longest rest (o ∷ ops) x y h found i begins =
    elim (cases_Bool (starts_with nat_eq rest (op_spelling o))) [
      | inl is ↦
          let same : o ≡ x = some_same o x (rw is at found) in
          let e : length (op_spelling o) ≡ length (op_spelling x) = ap (λ (z : Op). length (op_spelling z)) same in
          elim i [
            | inl same_y ↦ let d : length (op_spelling y) ≡ length (op_spelling o) = ap (λ (z : Op). length (op_spelling z)) same_y in omega arith
            | inr j ↦ let le = below_first o ops h y j in omega arith
          ]
      | inr is ↦
          let later = rw is at found in
          elim i [
            | inl same_y ↦ let b : starts_with nat_eq rest (op_spelling o) ≡ true = ap (λ (z : Op). starts_with nat_eq rest (op_spelling z)) (sym same_y) ∙ begins in absurd (cc (is, b))
            | inr j ↦ first_longest rest ops x y (tail_falls o ops h) later j begins
          ]
    ]

at_index : (y : Op) (ops : List Op) (i : ℕ) → slice_get ops i ≡ Some y → In y ops
at_index y [] i is = absurd cc
at_index y (o ∷ ops) zero is = inl (sym (some_same o y is))
at_index y (o ∷ ops) (suc i) is = inr (at_index y ops i is)

in_table : (y : Op) → In y op_table
in_table op.AndNotAssign = at_index op.AndNotAssign op_table 0 refl
in_table op.ShlAssign = at_index op.ShlAssign op_table 1 refl
in_table op.ShrAssign = at_index op.ShrAssign op_table 2 refl
in_table op.Ellipsis = at_index op.Ellipsis op_table 3 refl
in_table op.AddAssign = at_index op.AddAssign op_table 4 refl
in_table op.AndAssign = at_index op.AndAssign op_table 5 refl
in_table op.LogicalAnd = at_index op.LogicalAnd op_table 6 refl
in_table op.Equal = at_index op.Equal op_table 7 refl
in_table op.NotEqual = at_index op.NotEqual op_table 8 refl
in_table op.SubAssign = at_index op.SubAssign op_table 9 refl
in_table op.OrAssign = at_index op.OrAssign op_table 10 refl
in_table op.LogicalOr = at_index op.LogicalOr op_table 11 refl
in_table op.LessEqual = at_index op.LessEqual op_table 12 refl
in_table op.MulAssign = at_index op.MulAssign op_table 13 refl
in_table op.XorAssign = at_index op.XorAssign op_table 14 refl
in_table op.Arrow = at_index op.Arrow op_table 15 refl
in_table op.GreaterEqual = at_index op.GreaterEqual op_table 16 refl
in_table op.Shl = at_index op.Shl op_table 17 refl
in_table op.DivAssign = at_index op.DivAssign op_table 18 refl
in_table op.Increment = at_index op.Increment op_table 19 refl
in_table op.Define = at_index op.Define op_table 20 refl
in_table op.Shr = at_index op.Shr op_table 21 refl
in_table op.RemAssign = at_index op.RemAssign op_table 22 refl
in_table op.Decrement = at_index op.Decrement op_table 23 refl
in_table op.AndNot = at_index op.AndNot op_table 24 refl
in_table op.Plus = at_index op.Plus op_table 25 refl
in_table op.And = at_index op.And op_table 26 refl
in_table op.LeftParen = at_index op.LeftParen op_table 27 refl
in_table op.RightParen = at_index op.RightParen op_table 28 refl
in_table op.Minus = at_index op.Minus op_table 29 refl
in_table op.Or = at_index op.Or op_table 30 refl
in_table op.Less = at_index op.Less op_table 31 refl
in_table op.LeftBracket = at_index op.LeftBracket op_table 32 refl
in_table op.RightBracket = at_index op.RightBracket op_table 33 refl
in_table op.Star = at_index op.Star op_table 34 refl
in_table op.Xor = at_index op.Xor op_table 35 refl
in_table op.Greater = at_index op.Greater op_table 36 refl
in_table op.LeftBrace = at_index op.LeftBrace op_table 37 refl
in_table op.RightBrace = at_index op.RightBrace op_table 38 refl
in_table op.Slash = at_index op.Slash op_table 39 refl
in_table op.Assign = at_index op.Assign op_table 40 refl
in_table op.Comma = at_index op.Comma op_table 41 refl
in_table op.Semicolon = at_index op.Semicolon op_table 42 refl
in_table op.Percent = at_index op.Percent op_table 43 refl
in_table op.Not = at_index op.Not op_table 44 refl
in_table op.Dot = at_index op.Dot op_table 45 refl
in_table op.Colon = at_index op.Colon op_table 46 refl
in_table op.Tilde = at_index op.Tilde op_table 47 refl

pub longest : (rest : List ℕ) (x y : Op) → operator_of rest ≡ Some x → starts_with nat_eq rest (op_spelling y) ≡ true → length (op_spelling y) ≤ length (op_spelling x)
longest rest x y found begins = first_longest rest op_table x y table_falls found (in_table y) begins
