-- The numbers of instructions of operands and of what stands after them.
use Rattle.std.proofs.Common.{◌≡◌, ℕ, ◌+◌, ◌<◌, List, [], ◌∷◌, ◌∙◌, ap, drop, get_or, length, map, arith}
use Rattle.typed.specs.declared.stmt.Left.{Left as LeftData}
use Rattle.typed_syntax.specs.Syntax.{Left, Program, blank, new, to}
use Rattle.typed.specs.View.{left_of}
use Rattle.program_code.specs.Code.{index_round_size, lefts_size, lefts_sized}
use Rattle.program_code.proofs.Sizes.{place_sum, lefts_sum}
use Rattle.codegen.proofs.Emitted.{split_lefts}

pub lefts_total : (p : Program) (ls : List Left) (behind : ℕ) → lefts_sized p ls behind ≡ lefts_sized p ls 0 + behind
lefts_total p ls behind = lefts_sum p ls behind

-- the operands of a left side, and those of the others
sized_first : (p : Program) (l : Left) (ls : List Left) → lefts_sized p (l ∷ ls) 0 ≡ lefts_sized p (l ∷ []) 0 + lefts_sized p ls 0
sized_first p blank ls = omega arith
sized_first p (new site) ls = omega arith
sized_first p (to q) ls = omega (arith, place_sum p q (lefts_sized p ls 0))

pub sized_next : (p : Program) (ls : List LeftData) (i : ℕ) (x : LeftData) → i < length ls → x ≡ get_or ls i x → lefts_sized p (map left_of (drop i ls)) 0 ≡ lefts_sized p (left_of x ∷ []) 0 + lefts_sized p (map left_of (drop (i + 1) ls)) 0
sized_next p ls i x l is = ap (λ y. lefts_sized p y 0) (split_lefts ls i x l is) ∙ sized_first p (left_of x) (map left_of (drop (i + 1) ls))

-- two left sides, one by one
sizes_two : (l r : Left) → lefts_size (l ∷ r ∷ []) ≡ lefts_size (l ∷ []) + lefts_size (r ∷ [])
sizes_two blank r = omega arith
sizes_two (new site) r = omega arith
sizes_two (to q) r = omega arith

sized_two : (p : Program) (l r : Left) (n : ℕ) → lefts_sized p (l ∷ r ∷ []) n ≡ lefts_sized p (l ∷ []) 0 + lefts_sized p (r ∷ []) n
sized_two p blank r n = omega arith
sized_two p (new site) r n = omega arith
sized_two p (to q) r n = omega (arith, place_sum p q (lefts_sized p (r ∷ []) n))

pub pair_sized : (p : Program) (l r : Left) (put : ℕ) → lefts_sized p (l ∷ r ∷ []) (put + lefts_size (l ∷ r ∷ [])) ≡ index_round_size p l + index_round_size p r + put
pair_sized p l r put =
    omega (arith, sized_two p l r (put + lefts_size (l ∷ r ∷ [])), sizes_two l r, lefts_sum p (l ∷ []) (lefts_size (l ∷ [])), lefts_sum p (r ∷ []) (lefts_size (r ∷ [])), lefts_sum p (r ∷ []) (put + lefts_size (l ∷ r ∷ [])))
