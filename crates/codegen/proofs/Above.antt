-- The temps above the operands of left sides, one by one.
use Rattle.std.proofs.Common.{◌≡◌, ℕ, ◌+◌, ◌<◌, ◌≤◌, List, [], ◌∷◌, ◌∙◌, ap, drop, get_or, length, map, refl, sym, arith}
use Rattle.typed.specs.declared.stmt.Left.{Left as LeftData}
use Rattle.typed_syntax.specs.Syntax.{Pl, Left, local, global, indirect, slice_element, blank, new, to}
use Rattle.typed.specs.View.{left_of}
use Rattle.program_code.specs.Code.{lefts_above, place_above}
use Rattle.codegen.proofs.Emitted.{split_lefts}
use Rattle.expression_code.proofs.Steps.{above_least}

place_least : (q : Pl) (h : ℕ) → h ≤ place_above q h
place_least (local site steps) h = above_least h steps
place_least (global g steps) h = above_least h steps
place_least (indirect at e n steps) h = let l = above_least (h + 1) steps in omega (arith, l)
place_least (slice_element at e i n steps) h = let l = above_least (h + 4) steps in omega (arith, l)

-- operands only go up
pub lefts_least : (ls : List Left) (h : ℕ) → h ≤ lefts_above ls h
lefts_least [] h = omega arith
lefts_least (blank ∷ ls) h = lefts_least ls h
lefts_least (new site ∷ ls) h = lefts_least ls h
lefts_least (to q ∷ ls) h = let a = place_least q h in let b = lefts_least ls (place_above q h) in omega (arith, a, b)

-- those of one, and those of the others
pub above_first : (l : Left) (ls : List Left) (h : ℕ) → lefts_above (l ∷ ls) h ≡ lefts_above ls (lefts_above (l ∷ []) h)
above_first blank ls h = refl
above_first (new site) ls h = refl
above_first (to q) ls h = refl

pub above_next : (ls : List LeftData) (i : ℕ) (x : LeftData) (h above : ℕ) → i < length ls → x ≡ get_or ls i x → above ≡ lefts_above (left_of x ∷ []) h
    → lefts_above (map left_of (drop i ls)) h ≡ lefts_above (map left_of (drop (i + 1) ls)) above
above_next ls i x h above l is e =
    ap (λ y. lefts_above y h) (split_lefts ls i x l is) ∙ above_first (left_of x) (map left_of (drop (i + 1) ls)) h ∙ ap (lefts_above (map left_of (drop (i + 1) ls))) (sym e)

pub above_one : (ls : List LeftData) (i : ℕ) (x : LeftData) (h : ℕ) → i < length ls → x ≡ get_or ls i x → lefts_above (left_of x ∷ []) h ≤ lefts_above (map left_of (drop i ls)) h
above_one ls i x h l is =
    let e = ap (λ y. lefts_above y h) (split_lefts ls i x l is) ∙ above_first (left_of x) (map left_of (drop (i + 1) ls)) h in
    let k = lefts_least (map left_of (drop (i + 1) ls)) (lefts_above (left_of x ∷ []) h) in omega (arith, e, k)

-- two
pub above_two : (l r : Left) (h : ℕ) → (lefts_above (l ∷ r ∷ []) h ≡ lefts_above (r ∷ []) (lefts_above (l ∷ []) h)) × (h ≤ lefts_above (l ∷ []) h) × (lefts_above (l ∷ []) h ≤ lefts_above (l ∷ r ∷ []) h)
above_two l r h =
    let e = above_first l (r ∷ []) h in let k = lefts_least (r ∷ []) (lefts_above (l ∷ []) h) in
    (e, lefts_least (l ∷ []) h, omega (arith, e, k))
