-- The steps of places from one on, and what they lead to.
use Rattle.std.proofs.Common.{◌≡◌, ℕ, suc, ◌+◌, ◌<◌, ◌≤◌, List, [], ◌∷◌, ◌++◌, length, get_or, drop, refl, sym, ap, ◌∙◌, subst, arith, length-append, append_assoc}
use Rattle.std.proofs.Math.Seq.{drop-cons}
use Rattle.isa.specs.declared.instr.Instr.{Instr}
use Rattle.isa.specs.declared.instr.Instr.TheVariants.{Index}
use Rattle.base.specs.declared.pos.Pos.{Pos}
use Rattle.typed.specs.declared.expr.Expr.{Expr}
use Rattle.typed.specs.declared.expr.Place.{Place}
use Rattle.typed.specs.declared.expr.Step.{Step}
use Rattle.typed.specs.declared.expr.Step.TheVariants as way
use Rattle.typed_syntax.specs.Types.{TypeTree, width, part_type, part_offset}
use Rattle.typed_syntax.specs.Paths.{offset, type_at}
use Rattle.typed.specs.Positions.{position}
use Rattle.typed_syntax.specs.Syntax.{Program, Steps, here, inner, at_index, path_of}
use Rattle.frames.specs.Frames.{steps_far}
use Rattle.typed.specs.View.{ex_of, place_of, steps_of}
use Rattle.expression_code.specs.Parts.{part_number}
use Rattle.expression_code.specs.Temps.{IndicesFit, StepsFitIn}
use Rattle.program_code.specs.Code.{Slots, temp, index_code, index_count, steps_above, steps_code, steps_size, ex_code, place_size, size}
use Rattle.program_code.proofs.Sizes.{length_code, place_sum}

-- one, and those after it
pub split_steps : (steps : List Step) (i : ℕ) (x : Step) → i < length steps → x ≡ get_or steps i x → steps_of (drop i steps) ≡ steps_of (x ∷ drop (i + 1) steps)
split_steps steps i x l is =
    let one : suc i ≡ i + 1 = omega arith in
    ap steps_of (drop-cons steps i x l) ∙ ap (λ (y : Step). steps_of (y ∷ drop (suc i) steps)) (sym is) ∙ ap (λ j. steps_of (x ∷ drop j steps)) one

-- the type of the part that the first step leads to, and what comes after it
type_first : (t : TypeTree) (x : Step) (rest : List Step) → type_at t (path_of (steps_of (x ∷ rest))) ≡ type_at (part_type t (part_number x)) (path_of (steps_of rest))
type_first t (way.Inner i) rest = refl
type_first t (way.Index at e n) rest = refl

offset_first : (t : TypeTree) (x : Step) (rest : List Step) → offset t (path_of (steps_of (x ∷ rest))) ≡ part_offset t (part_number x) + offset (part_type t (part_number x)) (path_of (steps_of rest))
offset_first t (way.Inner i) rest = refl
offset_first t (way.Index at e n) rest = refl

module _ (steps : List Step) (i : ℕ) (x : Step) (l : i < length steps) (is : x ≡ get_or steps i x) where
  abbrev now : Steps
  now = steps_of (drop i steps)

  abbrev behind : Steps
  behind = steps_of (drop (i + 1) steps)

  abbrev rest : List Step
  rest = drop (i + 1) steps

  -- the types of the parts are told by their numbers
  module _ (t next : TypeTree) (leads : next ≡ part_type t (part_number x)) where
    pub type_next : type_at t (path_of now) ≡ type_at next (path_of behind)
    type_next = ap (λ y. type_at t (path_of y)) (split_steps steps i x l is) ∙ type_first t x rest ∙ ap (λ u. type_at u (path_of behind)) (sym leads)

    pub offset_next : offset t (path_of now) ≡ part_offset t (part_number x) + offset next (path_of behind)
    offset_next =
        ap (λ y. offset t (path_of y)) (split_steps steps i x l is) ∙ offset_first t x rest ∙ ap (λ u. part_offset t (part_number x) + offset u (path_of behind)) (sym leads)

    -- a part is as wide as 16 bits can tell where the whole is
    pub indices_next : IndicesFit t now → IndicesFit next behind
    indices_next f = by x leads (subst (IndicesFit t) (split_steps steps i x l is) f)
      where
        by : (y : Step) → next ≡ part_type t (part_number y) → IndicesFit t (steps_of (y ∷ rest)) → IndicesFit next behind
        by (way.Inner k) e g = subst (λ u. IndicesFit u behind) (sym e) g
        by (way.Index at e n) le g = subst (λ u. IndicesFit u behind) (sym le) g.3

  -- a field or an element by its number
  module _ (k : ℕ) (inner_is : x ≡ way.Inner k) where
    inner_split : now ≡ inner k behind
    inner_split = split_steps steps i x l is ∙ ap (λ (y : Step). steps_of (y ∷ rest)) inner_is

    pub far_inner : steps_far now ≡ steps_far behind
    far_inner = ap steps_far inner_split

    pub count_inner : index_count now ≡ index_count behind
    count_inner = ap index_count inner_split

    pub above_inner : (h : ℕ) → steps_above now h ≡ steps_above behind h
    above_inner h = ap (λ y. steps_above y h) inner_split

    pub index_inner : (s : Slots) (t : TypeTree) (first at : ℕ) → index_code s t now first at ≡ index_code s (part_type t k) behind first at
    index_inner s t first at = ap (λ y. index_code s t y first at) inner_split

    pub size_inner : (p : Program) → steps_size p now 0 ≡ steps_size p behind 0
    size_inner p = ap (λ y. steps_size p y 0) inner_split

    pub code_inner : (p : Program) (s : Slots) (h pc : ℕ) → steps_code p s now h pc ≡ steps_code p s behind h pc
    code_inner p s h pc = ap (λ y. steps_code p s y h pc) inner_split

    pub fits_inner : (p : Program) (s : Slots) (n h : ℕ) → StepsFitIn p s n h now → StepsFitIn p s n h behind
    fits_inner p s n h f = subst (StepsFitIn p s n h) inner_split f

  -- an index that is worked out
  module _ (at_pos : Pos) (e : Expr) (n : ℕ) (index_is : x ≡ way.Index at_pos e n) where
    index_split : now ≡ at_index (position at_pos) (ex_of e) n behind
    index_split = split_steps steps i x l is ∙ ap (λ (y : Step). steps_of (y ∷ rest)) index_is

    pub far_index : steps_far now ≡ 1
    far_index = ap steps_far index_split

    pub count_index : index_count now ≡ suc (index_count behind)
    count_index = ap index_count index_split

    pub above_index : (h : ℕ) → steps_above now h ≡ steps_above behind (h + 1)
    above_index h = ap (λ y. steps_above y h) index_split

    pub indices_index : (t : TypeTree) → IndicesFit t now → (0 < n) × (n ≤ width t) × (0 < width (part_type t 0)) × IndicesFit (part_type t 0) behind
    indices_index t f = subst (IndicesFit t) index_split f

    pub index_index : (s : Slots) (t : TypeTree) (first at : ℕ)
        → index_code s t now first at ≡ Index (temp s at) (temp s at) (temp s first) n (width (part_type t 0)) ∷ index_code s (part_type t 0) behind (first + 1) at
    index_index s t first at = ap (λ y. index_code s t y first at) index_split

    pub index_emitted : (s : Slots) (t u : TypeTree) (whole code more : List Instr) (first at a c w : ℕ) → a ≡ temp s at → c ≡ temp s first → w ≡ width (part_type t 0) → u ≡ part_type t 0 → whole ≡ code ++ index_code s t now first at
        → more ≡ code ++ Index a a c n w ∷ [] → whole ≡ more ++ index_code s u behind (first + 1) at
    index_emitted s t u whole code more first at a c w ea ec ew eu e1 e2 =
        let one = Index (temp s at) (temp s at) (temp s first) n (width (part_type t 0)) in
        let rest = index_code s (part_type t 0) behind (first + 1) at in
        let f2 : more ≡ code ++ one ∷ [] =
        e2 ∙ ap (λ k. code ++ Index k k c n w ∷ []) ea ∙ ap (λ k. code ++ Index (temp s at) (temp s at) k n w ∷ []) ec ∙ ap (λ k. code ++ Index (temp s at) (temp s at) (temp s first) n k ∷ []) ew in
        e1 ∙ ap (λ y. code ++ y) (index_index s t first at) ∙ sym (append_assoc code (one ∷ []) rest) ∙ ap (λ l. l ++ rest) (sym f2) ∙ ap (λ (v : TypeTree). more ++ index_code s v behind (first + 1) at) (sym eu)

    pub size_index : (p : Program) → steps_size p now 0 ≡ size p (ex_of e) + steps_size p behind 0
    size_index p = ap (λ y. steps_size p y 0) index_split

    pub fits_index : (p : Program) (s : Slots) (m h : ℕ) → StepsFitIn p s m h now → (h < s.temps) × StepsFitIn p s m h (at_index (position at_pos) (ex_of e) n behind)
    fits_index p s m h f = let g = subst (StepsFitIn p s m h) index_split f in (g.0, g)

    pub step_emitted : (p : Program) (s : Slots) (whole code more : List Instr) (h : ℕ) → whole ≡ code ++ steps_code p s now h (length code) → more ≡ code ++ ex_code p s (ex_of e) h (length code)
        → whole ≡ more ++ steps_code p s behind (h + 1) (length more)
    step_emitted p s whole code more h e1 e2 =
        let ce = ex_code p s (ex_of e) h (length code) in
        let m : length code + size p (ex_of e) ≡ length more = omega (arith, length-append code ce, length_code p s (ex_of e) h (length code), ap length e2) in
        e1 ∙ ap (λ y. code ++ steps_code p s y h (length code)) index_split ∙ sym (append_assoc code ce (steps_code p s behind (h + 1) (length code + size p (ex_of e))))
        ∙ ap (λ place. (code ++ ce) ++ steps_code p s behind (h + 1) place) m ∙ ap (λ c. c ++ steps_code p s behind (h + 1) (length more)) (sym e2)

-- operands only go up
pub above_least : (h : ℕ) (steps : Steps) → h ≤ steps_above steps h
above_least h here = omega arith
above_least h (inner i steps) = above_least h steps
above_least h (at_index at e n steps) = let k = above_least (h + 1) steps in omega arith

-- the operands of a place, and some after them
pub place_total : (p : Program) (q : Place) (behind : ℕ) → place_size p (place_of q) behind ≡ place_size p (place_of q) 0 + behind
place_total p q behind = place_sum p (place_of q) behind
