-- The elements of literals from one on.
use Rattle.std.proofs.Common.{◌≡◌, ℕ, suc, ◌+◌, ◌<◌, ◌≤◌, List, [], ◌∷◌, ◌++◌, length, get_or, drop, refl, sym, ap, ◌∙◌, subst, arith, true, false, length-append, append_assoc}
use Rattle.std.proofs.Math.Seq.{drop-cons}
use Rattle.isa.specs.declared.instr.Instr.{Instr}
use Rattle.typed.specs.declared.expr.Expr.{Expr}
use Rattle.typed.specs.declared.expr.Element.{Element}
use Rattle.typed.specs.declared.expr.Element.TheVariants as item
use Rattle.typed_syntax.specs.Types.{TypeTree, part_offset, part_type, width}
use Rattle.typed_syntax.specs.Syntax.{Elements, Program, ascend, element, gap_behind, literal, type_named, words_through}
use Rattle.typed.specs.View.{elements_of, ex_of}
use Rattle.expression_code.specs.Temps.{ElementsFitIn, Fits}
use Rattle.isa.specs.declared.instr.MoveEvent.TheVariants.{Silent}
use Rattle.isa.specs.declared.instr.Instr.TheVariants.{Move}
use Rattle.program_code.specs.Code.{Slots, elements_code, ex_code, gap_code, gap_size, size, temp, zeros}
use Rattle.program_code.proofs.Sizes.{length_code, length_gap, length_last}

-- one, and those after it
pub split_elements : (es : List Element) (i : ℕ) (x : Element) (number : ℕ) (e : Expr) → i < length es → x ≡ get_or es i x → x ≡ item.For number e
    → elements_of (drop i es) ≡ element number (ex_of e) (elements_of (drop (i + 1) es))
split_elements es i x number e l is for =
    let one : suc i ≡ i + 1 = omega arith in
    ap elements_of (drop-cons es i x l) ∙ ap (λ (y : Element). elements_of (y ∷ drop (suc i) es)) (sym is ∙ for) ∙ ap (λ j. element number (ex_of e) (elements_of (drop j es))) one

module _ (p : Program) (s : Slots) (t : TypeTree) (es : List Element) (i : ℕ) (x : Element) (number : ℕ) (e : Expr) (l : i < length es) (is : x ≡ get_or es i x) where
  abbrev behind : Elements
  behind = elements_of (drop (i + 1) es)

  pub ordered_fits : (n h : ℕ) → x ≡ item.For number e → ElementsFitIn p s n h t true (elements_of (drop i es))
      → (h + words_through t number + gap_behind t number behind ≤ s.temps) × Fits p s n (h + part_offset t number) (ex_of e) × ElementsFitIn p s n h t true behind
  ordered_fits n h for f = subst (λ (y : Elements). ElementsFitIn p s n h t true y) (split_elements es i x number e l is for) f

  pub moved_fits : (n h : ℕ) → x ≡ item.For number e → ElementsFitIn p s n h t false (elements_of (drop i es))
      → (0 < width (part_type t number)) × (h + part_offset t number + width (part_type t number) ≤ s.temps) × (h + width t + width (part_type t number) ≤ s.temps)
      × Fits p s n (h + width t) (ex_of e) × ElementsFitIn p s n h t false behind
  moved_fits n h for f = subst (λ (y : Elements). ElementsFitIn p s n h t false y) (split_elements es i x number e l is for) f

  pub ordered_emitted : (whole code c1 c2 : List Instr) (rest : List Element) (h place : ℕ) → rest ≡ drop (i + 1) es → place ≡ h + part_offset t number → whole ≡ code ++ elements_code p s t true (elements_of (drop i es)) h (length code)
      → c1 ≡ code ++ ex_code p s (ex_of e) place (length code) → c2 ≡ c1 ++ gap_code (gap_behind t number (elements_of rest)) (temp s (h + words_through t number)) → x ≡ item.For number e
      → whole ≡ c2 ++ elements_code p s t true behind h (length c2)
  ordered_emitted whole code c1 c2 rest h place er ep e0 e1 e2 for =
      let gap = gap_behind t number behind in let zeroed = gap_code gap (temp s (h + words_through t number)) in
      let value = ex_code p s (ex_of e) (h + part_offset t number) (length code) in
      let others : ℕ → List Instr = λ pc. elements_code p s t true behind h pc in
      let end = length code + size p (ex_of e) + gap_size gap in
      let f1 : c1 ≡ code ++ value = e1 ∙ ap (λ k. code ++ ex_code p s (ex_of e) k (length code)) ep in
      let f2 : c2 ≡ c1 ++ zeroed = e2 ∙ ap (λ xs. c1 ++ gap_code (gap_behind t number (elements_of xs)) (temp s (h + words_through t number))) er in
      let n : end ≡ length c2 =
      omega (arith, ap length f2, length-append c1 zeroed, length_gap gap (temp s (h + words_through t number)), ap length f1, length-append code value, length_code p s (ex_of e) (h + part_offset t number) (length code)) in
      e0 ∙ ap (λ (y : Elements). code ++ elements_code p s t true y h (length code)) (split_elements es i x number e l is for)
      ∙ sym (append_assoc code value (zeroed ++ others end)) ∙ sym (append_assoc (code ++ value) zeroed (others end))
      ∙ ap (λ c. (c ++ zeroed) ++ others end) (sym f1) ∙ ap (λ c. c ++ others end) (sym f2) ∙ ap (λ k. c2 ++ others k) n

  pub moved_emitted : (whole code c1 c2 : List Instr) (h from : ℕ) → from ≡ h + width t → whole ≡ code ++ elements_code p s t false (elements_of (drop i es)) h (length code)
      → c1 ≡ code ++ ex_code p s (ex_of e) from (length code) → c2 ≡ c1 ++ Move Silent (temp s (h + part_offset t number)) (temp s from) (width (part_type t number)) ∷ [] → x ≡ item.For number e
      → whole ≡ c2 ++ elements_code p s t false behind h (length c2)
  moved_emitted whole code c1 c2 h from ef e0 e1 e2 for =
      let move = Move Silent (temp s (h + part_offset t number)) (temp s (h + width t)) (width (part_type t number)) in
      let value = ex_code p s (ex_of e) (h + width t) (length code) in
      let rest : ℕ → List Instr = λ pc. elements_code p s t false behind h pc in
      let end = length code + size p (ex_of e) + 1 in
      let f1 : c1 ≡ code ++ value = e1 ∙ ap (λ k. code ++ ex_code p s (ex_of e) k (length code)) ef in
      let f2 : c2 ≡ c1 ++ move ∷ [] = e2 ∙ ap (λ k. c1 ++ Move Silent (temp s (h + part_offset t number)) (temp s k) (width (part_type t number)) ∷ []) ef in
      let n : end ≡ length c2 = omega (arith, ap length f2, length_last c1 move, ap length f1, length-append code value, length_code p s (ex_of e) (h + width t) (length code)) in
      e0 ∙ ap (λ (y : Elements). code ++ elements_code p s t false y h (length code)) (split_elements es i x number e l is for)
      ∙ sym (append_assoc code value (move ∷ rest end)) ∙ sym (append_assoc (code ++ value) (move ∷ []) (rest end))
      ∙ ap (λ c. (c ++ move ∷ []) ++ rest end) (sym f1) ∙ ap (λ c. c ++ rest end) (sym f2) ∙ ap (λ k. c2 ++ rest k) n

-- a literal: zeros, and its elements
pub literal_emitted : (p : Program) (s : Slots) (old c1 c2 : List Instr) (m : ℕ) (es : Elements) (h : ℕ) → c1 ≡ old ++ zeros (width (type_named p m)) (temp s h) ∷ []
    → c2 ≡ c1 ++ elements_code p s (type_named p m) (ascend es) es h (length c1) → c2 ≡ old ++ ex_code p s (literal m es) h (length old)
literal_emitted p s old c1 c2 m es h e1 e2 =
    let t = type_named p m in let zero = zeros (width t) (temp s h) in
    let rest : ℕ → List Instr = λ pc. elements_code p s t (ascend es) es h pc in
    let n : length c1 ≡ length old + 1 = ap length e1 ∙ length_last old zero in
    e2 ∙ ap (λ pc. c1 ++ rest pc) n ∙ ap (λ c. c ++ rest (length old + 1)) e1 ∙ append_assoc old (zero ∷ []) (rest (length old + 1))

-- the others have their temps
module _ (p : Program) (s : Slots) (t : TypeTree) (es : List Element) (i n h : ℕ) where
  pub ordered_rest : (x : Element) → i < length es → x ≡ get_or es i x → ElementsFitIn p s n h t true (elements_of (drop i es)) → ElementsFitIn p s n h t true (elements_of (drop (i + 1) es))
  ordered_rest (item.For number e) l is f = (ordered_fits p s t es i (item.For number e) number e l is n h refl f).2

  pub moved_rest : (x : Element) → i < length es → x ≡ get_or es i x → ElementsFitIn p s n h t false (elements_of (drop i es)) → ElementsFitIn p s n h t false (elements_of (drop (i + 1) es))
  moved_rest (item.For number e) l is f = (moved_fits p s t es i (item.For number e) number e l is n h refl f).4

-- the parts of an element
abbrev pub number_of : Element → ℕ
number_of (item.For number e) = number

abbrev pub value_of : Element → Expr
value_of (item.For number e) = e

pub whole_is : (x : Element) → x ≡ item.For (number_of x) (value_of x)
whole_is (item.For number e) = refl
