-- Where a text ends, the expression is whole.
use Rattle.std.proofs.Common.{◌≡◌, ℕ, suc, Bool, List, [], ◌∷◌, inl, inr, Some, None, refl, subst}
use Rattle.syntax.specs.declared.operator.UnOp.TheVariants.{Star}
use Rattle.syntax.specs.Expressions.{Ex, number, string, name, unary, binary, paren, call, selector, index, slice, array_type, slice_type, literal, elements, Bound, no_bound, bound_at}
use Rattle.syntax.specs.Heights.{precedence}
use Rattle.syntax.specs.Lists.{with_ex, with_element}
use Rattle.parse_expressions.specs.declared.terminal.Terminal.{Terminal}
use Rattle.parse_expressions.specs.declared.terminal.Terminal.TheVariants.{RightBracket}
use Rattle.parse_expressions.specs.Grammar.{Mark, inside, ReadsEx, ReadsType, ReadsLiteralType, ReadsBound}
use Rattle.parse_expressions.specs.Frames.{Frame, prefixed, enclosed, awaiting, calling, indexing, bounding, measuring, filling, pointing, of_array, of_slice, enclosed_type, open_depth, allows}
use Rattle.parse_expressions.specs.Machine.{Context, Open, at_operand, at_argument, at_spread, at_call_end, at_bracket, at_type_operand, at_type_end, at_type, at_operator, at_selector, at_index, at_high, at_element, at_value, at_element_end}
use Rattle.parse_expressions.proofs.Growth.{Grows, whole, more}
use Rattle.parse_expressions.proofs.ListEnds.{argument_some, element_some}
use Rattle.parse_expressions.proofs.Following.{level, ArgumentsEnd, ElementsEnd, Over, Close, Have, Wants, Rest}

literal_some : (l : Bool) (d : ℕ) (e : Ex) (rest : List Mark) → ReadsLiteralType l d e [] rest → ⊥
literal_some l d (name x) rest r = cc (r.1)
literal_some l d (array_type pos len e) rest r = cc (r.2)
literal_some l d (slice_type pos e) rest r = cc (r.1)
literal_some l d e rest r = r

reads_some : (l : Bool) (p d : ℕ) (e : Ex) (rest : List Mark) → ReadsEx l p d e [] rest → ⊥
reads_some l p d (number pos n) rest r = cc
reads_some l p d (string pos end) rest r = cc
reads_some l p d (name x) rest r = cc
reads_some l p d (unary pos op e) rest r = cc (r.4)
reads_some l p d (binary pos op a b) rest r = reads_some l (precedence op) d a _ r.2.1
reads_some l p d (paren pos e) rest r = cc (r.1)
reads_some l p d (call f es spread) rest r = reads_some l 7 d f _ r.2.1
reads_some l p d (selector e pos x) rest r = reads_some l 7 d e _ r.1
reads_some l p d (index e pos i) rest r = reads_some l 7 d e _ r.1.1
reads_some l p d (slice e pos low high) rest r = reads_some l 7 d e _ r.2.1
reads_some l p d (array_type pos len e) rest r = cc (r.2)
reads_some l p d (slice_type pos e) rest r = cc (r.1)
reads_some l p d (literal t es) rest r = literal_some l d t _ r.2
reads_some l p d (elements pos es) rest r = cc (r.2)

type_some : (l : Bool) (d : ℕ) (e : Ex) (rest : List Mark) → ReadsType l d e [] rest → ⊥
type_some l d (name x) rest r = cc
type_some l d (unary pos Star e) rest r = cc (r.3)
type_some l d (paren pos e) rest r = cc (r.1)
type_some l d (array_type pos len e) rest r = cc (r.2)
type_some l d (slice_type pos e) rest r = cc (r.1)
type_some l d e rest r = r

bound_some : (l : Bool) (d : ℕ) (bound : Bound) (t : Terminal) (j : ℕ) (w : List Mark) → ReadsBound l d bound [] (inside t j ∷ w) → ⊥
bound_some l d no_bound t j w r = cc
bound_some l d (bound_at e) t j w r = reads_some l 1 d e (inside t j ∷ w) r.1

grown_nil : {l : Bool} {p d : ℕ} {c g : Ex} {ts rest : List Mark} → Grows l p d c ts g rest → ts ≡ [] → rest ≡ []
grown_nil (whole fits) is = is
grown_nil (more t j w small eq made tight grows) is = absurd (cc (eq, is))

module _ (b : Context) (K : Ex → List Mark → Type 0) where
  abbrev SomeEnd : Type 0
  SomeEnd = (e : Ex) × K e []

  close_nil : (fs : List Frame) (e : Ex) (m : List Mark) → m ≡ [] → Close b K fs e m → SomeEnd
  close_nil [] e m is h = (e, subst (λ (ts : List Mark). K e ts) is h.1)
  close_nil (prefixed pos op ∷ fs) e m is h = close_nil fs h.1.whole h.1.rest (grown_nil h.1.grows is) h.1.closes
  close_nil (enclosed pos ∷ fs) e m is h = absurd (cc (is, h.mark))
  close_nil (awaiting a pos op ∷ fs) e m is h = close_nil fs h.1.whole h.1.rest (grown_nil h.1.grows is) h.1.closes
  close_nil (calling f es ∷ fs) e m is h = absurd (argument_some (open_depth b.depth fs) f (with_ex es e) (Over b fs (Close b K fs)) (subst (λ (ts : List Mark). ArgumentsEnd (open_depth b.depth fs) f (with_ex es e) (Over b fs (Close b K fs)) ts) is h))
  close_nil (indexing a pos ∷ fs) e m is h = absurd (elim h.1 [ inl i ↦ cc (is, i.mark) | inr i ↦ cc (is, i.1) ])
  close_nil (bounding a pos low ∷ fs) e m is h = absurd (cc (is, h.1.mark))
  close_nil (measuring pos ∷ fs) e m is h = absurd (cc (is, h.2))
  close_nil (filling c es key ∷ fs) e m is h = absurd (elim h [
    | inl i ↦ element_some (allows b.literals fs) (open_depth b.depth fs) c (with_element es key e) (Over b fs (Close b K fs)) (subst (λ (ts : List Mark). ElementsEnd (allows b.literals fs) (open_depth b.depth fs) c (with_element es key e) (Over b fs (Close b K fs)) ts) is i.1)
    | inr i ↦ cc (is, i.1.colon)
  ])
  close_nil (pointing pos ∷ fs) e m is h = close_nil fs h.whole h.rest (grown_nil h.grows is) h.closes
  close_nil (of_array pos len ∷ fs) e m is h = close_nil fs h.whole h.rest (grown_nil h.grows is) h.closes
  close_nil (of_slice pos ∷ fs) e m is h = close_nil fs h.whole h.rest (grown_nil h.grows is) h.closes
  close_nil (enclosed_type pos ∷ fs) e m is h = absurd (cc (is, h.mark))

  have_nil : (fs : List Frame) (e : Ex) → Have b K fs e [] → SomeEnd
  have_nil fs e h = close_nil fs h.whole h.rest (grown_nil h.grows refl) h.closes

  wants_nil : (fs : List Frame) → Wants b K fs [] → ⊥
  wants_nil fs h = reads_some (allows b.literals fs) (level b fs) (open_depth b.depth fs) h.whole h.rest h.reads

pub unfinished : (b : Context) (K : Ex → List Mark → Type 0) (s : Open) → Rest b K s [] → (e : Ex) × K e []
unfinished b K (at_operand fs) h = absurd (wants_nil b K fs h)
unfinished b K (at_argument fs f es) h = absurd (elim h [ inl i ↦ cc (i.mark) | inr v ↦ wants_nil b K (calling f es ∷ fs) v ])
unfinished b K (at_spread fs f es) h = absurd (elim h.closes [ inl i ↦ cc (i) | inr i ↦ cc (i) ])
unfinished b K (at_call_end fs f es) h = absurd (cc (h.mark))
unfinished b K (at_bracket fs pos) h = absurd (elim h [ inl i ↦ cc (i.1) | inr v ↦ wants_nil b K (measuring pos ∷ fs) v ])
unfinished b K (at_type_operand fs) h = absurd (type_some (allows b.literals fs) (open_depth b.depth fs) h.whole h.rest h.reads)
unfinished b K (at_type_end fs pos e) h = absurd (cc (h.mark))
unfinished b K (at_type fs e) h = have_nil b K fs e h
unfinished b K (at_operator fs e) h = have_nil b K fs e h
unfinished b K (at_selector fs e pos) h = absurd (cc (h.2))
unfinished b K (at_index fs e pos) h = absurd (elim h [ inl i ↦ cc (i.1) | inr v ↦ wants_nil b K (indexing e pos ∷ fs) v ])
unfinished b K (at_high fs e pos low) h = absurd (bound_some (allows b.literals fs) (suc (open_depth b.depth fs)) h.high RightBracket (open_depth b.depth fs) h.rest h.reads)
unfinished b K (at_element fs c es) h = absurd (elim h [ inl i ↦ cc (i.2) | inr v ↦ wants_nil b K (filling c es None ∷ fs) v ])
unfinished b K (at_value fs c es x) h = absurd (wants_nil b K (filling c es (Some x) ∷ fs) h)
unfinished b K (at_element_end fs c es) h = absurd (element_some (allows b.literals fs) (open_depth b.depth fs) c es (Have b K fs) h)
