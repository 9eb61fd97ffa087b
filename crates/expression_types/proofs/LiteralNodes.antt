-- What stands in composite literals and types, of what is known of the parts: the least fault, and what is given.
use Rattle.std.proofs.Common.{◌≡◌, ℕ, ◌+◌, false, List, [], ◌∷◌, ◌++◌, ◌⊎◌, Option, refl, sym, ap, ◌∙◌, subst, append_assoc}
use Rattle.std.specs.Prelude.{option_and_then}
use Rattle.std.proofs.lemmas.List.{map-append}
use Rattle.base.specs.declared.pos.Pos.{Pos}
use Rattle.base.specs.declared.value_type.ValueType.{ValueType}
use Rattle.syntax.specs.declared.expression.Name.{Name}
use Rattle.syntax.specs.declared.expression.Element.{Element}
use Rattle.syntax.specs.declared.expression.Element.TheVariants as written
use Rattle.syntax.specs.FirstBytes.{first_pos}
use Rattle.syntax.specs.Expressions.{Ex as TreeEx, Elements as TreeElements, number, string, name, unary, binary, paren, call, selector, index, slice, array_type, slice_type, literal, elements, element, elements_of}
use Rattle.type_faults.specs.declared.fault.Fault.{Fault}
use Rattle.type_faults.specs.Least.{IsLeast, lesser}
use Rattle.type_faults.specs.Faults.{IsFault}
use Rattle.type_faults.proofs.Leasts.{least_join, leaf}
use Rattle.operators.specs.Operands.{Operand}
use Rattle.names.specs.Scope.{Scope}
use Rattle.operand_parts.specs.declared.literal_values.Placed.{Placed as PlacedData}
use Rattle.operand_parts.specs.ArrayTypes.{length_of, length_fault, array_fault}
use Rattle.operand_parts.specs.Literals.{type_elided, elided, element_part}
use Rattle.operand_parts.specs.LiteralFaults.{elision_fault, ShapeFails}
use Rattle.operand_parts.specs.LiteralValues.{Placed, ElementsFail}
use Rattle.operand_parts.specs.Passing.{placed_of, placeds}
use Rattle.given_values.specs.Given.{operand_in}
use Rattle.expression_types.specs.Typing.{gives, stated_type, placed, element_gives, early_gives}
use Rattle.expression_types.specs.Faults.{Fails, FailsAsOperand, StatedFails, FailsInElements, FailsInLiteral, FailsInElement, FailsEarly}
use Rattle.expression_types.specs.Passing.{key_in, element_value, is_bare, IsLiteralFault}

module _ (text : List ℕ) (s : Scope) where
  -- an element with a type of its own is an expression like others
  pub typed_gives : (t : Option ValueType) (e : TreeEx) → is_bare e ≡ false → element_gives text s t e ≡ gives text s e
  typed_gives t (number at n) is = refl
  typed_gives t (string at behind) is = refl
  typed_gives t (name n) is = refl
  typed_gives t (unary at op e) is = refl
  typed_gives t (binary at op a b) is = refl
  typed_gives t (paren at e) is = refl
  typed_gives t (call g es spread) is = refl
  typed_gives t (selector e at n) is = refl
  typed_gives t (index e at i) is = refl
  typed_gives t (slice e at low high) is = refl
  typed_gives t (array_type at len e) is = refl
  typed_gives t (slice_type at e) is = refl
  typed_gives t (literal e es) is = refl
  typed_gives t (elements at es) is = cc is

  pub typed_least : (t : Option ValueType) (e : TreeEx) (f : Option Fault) → is_bare e ≡ false → IsLeast (FailsAsOperand text s e) f → IsLeast (FailsInElement text s t e) f
  typed_least t (number at n) f is least = least
  typed_least t (string at behind) f is least = least
  typed_least t (name n) f is least = least
  typed_least t (unary at op e) f is least = least
  typed_least t (binary at op a b) f is least = least
  typed_least t (paren at e) f is least = least
  typed_least t (call g es spread) f is least = least
  typed_least t (selector e at n) f is least = least
  typed_least t (index e at i) f is least = least
  typed_least t (slice e at low high) f is least = least
  typed_least t (array_type at len e) f is least = least
  typed_least t (slice_type at e) f is least = least
  typed_least t (literal e es) f is least = least
  typed_least t (elements at es) f is least = cc is

  -- one element after the other
  pub placed_next : (t : Option ValueType) (n : ℕ) (key : Option Name) (e : TreeEx) (rest : TreeElements)
      → placed text s t n (element key e rest) ≡ record { part = element_part text s t n key; at = first_pos e; operand = operand_in (element_gives text s t e) } ∷ placed text s t (1 + n) rest
  placed_next t n key (number at k) rest = refl
  placed_next t n key (string at behind) rest = refl
  placed_next t n key (name m) rest = refl
  placed_next t n key (unary at op e) rest = refl
  placed_next t n key (binary at op a b) rest = refl
  placed_next t n key (paren at e) rest = refl
  placed_next t n key (call g es spread) rest = refl
  placed_next t n key (selector e at m) rest = refl
  placed_next t n key (index e at i) rest = refl
  placed_next t n key (slice e at low high) rest = refl
  placed_next t n key (array_type at len e) rest = refl
  placed_next t n key (slice_type at e) rest = refl
  placed_next t n key (literal e es) rest = refl
  placed_next t n key (elements at es) rest = refl

  pub fails_next : (t : Option ValueType) (key : Option Name) (e : TreeEx) (rest : TreeElements) → FailsInElements text s t (element key e rest) ≡ (λ f. FailsInElement text s t e f ⊎ FailsInElements text s t rest f)
  fails_next t key (number at k) rest = refl
  fails_next t key (string at behind) rest = refl
  fails_next t key (name m) rest = refl
  fails_next t key (unary at op e) rest = refl
  fails_next t key (binary at op a b) rest = refl
  fails_next t key (paren at e) rest = refl
  fails_next t key (call g es spread) rest = refl
  fails_next t key (selector e at m) rest = refl
  fails_next t key (index e at i) rest = refl
  fails_next t key (slice e at low high) rest = refl
  fails_next t key (array_type at len e) rest = refl
  fails_next t key (slice_type at e) rest = refl
  fails_next t key (literal e es) rest = refl
  fails_next t key (elements at es) rest = refl

  -- the elements as they lie in memory
  pub elements_next : (x : Element) (xs : List Element) → elements_of (x ∷ xs) ≡ element (key_in x) (element_value x) (elements_of xs)
  elements_next (written.Plain e) xs = refl
  elements_next (written.Keyed k e) xs = refl

  -- ---- least faults

  pub literal_least : (e : TreeEx) (es : TreeElements) (f g : Option Fault) → IsLeast (StatedFails text s e) f → IsLeast (FailsInLiteral text s (first_pos e) (stated_type text s e) es) g → IsLeast (Fails text s (literal e es)) (lesser f g)
  literal_least e es f g a b = least_join (StatedFails text s e) (FailsInLiteral text s (first_pos e) (stated_type text s e) es) f g a b

  pub elements_least : (first : Pos) (t : Option ValueType) (es : TreeElements) (inside all : Option Fault) → IsLeast (FailsInElements text s t es) inside
      → IsLiteralFault (ShapeFails text s first t es) (ElementsFail (placed text s t 0 es)) inside all → IsLeast (FailsInLiteral text s first t es) all
  elements_least first t es inside all d is =
      let S = ShapeFails text s first t es in
      let E = FailsInElements text s t es in
      let K = ElementsFail (placed text s t 0 es) in
      subst (λ (f : Option Fault). IsLeast (FailsInLiteral text s first t es) f) (sym is.4)
      (least_join (λ f. S f ⊎ E f) K (lesser is.0 inside) is.1 (least_join S E is.0 inside is.2 d) is.3)

  pub elided_least : (at : Pos) (t : Option ValueType) (es : TreeElements) (f : Option Fault) → IsLeast (FailsInLiteral text s at (type_elided (elided s.types t)) es) f
      → IsLeast (FailsInElement text s t (elements at es)) (lesser (elision_fault at (elided s.types t)) f)
  elided_least at t es f d =
      least_join (IsFault (elision_fault at (elided s.types t))) (FailsInLiteral text s at (type_elided (elided s.types t)) es) (elision_fault at (elided s.types t)) f (leaf (elision_fault at (elided s.types t))) d

  pub array_least : (at : Pos) (len e : TreeEx) (f g : Option Fault) (o : Option Operand) (u : Option ValueType) → IsLeast (FailsEarly text s len) f → IsLeast (StatedFails text s e) g
      → o ≡ early_gives text s len → u ≡ stated_type text s e
      → IsLeast (StatedFails text s (array_type at len e)) (lesser (lesser f g) (lesser (length_fault (first_pos len) o) (array_fault s.types at (option_and_then length_of o) u)))
  array_least at len e f g o u a b o_is u_is =
      let R : Option Operand → Option ValueType → Option Fault = λ p v. lesser (length_fault (first_pos len) p) (array_fault s.types at (option_and_then length_of p) v) in
      let W : Option Operand → Option ValueType → Fault → Type 0 =
      λ p v k. (FailsEarly text s len k ⊎ StatedFails text s e k) ⊎ (IsFault (length_fault (first_pos len) p) k ⊎ IsFault (array_fault s.types at (option_and_then length_of p) v) k) in
      let both : IsLeast (W o u) (lesser (lesser f g) (R o u)) =
      least_join (λ k. FailsEarly text s len k ⊎ StatedFails text s e k) (λ k. IsFault (length_fault (first_pos len) o) k ⊎ IsFault (array_fault s.types at (option_and_then length_of o) u) k) (lesser f g) (R o u)
      (least_join (FailsEarly text s len) (StatedFails text s e) f g a b)
      (least_join (IsFault (length_fault (first_pos len) o)) (IsFault (array_fault s.types at (option_and_then length_of o) u)) (length_fault (first_pos len) o) (array_fault s.types at (option_and_then length_of o) u)
      (leaf (length_fault (first_pos len) o)) (leaf (array_fault s.types at (option_and_then length_of o) u))) in
      subst (λ (v : Option ValueType). IsLeast (W (early_gives text s len) v) (lesser (lesser f g) (R o u))) u_is
      (subst (λ (p : Option Operand). IsLeast (W p u) (lesser (lesser f g) (R o u))) o_is both)

-- one more placed element, in front of those to come
pub placed_pushed : (qs : List PlacedData) (q : PlacedData) (r : Placed) (all others : List Placed) → placed_of q ≡ r → all ≡ placeds qs ++ (r ∷ others) → all ≡ placeds (qs ++ q ∷ []) ++ others
placed_pushed qs q r all others same is =
    is ∙ ap (λ (o : Placed). placeds qs ++ (o ∷ others)) (sym same) ∙ sym (append_assoc (placeds qs) (placed_of q ∷ []) others) ∙ ap (λ l. l ++ others) (sym (map-append placed_of qs (q ∷ [])))
