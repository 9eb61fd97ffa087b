-- Where every variable has a type, every constant a value and every function a signature, an expression gives something, or a rule fails in it, and never both.
use Rattle.std.proofs.Common.{◌≡◌, ℕ, ◌+◌, ◌^◌, pos, Bool, true, false, cond, List, ◌⊎◌, inl, inr, Option, Some, None, refl, sym, subst, ◌∷◌}
use Rattle.std.specs.Prelude.{option_and_then, nat_lt, not}
use Rattle.std.specs.Option.{option_map}
use Rattle.base.specs.declared.pos.Pos.{Pos}
use Rattle.syntax.specs.declared.operator.UnOp.{UnOp}
use Rattle.syntax.specs.declared.expression.Name.{Name}
use Rattle.syntax.specs.FirstBytes.{first_pos}
use Rattle.syntax.specs.Expressions.{Ex as TreeEx, Exs as TreeExs, number, string, name, unary, binary, paren, call, selector, index, slice, array_type, slice_type, literal, elements, some, Elements as TreeElements, no_elements, element, spelled}
use Rattle.syntax.specs.Expressions as tree
use Rattle.type_faults.specs.declared.fault.Fault.{Fault}
use Rattle.type_faults.specs.declared.fault.FaultKind.TheVariants.{ConstRange, Unfit, OutOfProfile}
use Rattle.constants.specs.declared.constant.Constant.{Constant}
use Rattle.constants.specs.declared.constant.Constant.TheVariants.{Number, Truth}
use Rattle.base.specs.declared.value_type.ValueType.{ValueType}
use Rattle.base.specs.declared.value_type.ValueType.TheVariants.{Int, Bool as Boolean, Struct, Array, Pointer, Slice}
use Rattle.constants.specs.Constants.{untyped}
use Rattle.type_faults.specs.Given.{allowed, both}
use Rattle.type_faults.specs.Faults.{fault, IsFault, FormFails}
use Rattle.type_faults.proofs.Decided.{Decided, further, same, mapped, after, Tested}
use Rattle.type_faults.proofs.Options.{and_then_some, none_some, same_some}
use Rattle.operators.specs.Operands.{Operand, constant, value, nil}
use Rattle.operators.specs.Operators.{has_rules, prefixed, combined}
use Rattle.operators.specs.Faults.{prefix_fault}
use Rattle.operators.proofs.Held.{IsHeld}
use Rattle.operators.proofs.DecidedOperators.{prefix_decided, one_decided, pair_decided}
use Rattle.operand_parts.specs.Parts.{selected, indexed}
use Rattle.operand_parts.specs.PartFaults.{selected_fault, selector_fault, indexed_fault, index_fault}
use Rattle.operand_parts.specs.ArrayTypes.{length_of, length_fault, size_fault, array_fault, array_with}
use Rattle.operand_parts.specs.Literals.{Elision, as_type, refused, unknown, as_literal, elided_in, type_elided, element_part, shape_fits}
use Rattle.operand_parts.specs.LiteralFaults.{elision_fault, TypedShapeFails}
use Rattle.operand_parts.specs.LiteralValues.{Placed, part_values, composed, ElementsFail}
use Rattle.operand_parts.proofs.Known.{element_known}
use Rattle.operand_parts.proofs.DecidedParts.{selected_decided, indexed_decided, length_decided, array_decided, shape_decided, AllParts, parts_there}
use Rattle.operand_parts.proofs.ElementValues.{element_decided, no_elements_decided, more_decided, composed_decided}
use Rattle.typed.specs.Tables.{Table, type_at, number_of}
use Rattle.typed.specs.Formed.{IsFormed}
use Rattle.names.specs.declared.fields.Part.{Part}
use Rattle.names.specs.Types.{is_known, declared_type, known_array, array_type as array_type_in}
use Rattle.names.specs.declared.scope.Declared.{Declared}
use Rattle.names.specs.declared.scope.Declared.TheVariants as declared
use Rattle.names.specs.Scope.{Scope, declaration, known}
use Rattle.names.specs.Naming.{name_in}
use Rattle.names.proofs.Settled.{type_name_decided, IsSettled, declared_typed}
use Rattle.given_values.specs.Given.{Gives, one, prefix_gives, operand_in, parts, spread_over, as_condition, callee, Seen, Callee, printer, panicker, measurer, reader, exiter, function, conversion, no_function, no_spread, no_text_spread, nothing, called_with}
use Rattle.expression_types.specs.Typing.{gives, seen, stated_type, placed, literal_given, condition, test, is_quiet, call_in, early, are_quiet, early_gives}
use Rattle.given_values.specs.GivenFaults.{single_fault, condition_fault, CalleeFails, CallFails}
use Rattle.expression_types.specs.Faults.{WhereTaken, literal_fault, Fails, FailsInEach, StatedFails, FailsInElements, FailsInLiteral, FailsAsOperand, FailsInCondition, FailsInTest, FailsEarly, inner_fault, quiet_fault, early_fault}
use Rattle.expression_types.proofs.Held.{operand_held}
use Rattle.given_values.proofs.DecidedValues.{operand_decided, given_all}
use Rattle.given_values.proofs.DecidedCalls.{condition_value_decided, name_decided, name_held, CalleeIs, callee_value_is, callee_declared_is, spread_is, call_decided}
use Rattle.operand_calls.specs.Calls.{has_call, call_pos}

-- ---- numbers and conditions

literal_decided : (at : Pos) (n : ℕ) → Decided (cond (nat_lt n (2 ^ 127)) (Some (one (constant (untyped (Number (pos n)))))) None) (IsFault (literal_fault at n))
literal_decided at n = by (nat_lt n (2 ^ 127))
  where
    by : (b : Bool) → Decided (cond b (Some (one (constant (untyped (Number (pos n)))))) None) (IsFault (cond b None (Some (fault ConstRange at))))
    by true = λ f h. h
    by false = (_, refl)

-- ---- parts

module _ (text : List ℕ) (s : Scope) where
  selector_decided : (first : Pos) (n : Name) (o : Option Operand) (P : Fault → Type 0) → Decided o P → Decided (option_and_then (selected text s n) o) (λ f. P f ⊎ IsFault (selector_fault text s first n o) f)
  selector_decided first n None P d = (d.0, inl d.1)
  selector_decided first n (Some x) P d = further P (IsFault (selected_fault text s first n x)) (selected text s n x) d (selected_decided text s first n x)

  index_decided : (bracket first : Pos) (a b : Option Operand) (P Q : Fault → Type 0) → Decided a P → Decided b Q → Decided (both (indexed s.types bracket) a b) (λ f. (P f ⊎ Q f) ⊎ IsFault (index_fault s.types first a b) f)
  index_decided bracket first None b P Q p q = (p.0, inl (inl p.1))
  index_decided bracket first (Some x) None P Q p q = (q.0, inl (inr q.1))
  index_decided bracket first (Some x) (Some y) P Q p q =
      further (λ f. P f ⊎ Q f) (IsFault (indexed_fault s.types first x (Some y))) (indexed s.types bracket x y) (λ f h. elim h [ inl u ↦ p f u | inr u ↦ q f u ]) (indexed_decided s.types bracket first x y)

-- ---- calls

-- a call that gives something, or a call in what it doesn't evaluate
quiet_decided : {A : Type 0} (b : Bool) (o : Option A) (P K U : Fault → Type 0) → Tested b U → Decided o (λ f. P f ⊎ K f) → Decided (allowed b o) (λ f. P f ⊎ (K f ⊎ U f))
quiet_decided false o P K U t d = (t.0, inr (inr t.1))
quiet_decided true o P K U t d = same (λ f. P f ⊎ K f) (λ f. P f ⊎ (K f ⊎ U f)) o (λ f h. elim h [ inl p ↦ inl p | inr k ↦ inr (inl k) ]) back d
  where
    back : (f : Fault) → P f ⊎ (K f ⊎ U f) → P f ⊎ K f
    back f (inl p) = inl p
    back f (inr (inl k)) = inr k
    back f (inr (inr u)) = absurd (t f u)

module _ (text : List ℕ) (s : Scope) where
  inner_tested : (e : TreeEx) (o : Option Operand) → Tested (is_quiet o) (IsFault (inner_fault text s e o))
  inner_tested e None = λ f h. h
  inner_tested e (Some (constant c)) = λ f h. h
  inner_tested e (Some nil) = λ f h. h
  inner_tested e (Some (value Int x)) = λ f h. h
  inner_tested e (Some (value Boolean x)) = λ f h. h
  inner_tested e (Some (value (Struct k) x)) = λ f h. h
  inner_tested e (Some (value (Pointer t) x)) = λ f h. h
  inner_tested e (Some (value (Slice t) x)) = λ f h. h
  inner_tested e (Some (value (Array n t) x)) = by (has_call x)
    where
      by : (b : Bool) → Tested (not b) (IsFault (cond b (Some (fault OutOfProfile (call_pos text s e))) None))
      by true = (_, refl)
      by false = λ f h. h

  quiet_tested : (k : Callee) (es : TreeExs) → Tested (are_quiet k (seen text s es)) (IsFault (quiet_fault text s k es (seen text s es)))
  quiet_tested (measurer m) tree.none = λ f h. h
  quiet_tested (measurer m) (some e tree.none) = inner_tested e (operand_in (gives text s e))
  quiet_tested (measurer m) (some e (some e2 es)) = λ f h. h
  quiet_tested (printer line) es = λ f h. h
  quiet_tested panicker es = λ f h. h
  quiet_tested reader es = λ f h. h
  quiet_tested exiter es = λ f h. h
  quiet_tested (function g ps ts) es = λ f h. h
  quiet_tested conversion es = λ f h. h
  quiet_tested no_function es = λ f h. h
  quiet_tested no_spread es = λ f h. h
  quiet_tested no_text_spread es = λ f h. h
  quiet_tested nothing es = λ f h. h

-- ---- types and composite literals

-- an operand as the length of an array
early_decided : (found : Option Pos) (o : Option Operand) (P : Fault → Type 0) → Decided o P → Decided (option_and_then (early found) o) (λ f. P f ⊎ IsFault (early_fault found o) f)
early_decided found None P d = (d.0, inl d.1)
early_decided None (Some (constant c)) P d = λ f h. elim h [ inl p ↦ d f p | inr k ↦ k ]
early_decided (Some at) (Some (constant c)) P d = (_, inr refl)
early_decided found (Some (value t x)) P d = λ f h. elim h [ inl p ↦ d f p | inr k ↦ k ]
early_decided found (Some nil) P d = λ f h. elim h [ inl p ↦ d f p | inr k ↦ k ]

-- an array type, by its length and the type of its elements
array_stated : (T : Table) → IsFormed T → (bracket at : Pos) (o : Option Operand) (u : Option ValueType) (P Q : Fault → Type 0) → Decided o P → Decided u Q
    → Decided (array_with T (option_and_then length_of o) u) (λ f. (P f ⊎ Q f) ⊎ (IsFault (length_fault at o) f ⊎ IsFault (array_fault T bracket (option_and_then length_of o) u) f))
array_stated T formed bracket at None u P Q p q = (p.0, inl (inl p.1))
array_stated T formed bracket at (Some x) u P Q p q = by (length_of x) u (length_decided at x) q
  where
    L : Fault → Type 0
    L f = IsFault (length_fault at (Some x)) f

    sized : (m : ℕ) (t : ValueType) (a : Option ValueType) → Decided a (IsFault (size_fault T bracket m t)) → ((f : Fault) → L f → ⊥) → ((f : Fault) → Q f → ⊥)
        → Decided a (λ f. (P f ⊎ Q f) ⊎ (L f ⊎ IsFault (size_fault T bracket m t) f))
    sized m t None d l k = (d.0, inr (inr d.1))
    sized m t (Some v) d l k =
        λ f h. elim h [ inl g ↦ elim g [ inl y ↦ p f y | inr y ↦ k f y ] | inr g ↦ elim g [ inl y ↦ l f y | inr y ↦ d f y ] ]

    by : (n : Option ℕ) (v : Option ValueType) → Decided n L → Decided v Q → Decided (array_with T n v) (λ f. (P f ⊎ Q f) ⊎ (L f ⊎ IsFault (array_fault T bracket n v) f))
    by None v l k = (l.0, inr (inl l.1))
    by (Some m) None l k = (k.0, inl (inr k.1))
    by (Some m) (Some t) l k = sized m t (array_type_in T m t) (array_decided T formed bracket m t) l k

-- a type that is stated is known
allowed_known : (b : Bool) (u t : ValueType) (P : ValueType → Type 0) → (b ≡ true → P u) → allowed b (Some u) ≡ Some t → P t
allowed_known true u t P known is = subst P (same_some is) (known refl)
allowed_known false u t P known is = absurd (none_some is)

abbrev IsKnownType : Table → ValueType → Type 0
IsKnownType T t = is_known T t ≡ true

named_known : (T : Table) (d : Option Declared) (t : ValueType) → declared_type T d ≡ Some t → IsKnownType T t
named_known T None t is = absurd (none_some is)
named_known T (Some (declared.«Type» u)) t is = allowed_known (is_known T u) u t (IsKnownType T) (λ h. h) is
named_known T (Some (declared.Variable site u)) t is = absurd (none_some is)
named_known T (Some declared.Untyped) t is = absurd (none_some is)
named_known T (Some (declared.Constant k)) t is = absurd (none_some is)
named_known T (Some (declared.Global k g)) t is = absurd (none_some is)
named_known T (Some (declared.Function g)) t is = absurd (none_some is)
named_known T (Some (declared.External e place)) t is = absurd (none_some is)
named_known T (Some (declared.Truth b)) t is = absurd (none_some is)
named_known T (Some declared.Nil) t is = absurd (none_some is)
named_known T (Some (declared.Print line)) t is = absurd (none_some is)
named_known T (Some declared.Panic) t is = absurd (none_some is)
named_known T (Some (declared.Measure m)) t is = absurd (none_some is)
named_known T (Some declared.LeftOutType) t is = absurd (none_some is)
named_known T (Some declared.LeftOutValue) t is = absurd (none_some is)

array_known : (T : Table) (n : Option ℕ) (u : Option ValueType) (t : ValueType) → array_with T n u ≡ Some t → IsKnownType T t
array_known T n u t is =
    let a = and_then_some (λ m. option_and_then (array_type_in T m) u) n t is in
    let b = and_then_some (array_type_in T a.0) u t a.2 in
    let c = and_then_some (λ e. known_array T a.0 (record { 0 = e })) (number_of T b.0) t b.2 in
    allowed_known (is_known T (Array a.0 (record { 0 = c.0 }))) (Array a.0 (record { 0 = c.0 })) t (IsKnownType T) (λ h. h) c.2

stated_known : (text : List ℕ) (s : Scope) (e : TreeEx) (t : ValueType) → stated_type text s e ≡ Some t → IsKnownType s.types t
stated_known text s (name n) t is = named_known s.types (declaration s (spelled text n)) t is
stated_known text s (paren at e) t is = stated_known text s e t is
stated_known text s (array_type at len e) t is = array_known s.types (option_and_then length_of (early_gives text s len)) (stated_type text s e) t is
stated_known text s (number at k) t is = absurd (none_some is)
stated_known text s (string at behind) t is = absurd (none_some is)
stated_known text s (unary at op e) t is = absurd (none_some is)
stated_known text s (binary at op a b) t is = absurd (none_some is)
stated_known text s (call g es spread) t is = absurd (none_some is)
stated_known text s (selector e at n) t is = absurd (none_some is)
stated_known text s (index e at i) t is = absurd (none_some is)
stated_known text s (slice e at low high) t is = absurd (none_some is)
stated_known text s (slice_type at e) t is = absurd (none_some is)
stated_known text s (literal e es) t is = absurd (none_some is)
stated_known text s (elements at es) t is = absurd (none_some is)

-- the type that an element has that states none: a known one
literal_known : (T : Table) (u v : ValueType) → IsKnownType T u → as_literal u ≡ as_type v → IsKnownType T v
literal_known T Int v known is = cc is
literal_known T Boolean v known is = cc is
literal_known T (Pointer e) v known is = cc is
literal_known T (Slice e) v known is = cc is
literal_known T (Struct k) v known is = let same1 : Struct k ≡ v = cc is in subst (IsKnownType T) same1 known
literal_known T (Array n e) v known is = let same1 : Array n e ≡ v = cc is in subst (IsKnownType T) same1 known

elided_known : (T : Table) → IsFormed T → (t v : ValueType) → IsKnownType T t → elided_in T t ≡ as_type v → IsKnownType T v
elided_known T formed Int v known is = cc is
elided_known T formed Boolean v known is = cc is
elided_known T formed (Pointer e) v known is = cc is
elided_known T formed (Slice e) v known is = cc is
elided_known T formed (Struct k) v known is = cc is
elided_known T formed (Array n e) v known is = literal_known T (type_at T e.0) v (element_known T formed n e known) is

literal_named : (u : ValueType) → as_literal u ≡ unknown → ⊥
literal_named Int is = cc is
literal_named Boolean is = cc is
literal_named (Pointer e) is = cc is
literal_named (Slice e) is = cc is
literal_named (Struct k) is = cc is
literal_named (Array n e) is = cc is

-- something is known of a whole of a known type
elided_named : (T : Table) (t : ValueType) → elided_in T t ≡ unknown → ⊥
elided_named T Int is = cc is
elided_named T Boolean is = cc is
elided_named T (Pointer e) is = cc is
elided_named T (Slice e) is = cc is
elided_named T (Struct k) is = cc is
elided_named T (Array n e) is = literal_named (type_at T e.0) is

-- a literal gives one value
one_of : (o : Option Operand) → operand_in (option_map one o) ≡ o
one_of None = refl
one_of (Some x) = refl

regrouped : {A : Type 0} (S E K : Fault → Type 0) (o : Option A) → Decided o (λ f. S f ⊎ (E f ⊎ K f)) → Decided o (λ f. (S f ⊎ E f) ⊎ K f)
regrouped S E K o d =
    same (λ f. S f ⊎ (E f ⊎ K f)) (λ f. (S f ⊎ E f) ⊎ K f) o (λ f h. elim h [ inl a ↦ inl (inl a) | inr b ↦ elim b [ inl c ↦ inl (inr c) | inr c ↦ inr c ] ])
    (λ f h. elim h [ inl a ↦ elim a [ inl b ↦ inl b | inr b ↦ inr (inl b) ] | inr c ↦ inr (inr c) ]) d

module _ (text : List ℕ) (s : Scope) (settled : IsSettled s) where
  callee_is : (o : Option Name) (g : Option Gives) (P : Fault → Type 0) → Decided g P → CalleeIs (callee text s o g) (CalleeFails text s o P g)
  callee_is None g P d = callee_value_is (operand_in g) (λ f. P f ⊎ IsFault (single_fault g) f) (operand_decided g P d)
  callee_is (Some n) g P d = callee_declared_is s (declaration s (spelled text n)) n.pos (λ x is. declared_typed s settled (spelled text n) x is)

  unary_decided : (at : Pos) (op : UnOp) (e : TreeEx) (taken1 : Bool) → Decided (operand_in (gives text s e)) (FailsAsOperand text s e)
      → Decided (prefix_gives op taken1 (operand_in (gives text s e))) (WhereTaken taken1 (λ g. FailsAsOperand text s e g ⊎ IsFault (prefix_fault at op (operand_in (gives text s e))) g) (λ g. FormFails at g))
  unary_decided at op e false d = (fault OutOfProfile at, refl)
  unary_decided at op e true d =
      mapped one (option_and_then (prefixed op) (operand_in (gives text s e))) (λ g. FailsAsOperand text s e g ⊎ IsFault (prefix_fault at op (operand_in (gives text s e))) g)
      (one_decided (prefixed op) (prefix_fault at op) (operand_in (gives text s e)) (FailsAsOperand text s e) d (prefix_decided at op))

  -- what a literal of a known type gives, where its elements are decided if its form fits
  abbrev ElementsDecided : ValueType → TreeElements → Type 0
  ElementsDecided t es = AllParts text s t 0 es → Decided (part_values (placed text s (Some t) 0 es)) (λ f. FailsInElements text s (Some t) es f ⊎ ElementsFail (placed text s (Some t) 0 es) f)

  literal_is : (first : Pos) (t : ValueType) (es : TreeElements) → IsKnownType s.types t → ElementsDecided t es
      → Decided (literal_given text s (Some t) es (placed text s (Some t) 0 es)) (FailsInLiteral text s first (Some t) es)
  literal_is first t es known d =
      let qs = placed text s (Some t) 0 es in
      let S : Fault → Type 0 = TypedShapeFails text s first t es in
      let E : Fault → Type 0 = FailsInElements text s (Some t) es in
      regrouped S E (ElementsFail qs) (literal_given text s (Some t) es qs)
      (mapped one (composed s.types t (shape_fits text s t es) qs) (λ f. S f ⊎ (E f ⊎ ElementsFail qs f))
      (composed_decided s.types t (shape_fits text s t es) qs S (λ f. E f ⊎ ElementsFail qs f) (shape_decided text s first t es) (λ fits. d (parts_there text s t es fits known))))

  literal_by : (first : Pos) (es : TreeElements) (o : Option ValueType) (P : Fault → Type 0) → ((t : ValueType) → o ≡ Some t → IsKnownType s.types t) → Decided o P
      → ((t : ValueType) → IsKnownType s.types t → ElementsDecided t es) → Decided (literal_given text s o es (placed text s o 0 es)) (λ f. P f ⊎ FailsInLiteral text s first o es f)
  literal_by first es None P known d all = (d.0, inl d.1)
  literal_by first es (Some t) P known d all =
      further P (FailsInLiteral text s first (Some t) es) (literal_given text s (Some t) es (placed text s (Some t) 0 es)) d (literal_is first t es (known t refl) (all t (known t refl)))

  unmapped : (o : Option Operand) (P : Fault → Type 0) → Decided (option_map one o) P → Decided o P
  unmapped None P d = d
  unmapped (Some x) P d = d

  -- an element without a type of its own
  elision_decided : (t : ValueType) (at : Pos) (es : TreeElements) (el : Elision) → elided_in s.types t ≡ el → IsKnownType s.types t → ((u : ValueType) → IsKnownType s.types u → ElementsDecided u es)
      → Decided (operand_in (literal_given text s (type_elided el) es (placed text s (type_elided el) 0 es))) (λ f. IsFault (elision_fault at el) f ⊎ FailsInLiteral text s at (type_elided el) es f)
  elision_decided t at es refused is known d = (fault Unfit at, inl refl)
  elision_decided t at es unknown is known d = absurd (elided_named s.types t is)
  elision_decided t at es (as_type u) is known d =
      let known1 = elided_known s.types settled.formed t u known is in
      let qs = placed text s (Some u) 0 es in
      let c = composed s.types u (shape_fits text s u es) qs in
      subst (λ (o : Option Operand). Decided o (λ f. ⊥ ⊎ FailsInLiteral text s at (Some u) es f)) (sym (one_of c))
      (further (λ f. ⊥) (FailsInLiteral text s at (Some u) es) c (λ f h. h) (unmapped c (FailsInLiteral text s at (Some u) es) (literal_is at u es known1 (d u known1))))

  bare_more : (t : ValueType) (n : ℕ) (key : Option Name) (at : Pos) (es rest : TreeElements) → IsKnownType s.types t
      → (parts : (p : Part) × (element_part text s (Some t) n key ≡ Some p) × AllParts text s t (1 + n) rest)
      → ((u : ValueType) → IsKnownType s.types u → ElementsDecided u es)
      → Decided (part_values (placed text s (Some t) (1 + n) rest)) (λ f. FailsInElements text s (Some t) rest f ⊎ ElementsFail (placed text s (Some t) (1 + n) rest) f)
      → Decided (part_values (placed text s (Some t) n (element key (elements at es) rest))) (λ f. FailsInElements text s (Some t) (element key (elements at es) rest) f ⊎ ElementsFail (placed text s (Some t) n (element key (elements at es) rest)) f)
  bare_more t n key at es rest known parts d others =
      let el = elided_in s.types t in
      let q : Placed = record { part = element_part text s (Some t) n key; at = at; operand = operand_in (literal_given text s (type_elided el) es (placed text s (type_elided el) 0 es)) } in
      let P : Fault → Type 0 = λ f. IsFault (elision_fault at el) f ⊎ FailsInLiteral text s at (type_elided el) es f in
      more_decided q (placed text s (Some t) (1 + n) rest) P (FailsInElements text s (Some t) rest) (element_decided q parts.0 P parts.1 (elision_decided t at es el refl known d)) others

  -- one more element, with a type of its own or none that is asked for
  one_more : (t : ValueType) (n : ℕ) (key : Option Name) (e : TreeEx) (rest : TreeElements) (parts : (p : Part) × (element_part text s (Some t) n key ≡ Some p) × AllParts text s t (1 + n) rest)
      → Decided (gives text s e) (Fails text s e)
      → Decided (part_values (placed text s (Some t) (1 + n) rest)) (λ f. FailsInElements text s (Some t) rest f ⊎ ElementsFail (placed text s (Some t) (1 + n) rest) f)
      → Decided (part_values (record { part = element_part text s (Some t) n key; at = first_pos e; operand = operand_in (gives text s e) } ∷ placed text s (Some t) (1 + n) rest))
      (λ f. ((Fails text s e f ⊎ IsFault (single_fault (gives text s e)) f) ⊎ FailsInElements text s (Some t) rest f)
      ⊎ ElementsFail (record { part = element_part text s (Some t) n key; at = first_pos e; operand = operand_in (gives text s e) } ∷ placed text s (Some t) (1 + n) rest) f)
  one_more t n key e rest parts d others =
      let q : Placed = record { part = element_part text s (Some t) n key; at = first_pos e; operand = operand_in (gives text s e) } in
      more_decided q (placed text s (Some t) (1 + n) rest) (FailsAsOperand text s e) (FailsInElements text s (Some t) rest)
      (element_decided q parts.0 (FailsAsOperand text s e) parts.1 (operand_decided (gives text s e) (Fails text s e) d)) others

  -- an element that states no type is a literal of any known type that the whole gives it
  abbrev BareDecided : TreeEx → Type 0
  BareDecided (elements at es) = (u : ValueType) → IsKnownType s.types u → ElementsDecided u es
  BareDecided e = Unit {0}

  any_more : (t : ValueType) (n : ℕ) (key : Option Name) (e : TreeEx) (rest : TreeElements) → IsKnownType s.types t
      → (parts : (p : Part) × (element_part text s (Some t) n key ≡ Some p) × AllParts text s t (1 + n) rest)
      → Decided (gives text s e) (Fails text s e) → BareDecided e
      → Decided (part_values (placed text s (Some t) (1 + n) rest)) (λ f. FailsInElements text s (Some t) rest f ⊎ ElementsFail (placed text s (Some t) (1 + n) rest) f)
      → Decided (part_values (placed text s (Some t) n (element key e rest))) (λ f. FailsInElements text s (Some t) (element key e rest) f ⊎ ElementsFail (placed text s (Some t) n (element key e rest)) f)
  any_more t n key (elements at es) rest known parts d bare others = bare_more t n key at es rest known parts bare others
  any_more t n key (number at2 k) rest known parts d bare others = one_more t n key (number at2 k) rest parts d others
  any_more t n key (string at2 behind) rest known parts d bare others = one_more t n key (string at2 behind) rest parts d others
  any_more t n key (name n2) rest known parts d bare others = one_more t n key (name n2) rest parts d others
  any_more t n key (unary at2 op e2) rest known parts d bare others = one_more t n key (unary at2 op e2) rest parts d others
  any_more t n key (binary at2 op a b) rest known parts d bare others = one_more t n key (binary at2 op a b) rest parts d others
  any_more t n key (paren at2 e2) rest known parts d bare others = one_more t n key (paren at2 e2) rest parts d others
  any_more t n key (call g es2 spread) rest known parts d bare others = one_more t n key (call g es2 spread) rest parts d others
  any_more t n key (selector e2 at2 n2) rest known parts d bare others = one_more t n key (selector e2 at2 n2) rest parts d others
  any_more t n key (index e2 at2 i) rest known parts d bare others = one_more t n key (index e2 at2 i) rest parts d others
  any_more t n key (slice e2 at2 low high) rest known parts d bare others = one_more t n key (slice e2 at2 low high) rest parts d others
  any_more t n key (array_type at2 len e2) rest known parts d bare others = one_more t n key (array_type at2 len e2) rest parts d others
  any_more t n key (slice_type at2 e2) rest known parts d bare others = one_more t n key (slice_type at2 e2) rest parts d others
  any_more t n key (literal e2 es2) rest known parts d bare others = one_more t n key (literal e2 es2) rest parts d others

  mutual
    -- an expression gives something, or a rule fails in it
    pub gives_decided : (e : TreeEx) → Decided (gives text s e) (Fails text s e)
    gives_decided (number at n) = literal_decided at n
    gives_decided (name n) = name_decided s (declaration s (spelled text n)) n.pos (λ x is. declared_typed s settled (spelled text n) x is)
    gives_decided (unary at op e) = unary_decided at op e (has_rules op) (operand_decided (gives text s e) (Fails text s e) (gives_decided e))
    gives_decided (binary at op a b) =
        mapped one (both (combined at op) (operand_in (gives text s a)) (operand_in (gives text s b))) (λ g. Fails text s (binary at op a b) g)
        (pair_decided at (first_pos a) (first_pos b) op (operand_in (gives text s a)) (operand_in (gives text s b)) (FailsAsOperand text s a) (FailsAsOperand text s b)
        (operand_decided (gives text s a) (Fails text s a) (gives_decided a)) (operand_decided (gives text s b) (Fails text s b) (gives_decided b)))
    gives_decided (paren at e) = gives_decided e
    gives_decided (call g es spread) =
        quiet_decided (are_quiet (spread_over spread (callee text s (name_in g) (gives text s g))) (seen text s es))
        (called_with (first_pos g) (spread_over spread (callee text s (name_in g) (gives text s g))) (seen text s es))
        (λ f. CalleeFails text s (name_in g) (λ h. Fails text s g h) (gives text s g) f ⊎ FailsInEach text s es f)
        (λ f. CallFails (first_pos g) (spread_over spread (callee text s (name_in g) (gives text s g))) (seen text s es) f)
        (λ f. IsFault (quiet_fault text s (spread_over spread (callee text s (name_in g) (gives text s g))) es (seen text s es)) f)
        (quiet_tested text s (spread_over spread (callee text s (name_in g) (gives text s g))) es)
        (call_decided (first_pos g) (spread_over spread (callee text s (name_in g) (gives text s g))) (seen text s es) (CalleeFails text s (name_in g) (λ f. Fails text s g f) (gives text s g)) (FailsInEach text s es)
        (spread_is spread (callee text s (name_in g) (gives text s g)) (CalleeFails text s (name_in g) (λ f. Fails text s g f) (gives text s g)) (callee_is (name_in g) (gives text s g) (λ f. Fails text s g f) (gives_decided g))) (seen_decided es))
    gives_decided (string at behind) = λ f h. h
    gives_decided (selector e at n) =
        mapped one (option_and_then (selected text s n) (operand_in (gives text s e))) (λ g. Fails text s (selector e at n) g)
        (selector_decided text s (first_pos e) n (operand_in (gives text s e)) (FailsAsOperand text s e) (operand_decided (gives text s e) (Fails text s e) (gives_decided e)))
    gives_decided (index e at i) =
        mapped one (both (indexed s.types at) (operand_in (gives text s e)) (operand_in (gives text s i))) (λ g. Fails text s (index e at i) g)
        (index_decided text s at (first_pos e) (operand_in (gives text s e)) (operand_in (gives text s i)) (FailsAsOperand text s e) (FailsAsOperand text s i)
        (operand_decided (gives text s e) (Fails text s e) (gives_decided e)) (operand_decided (gives text s i) (Fails text s i) (gives_decided i)))
    gives_decided (slice e at low high) = (fault OutOfProfile (first_pos e), inr refl)
    gives_decided (array_type at len e) = (fault OutOfProfile at, refl)
    gives_decided (slice_type at e) = (fault OutOfProfile at, refl)
    gives_decided (literal e es) = literal_by (first_pos e) es (stated_type text s e) (StatedFails text s e) (stated_known text s e) (stated_decided e) (λ t known parts. elements_decided t 0 es known parts)
    gives_decided (elements at es) = (fault OutOfProfile at, refl)

    pub stated_decided : (e : TreeEx) → Decided (stated_type text s e) (StatedFails text s e)
    stated_decided (name n) = type_name_decided s (declaration s (spelled text n)) n.pos (λ x is. declared_typed s settled (spelled text n) x is)
    stated_decided (paren at e) = stated_decided e
    stated_decided (array_type at len e) =
        array_stated s.types settled.formed at (first_pos len) (early_gives text s len) (stated_type text s e) (FailsEarly text s len) (StatedFails text s e)
        (early_decided (call_in len) (operand_in (gives text s len)) (FailsAsOperand text s len) (operand_decided (gives text s len) (Fails text s len) (gives_decided len))) (stated_decided e)
    stated_decided (number at k) = (fault OutOfProfile at, refl)
    stated_decided (string at behind) = (fault OutOfProfile at, refl)
    stated_decided (unary at op e) = (fault OutOfProfile at, refl)
    stated_decided (binary at op a b) = (fault OutOfProfile (first_pos a), refl)
    stated_decided (call g es spread) = (fault OutOfProfile (first_pos g), refl)
    stated_decided (selector e at n) = (fault OutOfProfile (first_pos e), refl)
    stated_decided (index e at i) = (fault OutOfProfile (first_pos e), refl)
    stated_decided (slice e at low high) = (fault OutOfProfile (first_pos e), refl)
    stated_decided (slice_type at e) = (fault OutOfProfile at, refl)
    stated_decided (literal e es) = (fault OutOfProfile (first_pos e), refl)
    stated_decided (elements at es) = (fault OutOfProfile at, refl)

    -- the elements of a literal of a type, each with its part
    pub elements_decided : (t : ValueType) (n : ℕ) (es : TreeElements) → IsKnownType s.types t → AllParts text s t n es
        → Decided (part_values (placed text s (Some t) n es)) (λ f. FailsInElements text s (Some t) es f ⊎ ElementsFail (placed text s (Some t) n es) f)
    elements_decided t n no_elements known parts = no_elements_decided (λ f. ⊥) (λ f h. h)
    elements_decided t n (element key e rest) known parts = any_more t n key e rest known parts (gives_decided e) (bare_decided e) (elements_decided t (1 + n) rest known parts.2)

    bare_decided : (e : TreeEx) → BareDecided e
    bare_decided (elements at es) = λ u known parts. elements_decided u 0 es known parts
    bare_decided (number at2 k) = tt
    bare_decided (string at2 behind) = tt
    bare_decided (name n2) = tt
    bare_decided (unary at2 op e2) = tt
    bare_decided (binary at2 op a b) = tt
    bare_decided (paren at2 e2) = tt
    bare_decided (call g es2 spread) = tt
    bare_decided (selector e2 at2 n2) = tt
    bare_decided (index e2 at2 i) = tt
    bare_decided (slice e2 at2 low high) = tt
    bare_decided (array_type at2 len e2) = tt
    bare_decided (slice_type at2 e2) = tt
    bare_decided (literal e2 es2) = tt

    pub seen_decided : (es : TreeExs) → Decided (given_all (seen text s es)) (FailsInEach text s es)
    seen_decided tree.none = λ f h. h
    seen_decided (some e es) = after (gives text s e) (λ x. given_all (seen text s es)) (Fails text s e) (FailsInEach text s es) (gives_decided e) (λ x is. seen_decided es)

  -- a constant that an expression gives is held by its type
  pub gives_held : (e : TreeEx) (x : Operand) → operand_in (gives text s e) ≡ Some x → IsHeld x
  gives_held e x is = operand_held text s (λ n y named. name_held s (declaration s n) y (λ d found. declared_typed s settled n d found) named) e x is

  pub condition_decided : (at : Pos) (e : TreeEx) → Decided (condition text s e) (FailsInCondition text s at e)
  condition_decided at e = by (operand_in (gives text s e)) (gives_held e) (operand_decided (gives text s e) (Fails text s e) (gives_decided e))
    where
      by : (o : Option Operand) → ((x : Operand) → o ≡ Some x → IsHeld x) → Decided o (FailsAsOperand text s e) → Decided (option_and_then as_condition o) (λ f. FailsAsOperand text s e f ⊎ IsFault (condition_fault at o) f)
      by None held d = (d.0, inl d.1)
      by (Some x) held d = further (FailsAsOperand text s e) (IsFault (condition_fault at (Some x))) (as_condition x) d (condition_value_decided at x (held x refl))

  pub test_decided : (at : Pos) (o : Option TreeEx) → Decided (test text s o) (FailsInTest text s at o)
  test_decided at None = λ f h. h
  test_decided at (Some e) = mapped Some (condition text s e) (FailsInCondition text s at e) (condition_decided at e)
