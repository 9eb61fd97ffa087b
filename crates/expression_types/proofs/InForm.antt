-- What expressions give is in form: what they read is in scope and has its type, constants are words, and operators and calls have operands
-- of the types that they take.
use Rattle.std.proofs.Common.{◌≡◌, ℕ, ◌+◌, ◌^◌, pos, Bool, true, false, cond, List, ◌∷◌, Option, Some, None, refl, sym, ap, ◌∙◌, subst}
use Rattle.std.specs.Prelude.{option_and_then, nat_lt, slice_get}
use Rattle.std.specs.Option.{option_map}
use Rattle.base.specs.declared.pos.Pos.{Pos}
use Rattle.base.specs.declared.ids.SiteId.{SiteId}
use Rattle.syntax.specs.declared.operator.BinOp.{BinOp}
use Rattle.syntax.specs.declared.operator.UnOp.{UnOp}
use Rattle.syntax.specs.declared.expression.Name.{Name}
use Rattle.syntax.specs.FirstBytes.{first_pos}
use Rattle.syntax.specs.Expressions.{Ex as TreeEx, Exs as TreeExs, number, string, name, unary, binary, paren, call, selector, index, slice, array_type, slice_type, literal, elements, some, Elements as TreeElements, no_elements, element, spelled}
use Rattle.syntax.specs.Expressions as tree
use Rattle.typed_syntax.specs.Syntax.{Ex, Program, none}
use Rattle.typed_syntax.specs.Syntax as typed
use Rattle.typed.specs.Trees.{tree_named}
use Rattle.typed_syntax.specs.Form.{PlFits, ExFits}
use Rattle.typed_syntax.specs.Types.{bools}
use Rattle.constants.specs.declared.constant.Constant.{Constant}
use Rattle.constants.specs.declared.constant.Constant.TheVariants.{Number, Truth}
use Rattle.base.specs.declared.value_type.ValueType.{ValueType}
use Rattle.constants.specs.Constants.{untyped}
use Rattle.type_faults.specs.Given.{both}
use Rattle.type_faults.proofs.Options.{and_then_some, map_some, none_some, same_some}
use Rattle.operators.specs.Operands.{Operand, constant, value, nil}
use Rattle.operators.specs.Operators.{has_rules, prefixed, combined}
use Rattle.names.specs.declared.scope.Declared.{Declared}
use Rattle.names.specs.declared.scope.ValueId.{ValueId}
use Rattle.names.specs.declared.scope.GlobalId.{GlobalId}
use Rattle.names.specs.declared.scope.Declared.TheVariants as declared
use Rattle.names.specs.declared.scope.External.TheVariants.{ReadInt, Exit}
use Rattle.names.specs.Scope.{Scope, Signature, type_number, type_tree, declaration, signature, known}
use Rattle.operand_parts.specs.Parts.{selected, indexed}
use Rattle.operand_parts.specs.Literals.{type_elided, elided, element_part, shape_fits}
use Rattle.operand_parts.specs.LiteralValues.{Placed, PartValue, value_of_part, part_values, composed}
use Rattle.operand_parts.proofs.ElementValues.{ValueFits, ValuesFit, value_fits as element_value_fits, literal_fits, composed_given, part_value_given}
use Rattle.operand_parts.proofs.PartsFit.{IsFitting, element_fits, operand_indexed_fits, selected_fits}
use Rattle.names.specs.declared.fields.Part.{Part as WholePart}
use Rattle.names.specs.Naming.{name_in}
use Rattle.names.specs.declared.scope.Known.{Known}
use Rattle.names.specs.declared.scope.Known.TheVariants as known_as
use Rattle.names.proofs.Settled.{IsSound, AreSound}
use Rattle.names.proofs.Trees.{solid}
use Rattle.given_values.specs.Given.{Gives, one, known_type, global_read, constant_read, name_operand, prefix_gives, pair_gives, operand_in, values, fits, Callee, printer, panicker, reader, exiter, function, conversion, no_function, no_spread, no_text_spread, nothing, function_with, callee_declared, callee_value, spread_over, as_condition, callee, called_with, measurer}
use Rattle.expression_types.specs.Typing.{gives, seen, stated_type, placed, literal_given, condition, test, are_quiet}
use Rattle.given_values.proofs.ValuesFit.{Agrees, AreNumbered, AreShown, assigned_type, OptionalFits, OperandFits, GivesFit, AllFit, maybe_fits, CalleeFits, operand_fits, value_fits, pair_fits, prefix_fits, condition_value_fits, call_fits, allowed_some}

module _ (p : Program) (scope : List ℕ) (text : List ℕ) (s : Scope) (are_shown : AreShown s scope) (are_numbered : AreNumbered s) (sound : AreSound s.values) (agrees : Agrees s p) where
  abbrev Fits : Gives → Type 0
  Fits g = GivesFit s.types p scope g

  abbrev Operates : Operand → Type 0
  Operates x = OperandFits s.types p scope x

  variable_fits : (n : List ℕ) (site : SiteId) (t : ValueType) → declaration s n ≡ Some (declared.Variable site t) → PlFits p scope (type_tree s.types t) (typed.local site.0 typed.here)
  variable_fits n site t is = let k = are_shown n site t is in (k.0, agrees.sites site.0 k.1.0 k.1.1 ∙ ap (tree_named s.types) k.1.2, solid s.types agrees.formed (type_number s.types t))

  constant_fits_name : (o : Option Known) (g : Gives) → ((x : Known) → o ≡ Some x → IsSound x) → option_map one (option_map constant_read o) ≡ Some g → Fits g
  constant_fits_name None g is_sound is = absurd (none_some is)
  constant_fits_name (Some (known_as.Constant f)) g is_sound is = subst Fits (same_some is) (is_sound (known_as.Constant f) refl)
  constant_fits_name (Some (known_as.Variable t)) g is_sound is = subst Fits (same_some is) tt

  global_fits : (g k : ℕ) (o : Option Known) (x : Gives) → known s k ≡ o → slice_get s.globals g ≡ Some k → option_map one (option_map (global_read g) o) ≡ Some x → Fits x
  global_fits g k None x known_is at is = absurd (none_some is)
  global_fits g k (Some y) x known_is at is =
      let a = agrees.globals g k y at known_is in
      subst Fits (same_some is) (a.0, a.1, solid s.types agrees.formed (type_number s.types (known_type y)))

  name_fits : (d : Option Declared) (g : Gives) → ((site : SiteId) (t : ValueType) → d ≡ Some (declared.Variable site t) → PlFits p scope (type_tree s.types t) (typed.local site.0 typed.here))
      → ((k : ValueId) (h : GlobalId) → d ≡ Some (declared.Global k h) → slice_get s.globals h.0 ≡ Some k.0) → option_map one (name_operand s d) ≡ Some g → Fits g
  name_fits None g has at is = absurd (none_some is)
  name_fits (Some (declared.Variable site t)) g has at is = subst Fits (same_some is) (has site t refl)
  name_fits (Some declared.Untyped) g has at is = absurd (none_some is)
  name_fits (Some (declared.Constant k)) g has at is = constant_fits_name (known s k.0) g (λ x known_is. sound k.0 x known_is) is
  name_fits (Some (declared.Global k h)) g has at is = global_fits h.0 k.0 (known s k.0) g refl (at k h refl) is
  name_fits (Some (declared.Function f)) g has at is = absurd (none_some is)
  name_fits (Some (declared.External e place)) g has at is = absurd (none_some is)
  name_fits (Some (declared.«Type» t)) g has at is = absurd (none_some is)
  name_fits (Some (declared.Truth b)) g has at is = subst Fits (same_some is) refl
  name_fits (Some declared.Nil) g has at is = subst Fits (same_some is) tt
  name_fits (Some (declared.Print line)) g has at is = absurd (none_some is)
  name_fits (Some declared.Panic) g has at is = absurd (none_some is)
  name_fits (Some (declared.Measure m)) g has at is = absurd (none_some is)
  name_fits (Some declared.LeftOutType) g has at is = absurd (none_some is)
  name_fits (Some declared.LeftOutValue) g has at is = absurd (none_some is)

  callee_signed : (f : ℕ) (sig : Option Signature) → signature s f ≡ sig → CalleeFits s.types p scope (function_with f sig)
  callee_signed f None is = tt
  callee_signed f (Some sig) is = let k = agrees.functions f sig is in (k.0, sig.params, refl, k.1, k.2, k.3)

  callee_value_fits : (o : Option Operand) → CalleeFits s.types p scope (callee_value o)
  callee_value_fits None = tt
  callee_value_fits (Some x) = tt

  declared_fits : (d : Option Declared) → CalleeFits s.types p scope (callee_declared s d)
  declared_fits None = tt
  declared_fits (Some (declared.Variable site t)) = tt
  declared_fits (Some declared.Untyped) = tt
  declared_fits (Some (declared.Constant k)) = callee_value_fits (option_map constant_read (known s k.0))
  declared_fits (Some (declared.Global k g)) = callee_value_fits (option_map (global_read g.0) (known s k.0))
  declared_fits (Some (declared.Function f)) = callee_signed f.0 (signature s f.0) refl
  declared_fits (Some (declared.External ReadInt at)) = tt
  declared_fits (Some (declared.External Exit at)) = tt
  declared_fits (Some (declared.«Type» t)) = tt
  declared_fits (Some (declared.Truth b)) = tt
  declared_fits (Some declared.Nil) = tt
  declared_fits (Some (declared.Print line)) = tt
  declared_fits (Some declared.Panic) = tt
  declared_fits (Some (declared.Measure m)) = tt
  declared_fits (Some declared.LeftOutType) = tt
  declared_fits (Some declared.LeftOutValue) = tt

  callee_fits : (n : Option Name) (o : Option Gives) → CalleeFits s.types p scope (callee text s n o)
  callee_fits None o = callee_value_fits (operand_in o)
  callee_fits (Some n) o = declared_fits (declaration s (spelled text n))

  spread_fits : (spread : Bool) (k : Callee) → CalleeFits s.types p scope k → CalleeFits s.types p scope (spread_over spread k)
  spread_fits false k fits = fits
  spread_fits true (printer line) fits = tt
  spread_fits true panicker fits = tt
  spread_fits true (measurer m) fits = tt
  spread_fits true reader fits = tt
  spread_fits true exiter fits = tt
  spread_fits true (function f ps ts) fits = tt
  spread_fits true conversion fits = tt
  spread_fits true no_function fits = tt
  spread_fits true no_spread fits = tt
  spread_fits true no_text_spread fits = tt
  spread_fits true nothing fits = tt

  unary_fits : (op : UnOp) (taken1 : Bool) (a : Option Operand) (g : Gives) → ((x : Operand) → a ≡ Some x → Operates x) → prefix_gives op taken1 a ≡ Some g → Fits g
  unary_fits op false a g fits is = absurd (none_some is)
  unary_fits op true a g fits is =
      let r = map_some one (option_and_then (prefixed op) a) g is in
      let q = and_then_some (prefixed op) a r.0 r.1 in
      subst Fits r.2 (prefix_fits s.types p scope agrees.formed op q.0 r.0 (fits q.0 q.1) q.2)

  binary_fits : (at : Pos) (op : BinOp) (a b : Option Operand) (g : Gives) → ((x : Operand) → a ≡ Some x → Operates x) → ((x : Operand) → b ≡ Some x → Operates x) → pair_gives at op a b ≡ Some g → Fits g
  binary_fits at op a b g left right is =
      let r = map_some one (both (combined at op) a b) g is in
      let q = and_then_some (λ x. option_and_then (combined at op x) b) a r.0 r.1 in
      let k = and_then_some (combined at op q.0) b r.0 q.2 in
      subst Fits r.2 (pair_fits s.types p scope agrees.formed agrees.no_slice at op q.0 k.0 r.0 (left q.0 q.1) (right k.0 k.1) k.2)

  -- a part
  fitting_part : (y : Operand) → IsFitting p scope s.types y → Operates y
  fitting_part y f = subst Operates (sym f.2) f.3

  selected_one_fits : (n : Name) (x y : Operand) → Operates x → selected text s n x ≡ Some y → Operates y
  selected_one_fits n (constant f) y fits is = absurd (none_some is)
  selected_one_fits n nil y fits is = absurd (none_some is)
  selected_one_fits n (value t e) y fits is = fitting_part y (selected_fits p scope text s agrees.formed agrees.types n t e fits y is)

  selector_fits : (n : Name) (a : Option Operand) (g : Gives) → ((x : Operand) → a ≡ Some x → Operates x) → option_map one (option_and_then (selected text s n) a) ≡ Some g → Fits g
  selector_fits n a g fits is =
      let r = map_some one (option_and_then (selected text s n) a) g is in
      let q = and_then_some (selected text s n) a r.0 r.1 in
      subst Fits r.2 (selected_one_fits n q.0 r.0 (fits q.0 q.1) q.2)

  index_fits : (at : Pos) (a b : Option Operand) (g : Gives) → ((x : Operand) → a ≡ Some x → Operates x) → ((x : Operand) → b ≡ Some x → Operates x) → option_map one (both (indexed s.types at) a b) ≡ Some g → Fits g
  index_fits at a b g left right is =
      let r = map_some one (both (indexed s.types at) a b) g is in
      let q = and_then_some (λ x. option_and_then (indexed s.types at x) b) a r.0 r.1 in
      let k = and_then_some (indexed s.types at q.0) b r.0 q.2 in
      let whole = left q.0 q.1 in
      let index1 = right k.0 k.1 in
      subst Fits r.2
      (fitting_part r.0 (operand_indexed_fits p scope s.types agrees.formed agrees.types at q.0 k.0 r.0 (λ t x h. subst Operates h whole) (λ t x h. subst Operates h index1) k.2))

  -- a composite literal, by the values of its elements
  literal_gives_fit : (o : Option ValueType) (es : TreeElements) (g : Gives) → ((t : ValueType) (vs : List PartValue) → part_values (placed text s (Some t) 0 es) ≡ Some vs → ValuesFit p scope s.types agrees.formed agrees.types t vs)
      → literal_given text s o es (placed text s o 0 es) ≡ Some g → Fits g
  literal_gives_fit None es g all is = absurd (none_some is)
  literal_gives_fit (Some t) es g all is =
      let m = map_some one (composed s.types t (shape_fits text s t es) (placed text s (Some t) 0 es)) g is in
      let c = composed_given p scope s.types agrees.formed agrees.types t (shape_fits text s t es) (placed text s (Some t) 0 es) m.0 m.1 in
      subst Fits m.2 (subst Operates (sym c.3) (literal_fits p scope s.types agrees.formed agrees.types t c.1 (all t c.1 c.2)))

  -- one more element
  cons_fits : (t : ValueType) (n : ℕ) (key : Option Name) (rest : TreeElements) (q : Placed) (vs : List PartValue) → q.part ≡ element_part text s (Some t) n key
      → ((y : Operand) → q.operand ≡ Some y → Operates y)
      → ((ws : List PartValue) → part_values (placed text s (Some t) (1 + n) rest) ≡ Some ws → ValuesFit p scope s.types agrees.formed agrees.types t ws)
      → part_values (q ∷ placed text s (Some t) (1 + n) rest) ≡ Some vs → ValuesFit p scope s.types agrees.formed agrees.types t vs
  cons_fits t n key rest q vs part_is1 fits all is =
      let a = and_then_some (λ v. option_map (λ ws. v ∷ ws) (part_values (placed text s (Some t) (1 + n) rest))) (value_of_part q.part q.operand) vs is in
      let b = map_some (λ ws. a.0 ∷ ws) (part_values (placed text s (Some t) (1 + n) rest)) vs a.2 in
      let g = part_value_given p scope s.types agrees.formed agrees.types t q a.0 a.1 in
      let f : WholePart = g.0 in
      let y : Operand = g.1 in
      let e : Ex = g.2 in
      let fit : ExFits p scope (type_tree s.types f.value_type) e = value_fits s.types p scope agrees.formed y f.value_type e (assigned_type f.value_type y g.5) (fits y g.4) g.6 in
      let one1 = element_value_fits p scope s.types agrees.formed agrees.types t f (element_fits text s agrees.formed t n key f (sym part_is1 ∙ g.3)) e fit in
      subst (ValuesFit p scope s.types agrees.formed agrees.types t) b.2 (subst (ValueFits p scope s.types agrees.formed agrees.types t) (sym g.7) one1, all b.0 b.1)

  bare_fits : (t : ValueType) (n : ℕ) (key : Option Name) (at : Pos) (es rest : TreeElements) (vs : List PartValue)
      → ((u : ValueType) (ws : List PartValue) → part_values (placed text s (Some u) 0 es) ≡ Some ws → ValuesFit p scope s.types agrees.formed agrees.types u ws)
      → ((ws : List PartValue) → part_values (placed text s (Some t) (1 + n) rest) ≡ Some ws → ValuesFit p scope s.types agrees.formed agrees.types t ws)
      → part_values (placed text s (Some t) n (element key (elements at es) rest)) ≡ Some vs → ValuesFit p scope s.types agrees.formed agrees.types t vs
  bare_fits t n key at es rest vs inner all is =
      let o = type_elided (elided s.types (Some t)) in
      let g = literal_given text s o es (placed text s o 0 es) in
      cons_fits t n key rest (record { part = element_part text s (Some t) n key; at = at; operand = operand_in g }) vs refl
      (λ y h. operand_fits s.types p scope g y (maybe_fits s.types p scope g (λ k j. literal_gives_fit o es k inner j)) h) all is

  one_more_fits : (t : ValueType) (n : ℕ) (key : Option Name) (e : TreeEx) (rest : TreeElements) (vs : List PartValue) → ((g : Gives) → gives text s e ≡ Some g → Fits g)
      → ((ws : List PartValue) → part_values (placed text s (Some t) (1 + n) rest) ≡ Some ws → ValuesFit p scope s.types agrees.formed agrees.types t ws)
      → part_values (record { part = element_part text s (Some t) n key; at = first_pos e; operand = operand_in (gives text s e) } ∷ placed text s (Some t) (1 + n) rest) ≡ Some vs
      → ValuesFit p scope s.types agrees.formed agrees.types t vs
  one_more_fits t n key e rest vs fits all is =
      cons_fits t n key rest (record { part = element_part text s (Some t) n key; at = first_pos e; operand = operand_in (gives text s e) }) vs refl
      (λ y h. operand_fits s.types p scope (gives text s e) y (maybe_fits s.types p scope (gives text s e) fits) h) all is

  -- an element that states no type is a literal of any type that the whole gives it
  abbrev BareFits : TreeEx → Type 0
  BareFits (elements at es) = (u : ValueType) (ws : List PartValue) → part_values (placed text s (Some u) 0 es) ≡ Some ws → ValuesFit p scope s.types agrees.formed agrees.types u ws
  BareFits e = Unit {0}

  any_fits : (t : ValueType) (n : ℕ) (key : Option Name) (e : TreeEx) (rest : TreeElements) (vs : List PartValue) → ((g : Gives) → gives text s e ≡ Some g → Fits g) → BareFits e
      → ((ws : List PartValue) → part_values (placed text s (Some t) (1 + n) rest) ≡ Some ws → ValuesFit p scope s.types agrees.formed agrees.types t ws)
      → part_values (placed text s (Some t) n (element key e rest)) ≡ Some vs → ValuesFit p scope s.types agrees.formed agrees.types t vs
  any_fits t n key (elements at es) rest vs fits bare all is = bare_fits t n key at es rest vs bare all is
  any_fits t n key (number at2 k) rest vs fits bare all is = one_more_fits t n key (number at2 k) rest vs fits all is
  any_fits t n key (string at2 behind) rest vs fits bare all is = one_more_fits t n key (string at2 behind) rest vs fits all is
  any_fits t n key (name n2) rest vs fits bare all is = one_more_fits t n key (name n2) rest vs fits all is
  any_fits t n key (unary at2 op e2) rest vs fits bare all is = one_more_fits t n key (unary at2 op e2) rest vs fits all is
  any_fits t n key (binary at2 op a b) rest vs fits bare all is = one_more_fits t n key (binary at2 op a b) rest vs fits all is
  any_fits t n key (paren at2 e2) rest vs fits bare all is = one_more_fits t n key (paren at2 e2) rest vs fits all is
  any_fits t n key (call g es2 spread) rest vs fits bare all is = one_more_fits t n key (call g es2 spread) rest vs fits all is
  any_fits t n key (selector e2 at2 n2) rest vs fits bare all is = one_more_fits t n key (selector e2 at2 n2) rest vs fits all is
  any_fits t n key (index e2 at2 i) rest vs fits bare all is = one_more_fits t n key (index e2 at2 i) rest vs fits all is
  any_fits t n key (slice e2 at2 low high) rest vs fits bare all is = one_more_fits t n key (slice e2 at2 low high) rest vs fits all is
  any_fits t n key (array_type at2 len e2) rest vs fits bare all is = one_more_fits t n key (array_type at2 len e2) rest vs fits all is
  any_fits t n key (slice_type at2 e2) rest vs fits bare all is = one_more_fits t n key (slice_type at2 e2) rest vs fits all is
  any_fits t n key (literal e2 es2) rest vs fits bare all is = one_more_fits t n key (literal e2 es2) rest vs fits all is

  mutual
    pub gives_fit : (e : TreeEx) (g : Gives) → gives text s e ≡ Some g → Fits g
    gives_fit (number at n) g is = by (nat_lt n (2 ^ 127)) is
      where
        by : (b : Bool) → cond b (Some (one (constant (untyped (Number (pos n)))))) None ≡ Some g → Fits g
        by true is1 = subst Fits (same_some is1) refl
        by false is1 = absurd (none_some is1)
    gives_fit (name n) g is = name_fits (declaration s (spelled text n)) g (λ site t h. variable_fits (spelled text n) site t h) (λ k h j. are_numbered (spelled text n) k h j) is
    gives_fit (unary at op e) g is =
        unary_fits op (has_rules op) (operand_in (gives text s e)) g (λ x h. operand_fits s.types p scope (gives text s e) x (maybe_fits s.types p scope (gives text s e) (λ k i. gives_fit e k i)) h) is
    gives_fit (binary at op a b) g is =
        binary_fits at op (operand_in (gives text s a)) (operand_in (gives text s b)) g (λ x h. operand_fits s.types p scope (gives text s a) x (maybe_fits s.types p scope (gives text s a) (λ k i. gives_fit a k i)) h)
        (λ x h. operand_fits s.types p scope (gives text s b) x (maybe_fits s.types p scope (gives text s b) (λ k i. gives_fit b k i)) h) is
    gives_fit (paren at e) g is = gives_fit e g is
    gives_fit (call f es spread) g is =
        call_fits s.types p scope agrees.formed (first_pos f) (spread_over spread (callee text s (name_in f) (gives text s f))) (seen text s es) g (spread_fits spread (callee text s (name_in f) (gives text s f)) (callee_fits (name_in f) (gives text s f))) (seen_fit es)
        (allowed_some (are_quiet (spread_over spread (callee text s (name_in f) (gives text s f))) (seen text s es)) (called_with (first_pos f) (spread_over spread (callee text s (name_in f) (gives text s f))) (seen text s es)) g is).1
    gives_fit (string at behind) g is = subst Fits (same_some is) tt
    gives_fit (selector e at n) g is =
        selector_fits n (operand_in (gives text s e)) g (λ x h. operand_fits s.types p scope (gives text s e) x (maybe_fits s.types p scope (gives text s e) (λ k i. gives_fit e k i)) h) is
    gives_fit (index e at i) g is =
        index_fits at (operand_in (gives text s e)) (operand_in (gives text s i)) g (λ x h. operand_fits s.types p scope (gives text s e) x (maybe_fits s.types p scope (gives text s e) (λ k j. gives_fit e k j)) h)
        (λ x h. operand_fits s.types p scope (gives text s i) x (maybe_fits s.types p scope (gives text s i) (λ k j. gives_fit i k j)) h) is
    gives_fit (slice e at low high) g is = absurd (none_some is)
    gives_fit (array_type at len e) g is = absurd (none_some is)
    gives_fit (slice_type at e) g is = absurd (none_some is)
    gives_fit (literal e es) g is = literal_gives_fit (stated_type text s e) es g (λ t vs h. values_fit_in t 0 es vs h) is
    gives_fit (elements at es) g is = absurd (none_some is)

    values_fit_in : (t : ValueType) (n : ℕ) (es : TreeElements) (vs : List PartValue) → part_values (placed text s (Some t) n es) ≡ Some vs → ValuesFit p scope s.types agrees.formed agrees.types t vs
    values_fit_in t n no_elements vs is = subst (ValuesFit p scope s.types agrees.formed agrees.types t) (same_some is) tt
    values_fit_in t n (element key e rest) vs is = any_fits t n key e rest vs (λ g h. gives_fit e g h) (bare_fit e) (λ ws h. values_fit_in t (1 + n) rest ws h) is

    bare_fit : (e : TreeEx) → BareFits e
    bare_fit (elements at es) = λ u ws h. values_fit_in u 0 es ws h
    bare_fit (number at2 k) = tt
    bare_fit (string at2 behind) = tt
    bare_fit (name n2) = tt
    bare_fit (unary at2 op e2) = tt
    bare_fit (binary at2 op a b) = tt
    bare_fit (paren at2 e2) = tt
    bare_fit (call g es2 spread) = tt
    bare_fit (selector e2 at2 n2) = tt
    bare_fit (index e2 at2 i) = tt
    bare_fit (slice e2 at2 low high) = tt
    bare_fit (array_type at2 len e2) = tt
    bare_fit (slice_type at2 e2) = tt
    bare_fit (literal e2 es2) = tt

    pub seen_fit : (es : TreeExs) → AllFit s.types p scope (seen text s es)
    seen_fit tree.none = tt
    seen_fit (some e es) = (maybe_fits s.types p scope (gives text s e) (λ h i. gives_fit e h i), seen_fit es)

  pub condition_fits : (e : TreeEx) (x : Ex) → condition text s e ≡ Some x → ExFits p scope bools x
  condition_fits e x is =
      let q = and_then_some as_condition (operand_in (gives text s e)) x is in
      condition_value_fits s.types p scope agrees.formed q.0 x (operand_fits s.types p scope (gives text s e) q.0 (maybe_fits s.types p scope (gives text s e) (λ h i. gives_fit e h i)) q.1) q.2

  pub test_fits : (o : Option TreeEx) (x : Option Ex) → test text s o ≡ Some x → OptionalFits p scope x
  test_fits None x is = subst (OptionalFits p scope) (same_some is) tt
  test_fits (Some e) x is = let r = map_some Some (condition text s e) x is in subst (OptionalFits p scope) r.2 (condition_fits e r.0 r.1)
