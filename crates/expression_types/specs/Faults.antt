-- Which rules fail in an expression, and where each is reported. A rule of an expression is looked at only where all its operands give
-- something, so nothing fails because of what failed below it.
--
-- A form that is left out of the profile fails at its first byte, and has no other rule of its own. The part that begins at the same byte
-- keeps its rules, so that the fault with the least number stands there. What stands further right isn't looked at: the fault that is
-- reported has the least offset.
use Rattle.std.specs.Prelude.{ℕ, ◌^◌, nat_lt, ◌⊎◌, Bool, true, false, List, [], ◌∷◌, Option, Some, None, option_and_then, if◌then◌else◌}
use Rattle.std.specs.Option.{option_map}
use Rattle.base.specs.declared.pos.Pos.{Pos}
use Rattle.syntax.specs.FirstBytes.{first_pos}
use Rattle.syntax.specs.Expressions.{Ex as TreeEx, Exs as TreeExs, Elements as TreeElements, number, string, name, unary, binary, paren, call, selector, index, slice, array_type, slice_type, literal, elements, some, no_elements, element, spelled}
use Rattle.syntax.specs.Expressions as tree
use Rattle.type_faults.specs.declared.fault.Fault.{Fault}
use Rattle.type_faults.specs.declared.fault.FaultKind.TheVariants.{ConstRange, OutOfProfile}
use Rattle.base.specs.declared.value_type.ValueType.{ValueType}
use Rattle.base.specs.declared.value_type.ValueType.TheVariants.{Array}
use Rattle.type_faults.specs.Faults.{fault, IsFault, FormFails}
use Rattle.operators.specs.Operands.{Operand, constant, value}
use Rattle.operators.specs.Operators.{has_rules}
use Rattle.operators.specs.Faults.{prefix_fault, pair_fault}
use Rattle.names.specs.Scope.{Scope, declaration}
use Rattle.names.specs.Naming.{name_in}
use Rattle.names.specs.Faults.{type_name_fault}
use Rattle.operand_calls.specs.Calls.{unevaluated_fault}
use Rattle.operand_parts.specs.PartFaults.{selector_fault, index_fault}
use Rattle.operand_parts.specs.ArrayTypes.{length_of, length_fault, array_fault}
use Rattle.operand_parts.specs.Literals.{type_elided, elided}
use Rattle.operand_parts.specs.LiteralFaults.{elision_fault, ShapeFails}
use Rattle.operand_parts.specs.LiteralValues.{ElementsFail}
use Rattle.given_values.specs.Given.{operand_in, Seen, Callee, measurer, callee, spread_over}
use Rattle.expression_types.specs.Typing.{call_in, gives, seen, stated_type, placed, early_gives}
use Rattle.given_values.specs.GivenFaults.{name_fault, single_fault, condition_fault, CallFails, CalleeFails}

-- where a form is taken, and where it is left out
abbrev pub WhereTaken : Bool → (taken left_out : Fault → Type 0) → Fault → Type 0
WhereTaken true taken left_out f = taken f
WhereTaken false taken left_out f = left_out f

-- a constant that is worked out by `len` or `cap` before the types of variables
abbrev pub early_fault : Option Pos → Option Operand → Option Fault
early_fault found (Some (constant f)) = option_map (λ at. fault OutOfProfile at) found
early_fault found o = None

-- a literal that leaves 128 bits
abbrev pub literal_fault : Pos → ℕ → Option Fault
literal_fault pos n = if nat_lt n (2 ^ 127) then None else Some (fault ConstRange pos)

module _ (text : List ℕ) where
  -- a call in an array that `len` or `cap` doesn't evaluate
  abbrev pub inner_fault : Scope → TreeEx → Option Operand → Option Fault
  inner_fault s e (Some (value (Array n t) x)) = unevaluated_fault text s e x
  inner_fault s e o = None

  abbrev pub quiet_fault : Scope → Callee → TreeExs → List Seen → Option Fault
  quiet_fault s (measurer m) (some e tree.none) (o ∷ []) = inner_fault s e (operand_in o.gives)
  quiet_fault s k es os = None

  -- a rule fails in an expression, and in one of some
  abbrev mutual
    pub Fails : Scope → TreeEx → Fault → Type 0
    Fails s (number pos n) f = IsFault (literal_fault pos n) f
    Fails s (string pos behind) f = ⊥
    Fails s (name n) f = IsFault (name_fault (declaration s (spelled text n)) n.pos) f
    Fails s (unary pos op e) f =
        WhereTaken (has_rules op) (λ g. (Fails s e g ⊎ IsFault (single_fault (gives text s e)) g) ⊎ IsFault (prefix_fault pos op (operand_in (gives text s e))) g) (λ g. FormFails pos g) f
    Fails s (binary pos op a b) f =
        ((Fails s a f ⊎ IsFault (single_fault (gives text s a)) f) ⊎ (Fails s b f ⊎ IsFault (single_fault (gives text s b)) f))
        ⊎ IsFault (pair_fault (first_pos a) (first_pos b) op (operand_in (gives text s a)) (operand_in (gives text s b))) f
    Fails s (paren pos e) f = Fails s e f
    Fails s (call g es spread) f =
        (CalleeFails text s (name_in g) (λ h. Fails s g h) (gives text s g) f ⊎ FailsInEach s es f)
        ⊎ (CallFails (first_pos g) (spread_over spread (callee text s (name_in g) (gives text s g))) (seen text s es) f
        ⊎ IsFault (quiet_fault s (spread_over spread (callee text s (name_in g) (gives text s g))) es (seen text s es)) f)
    Fails s (selector e pos n) f =
        (Fails s e f ⊎ IsFault (single_fault (gives text s e)) f) ⊎ IsFault (selector_fault text s (first_pos e) n (operand_in (gives text s e))) f
    Fails s (index e pos i) f =
        ((Fails s e f ⊎ IsFault (single_fault (gives text s e)) f) ⊎ (Fails s i f ⊎ IsFault (single_fault (gives text s i)) f))
        ⊎ IsFault (index_fault s.types (first_pos e) (operand_in (gives text s e)) (operand_in (gives text s i))) f
    Fails s (slice e pos low high) f = Fails s e f ⊎ FormFails (first_pos e) f
    Fails s (array_type pos len e) f = FormFails pos f
    Fails s (slice_type pos e) f = FormFails pos f
    Fails s (literal e es) f =
        StatedFails s e f
        ⊎ ((ShapeFails text s (first_pos e) (stated_type text s e) es f ⊎ FailsInElements s (stated_type text s e) es f) ⊎ ElementsFail (placed text s (stated_type text s e) 0 es) f)
    Fails s (elements pos es) f = FormFails pos f

    -- in one as a type: the name of one, in parentheses or not, or an array type; all others are left out
    pub StatedFails : Scope → TreeEx → Fault → Type 0
    StatedFails s (name n) f = IsFault (type_name_fault (declaration s (spelled text n)) n.pos) f
    StatedFails s (paren pos e) f = StatedFails s e f
    StatedFails s (array_type pos len e) f =
        (((Fails s len f ⊎ IsFault (single_fault (gives text s len)) f) ⊎ IsFault (early_fault (call_in len) (operand_in (gives text s len))) f)
        ⊎ StatedFails s e f)
        ⊎ (IsFault (length_fault (first_pos len) (early_gives text s len)) f
        ⊎ IsFault (array_fault s.types pos (option_and_then length_of (early_gives text s len)) (stated_type text s e)) f)
    StatedFails s other f = FormFails (first_pos other) f

    -- in the elements of a literal of a type, or of none that is known
    pub FailsInElements : Scope → Option ValueType → TreeElements → Fault → Type 0
    FailsInElements s t no_elements f = ⊥
    FailsInElements s t (element key (elements pos es) rest) f =
        (IsFault (elision_fault pos (elided s.types t)) f
        ⊎ ((ShapeFails text s pos (type_elided (elided s.types t)) es f ⊎ FailsInElements s (type_elided (elided s.types t)) es f) ⊎ ElementsFail (placed text s (type_elided (elided s.types t)) 0 es) f))
        ⊎ FailsInElements s t rest f
    FailsInElements s t (element key e rest) f = (Fails s e f ⊎ IsFault (single_fault (gives text s e)) f) ⊎ FailsInElements s t rest f

    pub FailsInEach : Scope → TreeExs → Fault → Type 0
    FailsInEach s tree.none f = ⊥
    FailsInEach s (some e es) f = Fails s e f ⊎ FailsInEach s es f

  -- a rule fails in the type of a declaration, where one stands there
  abbrev pub FailsBefore : Scope → Option TreeEx → Fault → Type 0
  FailsBefore s None f = ⊥
  FailsBefore s (Some e) f = StatedFails s e f

  -- a rule fails in an expression with one value
  abbrev pub FailsAsOperand : Scope → TreeEx → Fault → Type 0
  FailsAsOperand s e f = Fails s e f ⊎ IsFault (single_fault (gives text s e)) f

  -- in the length of an array, or where the constant of a package is worked out
  abbrev pub FailsEarly : Scope → TreeEx → Fault → Type 0
  FailsEarly s e f = FailsAsOperand s e f ⊎ IsFault (early_fault (call_in e) (operand_in (gives text s e))) f

  -- in a literal that begins at a place, of a type or of none that is known
  abbrev pub FailsInLiteral : Scope → Pos → Option ValueType → TreeElements → Fault → Type 0
  FailsInLiteral s first t es f = (ShapeFails text s first t es f ⊎ FailsInElements s t es f) ⊎ ElementsFail (placed text s t 0 es) f

  -- in an element of one
  abbrev pub FailsInElement : Scope → Option ValueType → TreeEx → Fault → Type 0
  FailsInElement s t (elements pos es) f = IsFault (elision_fault pos (elided s.types t)) f ⊎ FailsInLiteral s pos (type_elided (elided s.types t)) es f
  FailsInElement s t e f = FailsAsOperand s e f

  -- a rule fails in the condition of a statement whose word stands at a place; what is no truth value is reported there
  abbrev pub FailsInCondition : Scope → Pos → TreeEx → Fault → Type 0
  FailsInCondition s pos e f = FailsAsOperand s e f ⊎ IsFault (condition_fault pos (operand_in (gives text s e))) f

  abbrev pub FailsInTest : Scope → Pos → Option TreeEx → Fault → Type 0
  FailsInTest s pos None f = ⊥
  FailsInTest s pos (Some e) f = FailsInCondition s pos e f
