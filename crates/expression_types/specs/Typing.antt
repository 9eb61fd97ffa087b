-- What the rules of the language give expressions (Go specification, "Expressions", "Calls", "Bootstrapping").
use Rattle.std.specs.Prelude.{ℕ, ◌+◌, ◌^◌, pos, Bool, true, not, List, [], ◌∷◌, map, Option, Some, None, is_none, option_and_then, nat_lt, if◌then◌else◌}
use Rattle.std.specs.Option.{option_map}
use Rattle.syntax.specs.FirstBytes.{first_pos}
use Rattle.syntax.specs.Expressions.{Ex as TreeEx, Exs as TreeExs, Elements as TreeElements, number, string, name, unary, binary, paren, call, selector, index, slice, array_type, slice_type, literal, elements, some, no_elements, element, spelled}
use Rattle.syntax.specs.Expressions as tree
use Rattle.syntax.specs.Statements.{ValueSpec, Clause, forever, while_true, counting, ranging}
use Rattle.typed_syntax.specs.Syntax.{Ex, none}
use Rattle.constants.specs.declared.constant.Constant.TheVariants.{Number}
use Rattle.base.specs.declared.value_type.ValueType.{ValueType}
use Rattle.base.specs.declared.value_type.ValueType.TheVariants.{Array}
use Rattle.base.specs.declared.pos.Pos.{Pos}
use Rattle.string_value.specs.StringValue.{string_value}
use Rattle.type_faults.specs.Given.{allowed, both}
use Rattle.constants.specs.Constants.{untyped}
use Rattle.operators.specs.Operands.{Operand, constant, value, nil}
use Rattle.operators.specs.Operators.{has_rules}
use Rattle.names.specs.Scope.{Scope, declaration}
use Rattle.names.specs.Naming.{name_in, between}
use Rattle.names.specs.Types.{declared_type}
use Rattle.operand_calls.specs.Calls.{first_of, has_call}
use Rattle.operand_parts.specs.Parts.{selected, indexed}
use Rattle.operand_parts.specs.ArrayTypes.{length_of, array_with}
use Rattle.operand_parts.specs.Literals.{type_elided, elided, element_part, shape_fits}
use Rattle.operand_parts.specs.LiteralValues.{Placed, composed}
use Rattle.given_values.specs.declared.wants.Wanted.{Wanted}
use Rattle.given_values.specs.Given.{Gives, one, quoted, name_operand, prefix_gives, pair_gives, operand_in, Seen, wanted_before, Callee, measurer, callee, spread_over, called_with, as_condition}

-- ---- conditions

-- the condition of a loop, where it has one
abbrev pub condition_in : Clause → Option TreeEx
condition_in forever = None
condition_in (while_true e) = Some e
condition_in (counting before e behind) = e
condition_in (ranging _ at e) = None

-- ---- calls that don't evaluate their operand

-- `len` and `cap` don't evaluate an array, so no function is called in it
abbrev pub is_quiet : Option Operand → Bool
is_quiet (Some (value (Array n e) x)) = not (has_call x)
is_quiet o = true

abbrev pub are_quiet : Callee → List Seen → Bool
are_quiet (measurer m) (o ∷ []) = is_quiet (operand_in o.gives)
are_quiet k os = true

abbrev pub called_quietly : Pos → Callee → List Seen → Option Gives
called_quietly at k os = allowed (are_quiet k os) (called_with at k os)

-- ---- constants that are worked out before the types of variables: lengths of arrays, and the constants of a package

-- where the first call stands by which a constant is worked out: one of `len` or `cap`
abbrev pub call_in : TreeEx → Option Pos
call_in (unary at op e) = call_in e
call_in (binary at op a b) = first_of (call_in a) (call_in b)
call_in (paren at e) = call_in e
call_in (call f es spread) = Some (first_pos f)
call_in other = None

-- such a constant is left out there
abbrev pub early : Option Pos → Operand → Option Operand
early found (constant f) = allowed (is_none found) (Some (constant f))
early found (value t x) = Some (value t x)
early found nil = Some nil

module _ (text : List ℕ) where
  -- a composite literal of a type or of none that is known, by its elements
  abbrev pub literal_given : Scope → Option ValueType → TreeElements → List Placed → Option Gives
  literal_given s None es qs = None
  literal_given s (Some t) es qs = option_map one (composed s.types t (shape_fits text s t es) qs)

  -- what an expression gives in a scope, where no rule fails in it; a form that is left out of the profile gives nothing
  abbrev mutual
    pub gives : Scope → TreeEx → Option Gives
    gives s (number at n) = if nat_lt n (2 ^ 127) then Some (one (constant (untyped (Number (pos n))))) else None
    gives s (string at behind) = Some (quoted at (string_value (between text at.offset behind)))
    gives s (name n) = option_map one (name_operand s (declaration s (spelled text n)))
    gives s (unary at op e) = prefix_gives op (has_rules op) (operand_in (gives s e))
    gives s (binary at op a b) = pair_gives at op (operand_in (gives s a)) (operand_in (gives s b))
    gives s (paren at e) = gives s e
    gives s (call f es spread) = called_quietly (first_pos f) (spread_over spread (callee text s (name_in f) (gives s f))) (seen s es)
    gives s (selector e at n) = option_map one (option_and_then (selected text s n) (operand_in (gives s e)))
    gives s (index e at i) = option_map one (both (indexed s.types at) (operand_in (gives s e)) (operand_in (gives s i)))
    gives s (slice e at low high) = None
    gives s (array_type at len e) = None
    gives s (slice_type at e) = None
    gives s (literal e es) = literal_given s (stated_type s e) es (placed s (stated_type s e) 0 es)
    gives s (elements at es) = None

    -- the type that an expression states
    pub stated_type : Scope → TreeEx → Option ValueType
    stated_type s (name n) = declared_type s.types (declaration s (spelled text n))
    stated_type s (paren at e) = stated_type s e
    stated_type s (array_type at len e) =
        array_with s.types (option_and_then length_of (option_and_then (early (call_in len)) (operand_in (gives s len)))) (stated_type s e)
    stated_type s other = None

    -- the elements of a literal of a type, from a number on: one without a type of its own has that of the whole's elements, where it may be left out
    pub placed : Scope → Option ValueType → ℕ → TreeElements → List Placed
    placed s t n no_elements = []
    placed s t n (element key (elements at es) rest) =
        record { part = element_part text s t n key; at = at; operand = operand_in (literal_given s (type_elided (elided s.types t)) es (placed s (type_elided (elided s.types t)) 0 es)) } ∷ placed s t (1 + n) rest
    placed s t n (element key e rest) = record { part = element_part text s t n key; at = first_pos e; operand = operand_in (gives s e) } ∷ placed s t (1 + n) rest

    pub seen : Scope → TreeExs → List Seen
    seen s tree.none = []
    seen s (some e es) = record { at = first_pos e; gives = gives s e } ∷ seen s es

  -- what an expression gives as the length of an array or the constant of a package
  abbrev pub early_gives : Scope → TreeEx → Option Operand
  early_gives s e = option_and_then (early (call_in e)) (operand_in (gives s e))

  -- what a literal gives, and an element of one
  abbrev pub literal_gives : Scope → Option ValueType → TreeElements → Option Gives
  literal_gives s t es = literal_given s t es (placed s t 0 es)

  abbrev pub element_gives : Scope → Option ValueType → TreeEx → Option Gives
  element_gives s t (elements at es) = literal_gives s (type_elided (elided s.types t)) es
  element_gives s t e = gives s e

  -- what the names of a declaration ask for, before which a type stands or none
  abbrev pub declared_wanted : Scope → Option TreeEx → Wanted
  declared_wanted s o = wanted_before (option_map (stated_type s) o)

  abbrev pub spec_wanted : Scope → ValueSpec → List Wanted
  spec_wanted s v = map (λ n. declared_wanted s v.type_expr) v.names

  -- what a condition is
  abbrev pub condition : Scope → TreeEx → Option Ex
  condition s e = option_and_then as_condition (operand_in (gives s e))

  -- a condition, where there is one
  abbrev pub test : Scope → Option TreeEx → Option (Option Ex)
  test s None = Some None
  test s (Some e) = option_map Some (condition s e)
