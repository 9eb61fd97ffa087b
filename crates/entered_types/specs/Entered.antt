-- The array types that a text states, entered into the table of a scope's types (Go specification, "Array types"). They enter in the order of
-- the text, and each after those in its parts; of the scope nothing else changes. An array type enters where its length and the type of its
-- elements are known by then, and the table doesn't refuse it.
use Rattle.std.specs.Prelude.{◌≡◌, ℕ, List, Option, Some, None, is_some, option_and_then, if◌then◌else◌, fold}
use Rattle.base.specs.declared.value_type.ValueType.{ValueType}
use Rattle.base.specs.declared.value_type.ValueType.TheVariants.{Array}
use Rattle.syntax.specs.Expressions.{Ex as TreeEx, Exs as TreeExs, Bound as TreeBound, Elements as TreeElements, number, string, name, unary, binary, paren, call, selector, index, slice, array_type, slice_type, literal, elements, none, some, no_bound, bound_at, no_elements, element, spelled}
use Rattle.syntax.specs.Statements.{Simple, express, assign, update, define, increment, decrement, ValueSpec, Guard, Targets, no_targets, targets_assigned, targets_defined, Clause, forever, while_true, counting, ranging, Stm, Stms, Els, var_stmt, simple, block, if_stmt, for_stmt, break_stmt, continue_stmt, return_stmt, nil, cons, no_else, else_block, else_if}
use Rattle.syntax.specs.Declarations.{Field, Parameters, unnamed, named, TypeSpec, Body, Function, Declaration, constants, variables, types, function}
use Rattle.typed.specs.Tables.{Table, Holds, number_of, with_type}
use Rattle.typed.specs.Formed.{refusal, KeepsTrees}
use Rattle.names.specs.Scope.{Scope, declaration}
use Rattle.names.specs.Types.{declared_type}
use Rattle.operand_parts.specs.ArrayTypes.{length_of, array_with}
use Rattle.expression_types.specs.Typing.{early_gives}

-- a table with a type, unless it refuses that
abbrev pub admitted : Table → ValueType → Table
admitted T t = if is_some (refusal T t) then T else with_type T t

-- with the type of arrays of a length, whose elements are of the type of a number
abbrev pub with_numbered : Table → ℕ → Option ℕ → Table
with_numbered T n None = T
with_numbered T n (Some e) = admitted T (Array n (record { 0 = e }))

-- with the type of arrays of a length and of elements of a type, where both are known
abbrev pub with_array : Table → Option ℕ → Option ValueType → Table
with_array T (Some n) (Some t) = with_numbered T n (number_of T t)
with_array T n t = T

-- that type, after it has entered
abbrev pub array_entered : Table → Option ℕ → Option ValueType → Option ValueType
array_entered T n t = array_with (with_array T n t) n t

abbrev pub with_array_in : Scope → Option ℕ → Option ValueType → Scope
with_array_in s n t = record s { types = with_array s.types n t }

module _ (text : List ℕ) where
  -- the length of arrays that an expression is
  unfoldable pub length_in : Scope → TreeEx → Option ℕ
  length_in s e = option_and_then length_of (early_gives text s e)

  -- ---- expressions and types

  abbrev mutual
    -- after the types in an expression or a type
    pub entered : Scope → TreeEx → Scope
    entered s (number at n) = s
    entered s (string at behind) = s
    entered s (name n) = s
    entered s (unary at op e) = entered s e
    entered s (binary at op a b) = entered (entered s a) b
    entered s (paren at e) = entered s e
    entered s (call f es spread) = entered_each (entered s f) es
    entered s (selector e at n) = entered s e
    entered s (index e at i) = entered (entered s e) i
    entered s (slice e at low high) = entered_bound (entered_bound (entered s e) low) high
    entered s (array_type at len e) = with_array_in (entered (entered s len) e) (length_in (entered s len) len) (stated_after (entered s len) e)
    entered s (slice_type at e) = entered s e
    entered s (literal e es) = entered_elements (entered s e) es
    entered s (elements at es) = entered_elements s es

    -- the type that an expression states, after the types in it have entered
    pub stated_after : Scope → TreeEx → Option ValueType
    stated_after s (name n) = declared_type s.types (declaration s (spelled text n))
    stated_after s (paren at e) = stated_after s e
    stated_after s (array_type at len e) = array_entered (entered (entered s len) e).types (length_in (entered s len) len) (stated_after (entered s len) e)
    stated_after s other = None

    pub entered_each : Scope → TreeExs → Scope
    entered_each s none = s
    entered_each s (some e es) = entered_each (entered s e) es

    pub entered_bound : Scope → TreeBound → Scope
    entered_bound s no_bound = s
    entered_bound s (bound_at e) = entered s e

    pub entered_elements : Scope → TreeElements → Scope
    entered_elements s no_elements = s
    entered_elements s (element key e es) = entered_elements (entered s e) es

  abbrev pub entered_some : Scope → Option TreeEx → Scope
  entered_some s None = s
  entered_some s (Some e) = entered s e

  -- ---- statements

  abbrev pub entered_spec : Scope → ValueSpec → Scope
  entered_spec s v = entered_each (entered_some s v.type_expr) v.values

  abbrev pub entered_specs : Scope → List ValueSpec → Scope
  entered_specs s vs = fold entered_spec s vs

  abbrev pub entered_simple : Scope → Simple → Scope
  entered_simple s (express e) = entered s e
  entered_simple s (assign places at es) = entered_each (entered_each s places) es
  entered_simple s (update places at op es) = entered_each (entered_each s places) es
  entered_simple s (define ns at es) = entered_each s es
  entered_simple s (increment e at) = entered s e
  entered_simple s (decrement e at) = entered s e

  abbrev pub entered_simple_in : Scope → Option Simple → Scope
  entered_simple_in s None = s
  entered_simple_in s (Some m) = entered_simple s m

  abbrev pub entered_guard : Scope → Guard → Scope
  entered_guard s g = entered (entered_simple_in s g.init) g.condition

  abbrev pub entered_targets : Scope → Targets → Scope
  entered_targets s no_targets = s
  entered_targets s (targets_assigned es at) = entered_each s es
  entered_targets s (targets_defined ns at) = s

  abbrev pub entered_clause : Scope → Clause → Scope
  entered_clause s forever = s
  entered_clause s (while_true e) = entered s e
  entered_clause s (counting before e behind) = entered_simple_in (entered_some (entered_simple_in s before) e) behind
  entered_clause s (ranging targets at e) = entered (entered_targets s targets) e

  abbrev mutual
    pub entered_statement : Scope → Stm → Scope
    entered_statement s (var_stmt at vs) = entered_specs s vs
    entered_statement s (simple m) = entered_simple s m
    entered_statement s (block ms) = entered_statements s ms
    entered_statement s (if_stmt at g ms rest) = entered_else (entered_statements (entered_guard s g) ms) rest
    entered_statement s (for_stmt at c ms) = entered_statements (entered_clause s c) ms
    entered_statement s (break_stmt at) = s
    entered_statement s (continue_stmt at) = s
    entered_statement s (return_stmt at es) = entered_each s es

    pub entered_else : Scope → Els → Scope
    entered_else s no_else = s
    entered_else s (else_block ms) = entered_statements s ms
    entered_else s (else_if at g ms rest) = entered_else (entered_statements (entered_guard s g) ms) rest

    pub entered_statements : Scope → Stms → Scope
    entered_statements s nil = s
    entered_statements s (cons m ms) = entered_statements (entered_statement s m) ms

  -- ---- declarations

  abbrev pub entered_field : Scope → Field → Scope
  entered_field s f = entered s f.type_expr

  abbrev pub entered_fields : Scope → List Field → Scope
  entered_fields s fs = fold entered_field s fs

  abbrev pub entered_parameters : Scope → Parameters → Scope
  entered_parameters s (unnamed es) = entered_each s es
  entered_parameters s (named fs) = entered_fields s fs

  abbrev pub entered_type_spec : Scope → TypeSpec → Scope
  entered_type_spec s t = entered_fields s t.fields

  abbrev pub entered_type_specs : Scope → List TypeSpec → Scope
  entered_type_specs s ts = fold entered_type_spec s ts

  abbrev pub entered_body : Scope → Option Body → Scope
  entered_body s None = s
  entered_body s (Some b) = entered_statements s b.statements

  abbrev pub entered_function : Scope → Function → Scope
  entered_function s f = entered_body (entered_parameters (entered_parameters s f.params) f.results) f.body

  abbrev pub entered_declaration : Scope → Declaration → Scope
  entered_declaration s (constants at vs) = entered_specs s vs
  entered_declaration s (variables at vs) = entered_specs s vs
  entered_declaration s (types at ts) = entered_type_specs s ts
  entered_declaration s (function f) = entered_function s f

  abbrev pub entered_all : Scope → List Declaration → Scope
  entered_all s ds = fold entered_declaration s ds

-- ---- what stays

-- of two scopes the second has all of the first, and nothing new but types
pub record OnlyEnters (r s : Scope) : Type 0 where
  pub others : s ≡ record r { types = s.types }
  pub structs : s.types.structs ≡ r.types.structs
  pub numbers : (i : ℕ) (t : ValueType) → Holds r.types i t → Holds s.types i t
  pub trees : KeepsTrees r.types s.types
