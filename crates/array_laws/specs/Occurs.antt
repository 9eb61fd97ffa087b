-- Where an array type stands in a text: by the length and the type of the elements that it states.
use Rattle.std.specs.Prelude.{◌≡◌, ◌⊎◌, List, [], ◌∷◌, Option, Some, None}
use Rattle.syntax.specs.Expressions.{Ex as TreeEx, Exs as TreeExs, Bound as TreeBound, Elements as TreeElements, number, string, name, unary, binary, paren, call, selector, index, slice, array_type, slice_type, literal, elements, none, some, no_bound, bound_at, no_elements, element}
use Rattle.syntax.specs.Statements.{Simple, express, assign, update, define, increment, decrement, ValueSpec, Guard, Targets, no_targets, targets_assigned, targets_defined, Clause, forever, while_true, counting, ranging, Stm, Stms, Els, var_stmt, simple, block, if_stmt, for_stmt, break_stmt, continue_stmt, return_stmt, nil, cons, no_else, else_block, else_if}
use Rattle.syntax.specs.Declarations.{Field, Parameters, unnamed, named, TypeSpec, Body, Function, Declaration, constants, variables, types, function}

-- one of a list
abbrev pub InOne : {A : Type 0} → (A → Type 0) → List A → Type 0
InOne P [] = ⊥
InOne P (x ∷ xs) = P x ⊎ InOne P xs

-- what there is, if there is something
abbrev pub InSome : {A : Type 0} → (A → Type 0) → Option A → Type 0
InSome P None = ⊥
InSome P (Some x) = P x

module _ (len e : TreeEx) where
  -- ---- expressions and types

  abbrev mutual
    -- arrays of this length, with elements of this type, stand in an expression or a type
    pub StandsIn : TreeEx → Type 0
    StandsIn (number at n) = ⊥
    StandsIn (string at behind) = ⊥
    StandsIn (name n) = ⊥
    StandsIn (unary at op x) = StandsIn x
    StandsIn (binary at op a b) = StandsIn a ⊎ StandsIn b
    StandsIn (paren at x) = StandsIn x
    StandsIn (call f xs spread) = StandsIn f ⊎ StandsInEach xs
    StandsIn (selector x at n) = StandsIn x
    StandsIn (index x at i) = StandsIn x ⊎ StandsIn i
    StandsIn (slice x at low high) = StandsIn x ⊎ (StandsInBound low ⊎ StandsInBound high)
    StandsIn (array_type at l x) = ((l ≡ len) × (x ≡ e)) ⊎ (StandsIn l ⊎ StandsIn x)
    StandsIn (slice_type at x) = StandsIn x
    StandsIn (literal x xs) = StandsIn x ⊎ StandsInElements xs
    StandsIn (elements at xs) = StandsInElements xs

    pub StandsInEach : TreeExs → Type 0
    StandsInEach none = ⊥
    StandsInEach (some x xs) = StandsIn x ⊎ StandsInEach xs

    pub StandsInBound : TreeBound → Type 0
    StandsInBound no_bound = ⊥
    StandsInBound (bound_at x) = StandsIn x

    pub StandsInElements : TreeElements → Type 0
    StandsInElements no_elements = ⊥
    StandsInElements (element key x xs) = StandsIn x ⊎ StandsInElements xs

  -- ---- statements

  abbrev pub StandsInSpec : ValueSpec → Type 0
  StandsInSpec v = InSome StandsIn v.type_expr ⊎ StandsInEach v.values

  abbrev pub StandsInSpecs : List ValueSpec → Type 0
  StandsInSpecs vs = InOne StandsInSpec vs

  abbrev pub StandsInSimple : Simple → Type 0
  StandsInSimple (express x) = StandsIn x
  StandsInSimple (assign places at xs) = StandsInEach places ⊎ StandsInEach xs
  StandsInSimple (update places at op xs) = StandsInEach places ⊎ StandsInEach xs
  StandsInSimple (define ns at xs) = StandsInEach xs
  StandsInSimple (increment x at) = StandsIn x
  StandsInSimple (decrement x at) = StandsIn x

  abbrev pub StandsInGuard : Guard → Type 0
  StandsInGuard g = InSome StandsInSimple g.init ⊎ StandsIn g.condition

  abbrev pub StandsInTargets : Targets → Type 0
  StandsInTargets no_targets = ⊥
  StandsInTargets (targets_assigned xs at) = StandsInEach xs
  StandsInTargets (targets_defined ns at) = ⊥

  abbrev pub StandsInClause : Clause → Type 0
  StandsInClause forever = ⊥
  StandsInClause (while_true x) = StandsIn x
  StandsInClause (counting before x behind) = InSome StandsInSimple before ⊎ (InSome StandsIn x ⊎ InSome StandsInSimple behind)
  StandsInClause (ranging targets at x) = StandsInTargets targets ⊎ StandsIn x

  abbrev mutual
    pub StandsInStatement : Stm → Type 0
    StandsInStatement (var_stmt at vs) = StandsInSpecs vs
    StandsInStatement (simple m) = StandsInSimple m
    StandsInStatement (block ms) = StandsInStatements ms
    StandsInStatement (if_stmt at g ms rest) = StandsInGuard g ⊎ (StandsInStatements ms ⊎ StandsInElse rest)
    StandsInStatement (for_stmt at c ms) = StandsInClause c ⊎ StandsInStatements ms
    StandsInStatement (break_stmt at) = ⊥
    StandsInStatement (continue_stmt at) = ⊥
    StandsInStatement (return_stmt at xs) = StandsInEach xs

    pub StandsInElse : Els → Type 0
    StandsInElse no_else = ⊥
    StandsInElse (else_block ms) = StandsInStatements ms
    StandsInElse (else_if at g ms rest) = StandsInGuard g ⊎ (StandsInStatements ms ⊎ StandsInElse rest)

    pub StandsInStatements : Stms → Type 0
    StandsInStatements nil = ⊥
    StandsInStatements (cons m ms) = StandsInStatement m ⊎ StandsInStatements ms

  -- ---- declarations

  abbrev pub StandsInField : Field → Type 0
  StandsInField f = StandsIn f.type_expr

  abbrev pub StandsInFields : List Field → Type 0
  StandsInFields fs = InOne StandsInField fs

  abbrev pub StandsInParameters : Parameters → Type 0
  StandsInParameters (unnamed xs) = StandsInEach xs
  StandsInParameters (named fs) = StandsInFields fs

  abbrev pub StandsInTypeSpec : TypeSpec → Type 0
  StandsInTypeSpec t = StandsInFields t.fields

  abbrev pub StandsInBody : Body → Type 0
  StandsInBody b = StandsInStatements b.statements

  abbrev pub StandsInFunction : Function → Type 0
  StandsInFunction f = StandsInParameters f.params ⊎ (StandsInParameters f.results ⊎ InSome StandsInBody f.body)

  abbrev pub StandsInDeclaration : Declaration → Type 0
  StandsInDeclaration (constants at vs) = StandsInSpecs vs
  StandsInDeclaration (variables at vs) = StandsInSpecs vs
  StandsInDeclaration (types at ts) = InOne StandsInTypeSpec ts
  StandsInDeclaration (function f) = StandsInFunction f

  abbrev pub StandsInAll : List Declaration → Type 0
  StandsInAll ds = InOne StandsInDeclaration ds
