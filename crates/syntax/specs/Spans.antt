-- Where the names and strings of a tree stand in a text of n bytes.
use Rattle.std.specs.Prelude.{ℕ, ◌≤◌, List, Option, Some, None}
use Rattle.std.specs.List.{AllByRecursion}
use Rattle.base.specs.declared.pos.Pos.{Pos}
use Rattle.syntax.specs.declared.expression.Name.{Name}
use Rattle.syntax.specs.Expressions.{Ex, number, string, name, unary, binary, paren, call, selector, index, slice, array_type, slice_type, literal, elements, Exs, none, some, Bound, no_bound, bound_at, Elements, no_elements, element}
use Rattle.syntax.specs.Statements.{Simple, express, assign, update, define, increment, decrement, ValueSpec, Guard, Targets, no_targets, targets_assigned, targets_defined, Clause, forever, while_true, counting, ranging, Stm, var_stmt, simple, block, if_stmt, for_stmt, break_stmt, continue_stmt, return_stmt, Stms, nil, cons, Els, no_else, else_block, else_if}
use Rattle.syntax.specs.Declarations.{Field, Parameters, unnamed, named, TypeSpec, Body, Function, Declaration, constants, variables, types, function, File}

-- from a position to an offset
abbrev pub IsSpan : ℕ → Pos → ℕ → Type 0
IsSpan n pos end = (pos.offset ≤ end) × (end ≤ n)

-- the span of a name lies in the text
abbrev pub IsNameSpan : ℕ → Name → Type 0
IsNameSpan n x = IsSpan n x.pos x.end

abbrev pub NamesSpans : ℕ → List Name → Type 0
NamesSpans n xs = AllByRecursion (IsNameSpan n) xs

abbrev pub KeySpan : ℕ → Option Name → Type 0
KeySpan n None = Unit {0}
KeySpan n (Some x) = IsNameSpan n x

-- of each name and string in an expression
abbrev mutual
  pub ExSpans : ℕ → Ex → Type 0
  ExSpans n (number pos k) = Unit {0}
  ExSpans n (string pos end) = IsSpan n pos end
  ExSpans n (name x) = IsNameSpan n x
  ExSpans n (unary pos op e) = ExSpans n e
  ExSpans n (binary pos op a b) = ExSpans n a × ExSpans n b
  ExSpans n (paren pos e) = ExSpans n e
  ExSpans n (call f es spread) = ExSpans n f × ExsSpans n es
  ExSpans n (selector e pos x) = ExSpans n e × IsNameSpan n x
  ExSpans n (index e pos i) = ExSpans n e × ExSpans n i
  ExSpans n (slice e pos low high) = ExSpans n e × BoundSpans n low × BoundSpans n high
  ExSpans n (array_type pos len e) = ExSpans n len × ExSpans n e
  ExSpans n (slice_type pos e) = ExSpans n e
  ExSpans n (literal t es) = ExSpans n t × ElementsSpans n es
  ExSpans n (elements pos es) = ElementsSpans n es

  pub ExsSpans : ℕ → Exs → Type 0
  ExsSpans n none = Unit {0}
  ExsSpans n (some e es) = ExSpans n e × ExsSpans n es

  pub BoundSpans : ℕ → Bound → Type 0
  BoundSpans n no_bound = Unit {0}
  BoundSpans n (bound_at e) = ExSpans n e

  pub ElementsSpans : ℕ → Elements → Type 0
  ElementsSpans n no_elements = Unit {0}
  ElementsSpans n (element key e es) = KeySpan n key × ExSpans n e × ElementsSpans n es

abbrev pub OptionalSpans : ℕ → Option Ex → Type 0
OptionalSpans n None = Unit {0}
OptionalSpans n (Some e) = ExSpans n e

abbrev pub SimpleSpans : ℕ → Simple → Type 0
SimpleSpans n (express e) = ExSpans n e
SimpleSpans n (assign ls pos es) = ExsSpans n ls × ExsSpans n es
SimpleSpans n (update ls pos op es) = ExsSpans n ls × ExsSpans n es
SimpleSpans n (define xs pos es) = NamesSpans n xs × ExsSpans n es
SimpleSpans n (increment e pos) = ExSpans n e
SimpleSpans n (decrement e pos) = ExSpans n e

abbrev pub OptionalSimpleSpans : ℕ → Option Simple → Type 0
OptionalSimpleSpans n None = Unit {0}
OptionalSimpleSpans n (Some s) = SimpleSpans n s

abbrev pub ValueSpecSpans : ℕ → ValueSpec → Type 0
ValueSpecSpans n s = NamesSpans n s.names × OptionalSpans n s.type_expr × ExsSpans n s.values

abbrev pub GuardSpans : ℕ → Guard → Type 0
GuardSpans n g = OptionalSimpleSpans n g.init × ExSpans n g.condition

abbrev pub TargetsSpans : ℕ → Targets → Type 0
TargetsSpans n no_targets = Unit {0}
TargetsSpans n (targets_assigned es pos) = ExsSpans n es
TargetsSpans n (targets_defined xs pos) = NamesSpans n xs

abbrev pub ClauseSpans : ℕ → Clause → Type 0
ClauseSpans n forever = Unit {0}
ClauseSpans n (while_true e) = ExSpans n e
ClauseSpans n (counting s c p) = OptionalSimpleSpans n s × OptionalSpans n c × OptionalSimpleSpans n p
ClauseSpans n (ranging t pos e) = TargetsSpans n t × ExSpans n e

-- of each name in a statement, in the statements of a block, and after the body of an `if`
abbrev mutual
  pub StmSpans : ℕ → Stm → Type 0
  StmSpans n (var_stmt pos specs) = AllByRecursion (ValueSpecSpans n) specs
  StmSpans n (simple s) = SimpleSpans n s
  StmSpans n (block ss) = StmsSpans n ss
  StmSpans n (if_stmt pos g ss e) = GuardSpans n g × StmsSpans n ss × ElsSpans n e
  StmSpans n (for_stmt pos c ss) = ClauseSpans n c × StmsSpans n ss
  StmSpans n (break_stmt pos) = Unit {0}
  StmSpans n (continue_stmt pos) = Unit {0}
  StmSpans n (return_stmt pos es) = ExsSpans n es

  pub StmsSpans : ℕ → Stms → Type 0
  StmsSpans n nil = Unit {0}
  StmsSpans n (cons s ss) = StmSpans n s × StmsSpans n ss

  pub ElsSpans : ℕ → Els → Type 0
  ElsSpans n no_else = Unit {0}
  ElsSpans n (else_block ss) = StmsSpans n ss
  ElsSpans n (else_if pos g ss e) = GuardSpans n g × StmsSpans n ss × ElsSpans n e

abbrev pub FieldSpans : ℕ → Field → Type 0
FieldSpans n f = NamesSpans n f.names × ExSpans n f.type_expr

abbrev pub ParametersSpans : ℕ → Parameters → Type 0
ParametersSpans n (unnamed ts) = ExsSpans n ts
ParametersSpans n (named fs) = AllByRecursion (FieldSpans n) fs

abbrev pub TypeSpecSpans : ℕ → TypeSpec → Type 0
TypeSpecSpans n s = IsNameSpan n s.name × AllByRecursion (FieldSpans n) s.fields

abbrev pub BodySpans : ℕ → Option Body → Type 0
BodySpans n None = Unit {0}
BodySpans n (Some b) = StmsSpans n b.statements

abbrev pub FunctionSpans : ℕ → Function → Type 0
FunctionSpans n f = IsNameSpan n f.name × ParametersSpans n f.params × ParametersSpans n f.results × BodySpans n f.body

abbrev pub DeclarationSpans : ℕ → Declaration → Type 0
DeclarationSpans n (constants pos specs) = AllByRecursion (ValueSpecSpans n) specs
DeclarationSpans n (variables pos specs) = AllByRecursion (ValueSpecSpans n) specs
DeclarationSpans n (types pos specs) = AllByRecursion (TypeSpecSpans n) specs
DeclarationSpans n (function f) = FunctionSpans n f

-- of each name in a tree
abbrev pub FileSpans : ℕ → File → Type 0
FileSpans n file = IsNameSpan n file.package_name × AllByRecursion (DeclarationSpans n) file.declarations
