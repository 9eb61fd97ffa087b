-- Which rules fail in a statement without statements in it, and where each is reported. A rule is looked at only where its operands have
-- types.
use Rattle.std.specs.Prelude.{ℕ, ◌⊎◌, Bool, true, false, not, ◌&&◌, length, List, [], ◌∷◌, Option, Some, None, is_some, option_and_then, if◌then◌else◌}
use Rattle.base.specs.declared.pos.Pos.{Pos}
use Rattle.type_faults.specs.declared.fault.Fault.{Fault}
use Rattle.syntax.specs.declared.expression.Name.{Name}
use Rattle.syntax.specs.declared.operator.ArithmeticOp.{ArithmeticOp}
use Rattle.syntax.specs.declared.operator.BinOp.TheVariants.{Arithmetic}
use Rattle.syntax.specs.FirstBytes.{first_pos}
use Rattle.syntax.specs.Expressions.{Ex as TreeEx, Exs as TreeExs, some, spelled}
use Rattle.syntax.specs.Expressions as expressions
use Rattle.syntax.specs.Statements.{Simple, ValueSpec}
use Rattle.syntax.specs.Statements as tree
use Rattle.type_faults.specs.declared.fault.FaultKind.TheVariants.{Unknown, Redeclared, NothingNew, NotAssignable, WrongCount, ResultCount, NotUsedValue, Unfit, OutOfProfile}
use Rattle.base.specs.declared.value_type.ValueType.TheVariants.{Int}
use Rattle.type_faults.specs.Faults.{fault, IsFault}
use Rattle.operators.specs.Operands.{Operand, is_assignable, place_of}
use Rattle.operators.specs.Faults.{pair_fault}
use Rattle.names.specs.Blocks.{Blocks}
use Rattle.names.specs.declared.scope.Declared.{Declared}
use Rattle.names.specs.declared.scope.Declared.TheVariants as declared
use Rattle.names.specs.Universe.{is_blank}
use Rattle.names.specs.Scope.{Scope, declaration, is_here}
use Rattle.names.specs.Naming.{name_in}
use Rattle.given_values.specs.Given.{Gives, one, called, asking, quoted, printed, panicked, exited, operand_in, Seen, many, count}
use Rattle.expression_types.specs.Typing.{spec_wanted, gives, seen}
use Rattle.given_values.specs.GivenFaults.{refused_fault, ValuesFail, PlacedFail, CountFails, TakeFails}
use Rattle.expression_types.specs.Faults.{Fails, FailsInEach, FailsAsOperand, FailsBefore}
use Rattle.signatures.specs.declared.entries.Role.TheVariants.{Parameter}
use Rattle.signatures.specs.EntryFaults.{EntriesFail}
use Rattle.signatures.specs.Failing.{fault_where}
use Rattle.simple_statements.specs.SimpleStatements.{Returns, only, noted, is_noted, lefts, all_wanted, all_new_wanted, has_all, own_value, is_bare, spec_slots, behind_spec}

-- ---- left sides

-- A name on the left side of `=` is blank, or a variable. The places are those of the name and of the whole left side.
abbrev pub left_fault : (is_blank : Bool) → Option Declared → Pos → Pos → Option Fault
left_fault true d pos whole = None
left_fault false None pos whole = Some (fault Unknown pos)
left_fault false (Some (declared.Variable site t)) pos whole = None
left_fault false (Some declared.Untyped) pos whole = None
left_fault false (Some (declared.Global k g)) pos whole = None
left_fault false (Some (declared.«Type» t)) pos whole = Some (fault Unfit pos)
left_fault false (Some declared.LeftOutType) pos whole = Some (fault OutOfProfile pos)
left_fault false (Some declared.LeftOutValue) pos whole = Some (fault OutOfProfile pos)
left_fault false (Some other) pos whole = Some (fault NotAssignable whole)

-- a name on the left of `:=` is blank, new, or a variable that the block has
abbrev pub new_name_fault : (is_blank is_here : Bool) → Option Declared → Pos → Option Fault
new_name_fault true is_here d pos = None
new_name_fault false true d pos = left_fault false d pos pos
new_name_fault false false d pos = None

-- a name on the left of an assignment with an operator, or before `++` or `--`, has a value
abbrev pub own_fault : (is_blank : Bool) → Option Declared → Pos → Pos → Option Fault
own_fault true d pos whole = Some (fault Unknown pos)
own_fault false d pos whole = left_fault false d pos whole

-- what is no place can't be given a value
abbrev pub place_fault : Option Operand → Pos → Option Fault
place_fault None pos = None
place_fault (Some x) pos = fault_where (not (is_some (place_of x))) (fault NotAssignable pos)

-- where a statement with names begins, and one with expressions on its left
abbrev pub names_place : List Name → Pos → Pos
names_place [] pos = pos
names_place (n ∷ ns) pos = n.pos

abbrev pub lefts_place : TreeExs → Pos → Pos
lefts_place expressions.none pos = pos
lefts_place (some e es) pos = first_pos e

-- ---- rules of statements

-- a value alone is no statement
abbrev pub use_fault : Option Gives → Pos → Option Fault
use_fault None at = None
use_fault (Some (one x)) at = Some (fault NotUsedValue at)
use_fault (Some (called call_pos ts g es)) at = None
use_fault (Some (asking call_pos)) at = None
use_fault (Some (quoted string_pos bytes)) at = Some (fault OutOfProfile string_pos)
use_fault (Some (printed call_pos line ps)) at = None
use_fault (Some (panicked call_pos p)) at = None
use_fault (Some (exited call_pos e)) at = None

-- `++` and `--` take an int
abbrev pub step_fault : Option Operand → Pos → Option Fault
step_fault None pos = None
step_fault (Some x) pos = fault_where (not (is_assignable Int x)) (fault Unfit pos)

-- other values than the function gives back
abbrev pub ReturnFails : Pos → Returns → List Seen → Fault → Type 0
ReturnFails pos r [] f = IsFault (fault_where (not r.may_be_bare) (fault ResultCount pos)) f
ReturnFails pos r (o ∷ os) f = TakeFails (fault ResultCount pos) r.wanted (o ∷ os) f

-- how many values there are, where that is looked at
abbrev pub given_count : Bool → List Seen → Option ℕ
given_count known os = if known then count os else None

module _ (text : List ℕ) where
  -- a left side of `=`: a name, in parentheses or not, or an expression with its own rules
  abbrev pub LeftSideFails : Scope → Option Name → TreeEx → Fault → Type 0
  LeftSideFails s (Some n) e f = IsFault (left_fault (is_blank (spelled text n)) (declaration s (spelled text n)) n.pos (first_pos e)) f
  LeftSideFails s None e f = FailsAsOperand text s e f ⊎ IsFault (place_fault (operand_in (gives text s e)) (first_pos e)) f

  abbrev pub LeftsFail : Scope → TreeExs → Fault → Type 0
  LeftsFail s expressions.none f = ⊥
  LeftsFail s (some e es) f = LeftSideFails s (name_in e) e f ⊎ LeftsFail s es f

  -- the same where its value is asked for
  abbrev pub OwnSideFails : Scope → Option Name → TreeEx → Fault → Type 0
  OwnSideFails s (Some n) e f = IsFault (own_fault (is_blank (spelled text n)) (declaration s (spelled text n)) n.pos (first_pos e)) f
  OwnSideFails s None e f = LeftSideFails s None e f

  abbrev pub OwnSidesFail : Scope → TreeExs → Fault → Type 0
  OwnSidesFail s expressions.none f = ⊥
  OwnSidesFail s (some e es) f = OwnSideFails s (name_in e) e f ⊎ OwnSidesFail s es f

  abbrev pub NewNamesFail : Scope → List Name → Fault → Type 0
  NewNamesFail s [] f = ⊥
  NewNamesFail s (n ∷ ns) f =
      IsFault (new_name_fault (is_blank (spelled text n)) (is_here s (spelled text n)) (declaration s (spelled text n)) n.pos) f ⊎ NewNamesFail s ns f

  -- a name stands twice
  abbrev pub TwiceFails : Blocks → List Name → Fault → Type 0
  TwiceFails names [] f = ⊥
  TwiceFails names (n ∷ ns) f = IsFault (fault_where (is_noted names (spelled text n)) (fault Redeclared n.pos)) f ⊎ TwiceFails (noted names (spelled text n)) ns f

  -- ---- simple statements

  -- the number of values is looked at where all left sides have types
  abbrev pub FailsInAssignment : Scope → TreeExs → Pos → TreeExs → Fault → Type 0
  FailsInAssignment s ls pos es f =
      (LeftsFail s ls f ⊎ FailsInEach text s es f)
      ⊎ (PlacedFail (all_wanted text s ls) (seen text s es) f
      ⊎ CountFails (option_and_then (λ ks. count (seen text s es)) (lefts text s ls)) (length (all_wanted text s ls)) (fault WrongCount (lefts_place ls pos)) f)

  abbrev pub FailsInDefinition : Scope → List Name → Pos → TreeExs → Fault → Type 0
  FailsInDefinition s ns pos es f =
      ((FailsInEach text s es f ⊎ TakeFails (fault WrongCount (names_place ns pos)) (all_new_wanted text s ns) (seen text s es) f) ⊎ NewNamesFail s ns f)
      ⊎ (TwiceFails ([] ∷ []) ns f ⊎ IsFault (fault_where (has_all text s ns) (fault NothingNew pos)) f)

  -- how many values there are, where each left side has one of its own
  abbrev pub have_values : Scope → TreeExs → Bool
  have_values s expressions.none = true
  have_values s (some e es) = is_some (own_value text s e) && have_values s es

  -- the operator between one left side and one value; with another number of them, the statement is at fault
  abbrev pub UpdateFails : Scope → TreeExs → Pos → ArithmeticOp → TreeExs → Option TreeEx → Option TreeEx → Fault → Type 0
  UpdateFails s ls pos tree_op es (Some e) (Some v) f =
      (OwnSideFails s (name_in e) e f ⊎ FailsAsOperand text s v f)
      ⊎ IsFault (pair_fault (first_pos e) (first_pos v) (Arithmetic tree_op) (own_value text s e) (operand_in (gives text s v))) f
  UpdateFails s ls pos tree_op es e v f =
      ((OwnSidesFail s ls f ⊎ FailsInEach text s es f) ⊎ ValuesFail (many (seen text s es)) (seen text s es) f)
      ⊎ IsFault (refused_fault (given_count (have_values s ls) (seen text s es)) (fault WrongCount (lefts_place ls pos))) f

  abbrev pub FailsInUpdate : Scope → TreeExs → Pos → ArithmeticOp → TreeExs → Fault → Type 0
  FailsInUpdate s ls pos tree_op es f = UpdateFails s ls pos tree_op es (only ls) (only es) f

  abbrev pub FailsInStep : Scope → TreeEx → Fault → Type 0
  FailsInStep s e f = OwnSideFails s (name_in e) e f ⊎ IsFault (step_fault (own_value text s e) (first_pos e)) f

  abbrev pub FailsInSimple : Scope → Simple → Fault → Type 0
  FailsInSimple s (tree.express e) f = Fails text s e f ⊎ IsFault (use_fault (gives text s e) (first_pos e)) f
  FailsInSimple s (tree.assign ls pos es) f = FailsInAssignment s ls pos es f
  FailsInSimple s (tree.update ls pos tree_op es) f = FailsInUpdate s ls pos tree_op es f
  FailsInSimple s (tree.define ns pos es) f = FailsInDefinition s ns pos es f
  FailsInSimple s (tree.increment e pos) f = FailsInStep s e f
  FailsInSimple s (tree.decrement e pos) f = FailsInStep s e f

  -- ---- a `var` among statements, whose word stands at a place

  abbrev pub SpecTakeFails : Scope → Pos → ValueSpec → Fault → Type 0
  SpecTakeFails s pos v f = FailsInEach text s v.values f ⊎ TakeFails (fault WrongCount pos) (spec_wanted text s v) (seen text s v.values) f

  abbrev pub SpecValuesFail : Bool → Scope → Pos → ValueSpec → Fault → Type 0
  SpecValuesFail true s pos v f = ⊥
  SpecValuesFail false s pos v f = SpecTakeFails s pos v f

  abbrev pub FailsInSpec : Scope → Pos → ValueSpec → Fault → Type 0
  FailsInSpec s pos v f = FailsBefore text s v.type_expr f ⊎ (SpecValuesFail (is_bare v.type_expr v.values) s pos v f ⊎ EntriesFail text Parameter s (spec_slots text s v) f)

  abbrev pub FailsInSpecs : Scope → Pos → List ValueSpec → Fault → Type 0
  FailsInSpecs s pos [] f = ⊥
  FailsInSpecs s pos (v ∷ vs) f = FailsInSpec s pos v f ⊎ FailsInSpecs (behind_spec text s v) pos vs f
