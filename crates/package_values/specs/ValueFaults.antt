-- Which rules fail in the declarations of constants and variables of a package, and where each is reported. They are looked at where what can be
-- known of them is known.
use Rattle.std.specs.Prelude.{◌≡◌, ◌⊎◌, ℕ, suc, ◌==◌, length, Bool, true, false, List, [], ◌∷◌, codes, slice_get, Option, Some, None, if◌then◌else◌}
use Rattle.std.specs.Option.{option_map}
use Rattle.std.specs.Str.{bytes_eq}
use Rattle.base.specs.declared.pos.Pos.{Pos}
use Rattle.syntax.specs.declared.expression.Name.{Name}
use Rattle.syntax.specs.FirstBytes.{first_pos}
use Rattle.syntax.specs.Expressions.{Ex as TreeEx, Exs as TreeExs, none, some, spelled}
use Rattle.syntax.specs.Statements.{ValueSpec}
use Rattle.syntax.specs.Declarations.{Declaration, constants, variables, types, function}
use Rattle.type_faults.specs.declared.fault.Fault.{Fault}
use Rattle.type_faults.specs.declared.fault.FaultKind.TheVariants.{Redeclared, Mismatch, WrongCount, ConstRange, Unfit, SelfReference, OutOfProfile}
use Rattle.base.specs.declared.value_type.ValueType.{ValueType}
use Rattle.constants.specs.Constants.{is_held}
use Rattle.type_faults.specs.Faults.{fault, IsFault}
use Rattle.operators.specs.Operands.{Operand, constant, value, nil}
use Rattle.names.specs.declared.scope.Declared.{Declared}
use Rattle.names.specs.declared.scope.Declared.TheVariants.{Constant, Global}
use Rattle.names.specs.Universe.{is_blank}
use Rattle.names.specs.Scope.{Scope, declaration}
use Rattle.given_values.specs.Given.{wanted_by, accepts_operand, operand_in, Seen, are_single}
use Rattle.expression_types.specs.Typing.{spec_wanted, stated_type, seen, call_in}
use Rattle.given_values.specs.GivenFaults.{SinglesFail, CountFails, TakeFails}
use Rattle.expression_types.specs.Faults.{FailsInEach, FailsBefore, early_fault}
use Rattle.package_values.specs.declared.items.Role.{Role}
use Rattle.package_values.specs.declared.items.Role.TheVariants as role
use Rattle.package_values.specs.Values.{Item, items_in}
use Rattle.package_values.specs.Needs.{has_form, Reaches}

-- how many values there are, where each gives one
abbrev pub single_count : List Seen → Option ℕ
single_count os = if are_single os then Some (length os) else None

-- a value of a type that a declaration has or not: of another type, beyond the type, or no constant
abbrev pub fitting_value_fault : Option ValueType → Pos → Operand → Option Fault
fitting_value_fault t pos (constant f) = if is_held t f.value then None else Some (fault ConstRange pos)
fitting_value_fault t pos (value u x) = Some (fault Unfit pos)
fitting_value_fault t pos nil = Some (fault Unfit pos)

abbrev pub value_fault : Option ValueType → Pos → Option Operand → Option Fault
value_fault t pos None = None
value_fault t pos (Some x) = if accepts_operand (wanted_by t) x then fitting_value_fault t pos x else Some (fault Mismatch pos)

abbrev pub ValuesFail : Option ValueType → List Seen → Fault → Type 0
ValuesFail t [] f = ⊥
ValuesFail t (o ∷ os) f = IsFault (value_fault t o.at (operand_in o.gives)) f ⊎ ValuesFail t os f

-- values that are worked out by `len` or `cap`
abbrev pub EarlyFail : TreeExs → List Seen → Fault → Type 0
EarlyFail (some e es) (o ∷ os) f = IsFault (early_fault (call_in e) (operand_in o.gives)) f ⊎ EarlyFail es os f
EarlyFail es os f = ⊥

-- the name of the constant or variable of a number: `init` is none, and the first declaration of a name stays
abbrev pub is_this_value : ℕ → Option Declared → Bool
is_this_value k (Some (Constant j)) = j.0 == k
is_this_value k (Some (Global j g)) = j.0 == k
is_this_value k other = false

abbrev pub value_name_fault : ℕ → (is_blank is_init : Bool) → Option Declared → Pos → Option Fault
value_name_fault k true is_init d pos = None
value_name_fault k false true d pos = Some (fault OutOfProfile pos)
value_name_fault k false false d pos = if is_this_value k d then None else Some (fault Redeclared pos)

-- a value that begins a variable has the form of a constant
abbrev pub form_fault : Bool → Pos → Option Fault
form_fault has_form pos = if has_form then None else Some (fault OutOfProfile pos)

-- a variable with a type begins with its zero value where no values stand there
abbrev pub is_bare : Option TreeEx → TreeExs → Bool
is_bare (Some t) none = true
is_bare t es = false

-- where a constant or variable that needs itself is reported: a constant at its name, and a variable at the first name of its declaration
abbrev pub first_of : Pos → List Name → Pos
first_of pos [] = pos
first_of pos (n ∷ ns) = n.pos

abbrev pub cycle_place : Role → Name → List Name → Pos
cycle_place role.Constant n ns = n.pos
cycle_place role.Variable n ns = first_of n.pos ns

-- the type that stands before the names of a declaration, where one is known
abbrev pub asked_before : Option (Option ValueType) → Option ValueType
asked_before None = None
asked_before (Some t) = t

module _ (text : List ℕ) (s : Scope) where
  -- the type that a declaration has, where it is known
  abbrev pub type_asked : Option TreeEx → Option ValueType
  type_asked o = asked_before (option_map (stated_type text s) o)

  -- one declaration of a `const`, whose word stands at a place: its type, its values and their number
  abbrev pub SpecFails : Pos → ValueSpec → Fault → Type 0
  SpecFails pos v f =
      (FailsBefore text s v.type_expr f ⊎ (FailsInEach text s v.values f ⊎ SinglesFail (seen text s v.values) f))
      ⊎ (ValuesFail (type_asked v.type_expr) (seen text s v.values) f ⊎ (CountFails (single_count (seen text s v.values)) (length v.names) (fault WrongCount pos) f
      ⊎ EarlyFail v.values (seen text s v.values) f))

  abbrev pub SpecsFail : Pos → List ValueSpec → Fault → Type 0
  SpecsFail pos [] f = ⊥
  SpecsFail pos (v ∷ vs) f = SpecFails pos v f ⊎ SpecsFail pos vs f

  abbrev pub FormsFail : TreeExs → Fault → Type 0
  FormsFail none f = ⊥
  FormsFail (some e es) f = IsFault (form_fault (has_form text s e) (first_pos e)) f ⊎ FormsFail es f

  -- the values of a declaration of a `var`, where there are to be some
  abbrev pub InitialsFail : Bool → Pos → ValueSpec → Fault → Type 0
  InitialsFail true pos v f = ⊥
  InitialsFail false pos v f = TakeFails (fault WrongCount pos) (spec_wanted text s v) (seen text s v.values) f ⊎ FormsFail v.values f

  -- one declaration of a `var`, whose word stands at a place: its type, its values, their number and their form
  abbrev pub VariablesFail : Pos → ValueSpec → Fault → Type 0
  VariablesFail pos v f =
      (FailsBefore text s v.type_expr f ⊎ FailsInEach text s v.values f)
      ⊎ InitialsFail (is_bare v.type_expr v.values) pos v f

  abbrev pub AllVariablesFail : Pos → List ValueSpec → Fault → Type 0
  AllVariablesFail pos [] f = ⊥
  AllVariablesFail pos (v ∷ vs) f = VariablesFail pos v f ⊎ AllVariablesFail pos vs f

  abbrev pub DeclarationsFail : List Declaration → Fault → Type 0
  DeclarationsFail [] f = ⊥
  DeclarationsFail (constants pos specs ∷ ds) f = SpecsFail pos specs f ⊎ DeclarationsFail ds f
  DeclarationsFail (variables pos specs ∷ ds) f = AllVariablesFail pos specs f ⊎ DeclarationsFail ds f
  DeclarationsFail (types pos specs ∷ ds) f = DeclarationsFail ds f
  DeclarationsFail (function g ∷ ds) f = DeclarationsFail ds f

  -- the names of the constants and variables from a number on
  abbrev pub NamesFail : ℕ → List Item → Fault → Type 0
  NamesFail k [] f = ⊥
  NamesFail k (i ∷ is) f =
      IsFault (value_name_fault k (is_blank (spelled text i.name)) (bytes_eq (spelled text i.name) (codes "init")) (declaration s (spelled text i.name)) i.name.pos) f
      ⊎ NamesFail (suc k) is f

  -- a constant or a variable that needs itself
  pub record Recurs (is : List Item) (f : Fault) : Type 0 where
    pub number : ℕ
    pub item : Item
    pub has : slice_get is number ≡ Some item
    pub reaches : Reaches text s is number number
    pub at : f ≡ fault SelfReference (cycle_place item.role item.name item.names)

  -- a rule fails in the declarations of constants and variables of a package
  abbrev pub ItemsFail : List Declaration → Fault → Type 0
  ItemsFail ds f = DeclarationsFail ds f ⊎ (NamesFail 0 (items_in ds) f ⊎ Recurs (items_in ds) f)
