-- The constants and the package variables of a package, and what is known of them: the values of constants and the types of variables (Go
-- specification, "Constant declarations", "Constant expressions", "Representability", "Variable declarations"). Their order in the text is
-- free: one may stand before those that its value names.
use Rattle.std.specs.Prelude.{ℕ, zero, suc, ◌+◌, slice_get, length, ◌==◌, ◌&&◌, List, [], ◌∷◌, ◌++◌, Option, Some, None, option_and_then}
use Rattle.std.specs.Option.{option_map}
use Rattle.syntax.specs.declared.expression.Name.{Name}
use Rattle.syntax.specs.Expressions.{Ex as TreeEx, Exs as TreeExs, none, some}
use Rattle.syntax.specs.Statements.{ValueSpec}
use Rattle.syntax.specs.Declarations.{Declaration, constants, variables, types, function}
use Rattle.constants.specs.declared.constant.Fixed.{Fixed}
use Rattle.base.specs.declared.value_type.ValueType.{ValueType}
use Rattle.type_faults.specs.Given.{allowed}
use Rattle.base.specs.Types.{same_type}
use Rattle.constants.specs.Constants.{constant_type, holds}
use Rattle.operators.specs.Operands.{Operand, constant, value, nil}
use Rattle.names.specs.declared.scope.Known.{Known}
use Rattle.names.specs.declared.scope.Known.TheVariants as known_as
use Rattle.names.specs.Scope.{Scope, with_known}
use Rattle.given_values.specs.Given.{Gives, operand_in, own_type, many}
use Rattle.expression_types.specs.Typing.{gives, stated_type, seen, early_gives}
use Rattle.package_values.specs.declared.items.Role.{Role}
use Rattle.package_values.specs.declared.items.Role.TheVariants as role

-- one constant or package variable: its name, all names of its declaration, and which of them it is; the type that stands there, its own
-- value, where there are as many values as names, and all values of its declaration
pub record Item : Type 0 where
  pub role : Role
  pub name : Name
  pub names : List Name
  pub place : ℕ
  pub type_expr : Option TreeEx
  pub value : Option TreeEx
  pub values : TreeExs

-- the names from a place on, without values
abbrev pub unvalued : Role → List Name → Option TreeEx → TreeExs → ℕ → List Name → List Item
unvalued r names t all k [] = []
unvalued r names t all k (n ∷ ns) = record { role = r; name = n; names = names; place = k; type_expr = t; value = None; values = all } ∷ unvalued r names t all (1 + k) ns

-- and each with the value at its place, where there are as many
abbrev pub paired : Role → List Name → Option TreeEx → TreeExs → ℕ → List Name → TreeExs → Option (List Item)
paired r names t all k [] none = Some []
paired r names t all k (n ∷ ns) (some e es) =
    option_map (λ is. record { role = r; name = n; names = names; place = k; type_expr = t; value = Some e; values = all } ∷ is) (paired r names t all (1 + k) ns es)
paired r names t all k ns es = None

abbrev pub or_unvalued : Option (List Item) → List Item → List Item
or_unvalued (Some is) others = is
or_unvalued None others = others

abbrev pub items_of : Role → ValueSpec → List Item
items_of r v = or_unvalued (paired r v.names v.type_expr v.values 0 v.names v.values) (unvalued r v.names v.type_expr v.values 0 v.names)

abbrev pub items_in_specs : Role → List ValueSpec → List Item
items_in_specs r [] = []
items_in_specs r (v ∷ vs) = items_of r v ++ items_in_specs r vs

-- the constants and variables of a package, which have numbers in this order
abbrev pub items_in : List Declaration → List Item
items_in [] = []
items_in (constants at specs ∷ ds) = items_in_specs role.Constant specs ++ items_in ds
items_in (variables at specs ∷ ds) = items_in_specs role.Variable specs ++ items_in ds
items_in (types at specs ∷ ds) = items_in ds
items_in (function f ∷ ds) = items_in ds

-- ---- values

-- what gives a constant
abbrev pub as_constant : Operand → Option Fixed
as_constant (constant f) = Some f
as_constant (value t x) = None
as_constant nil = None

abbrev pub constant_in : Option Gives → Option Fixed
constant_in o = option_and_then as_constant (operand_in o)

-- the constant of a declaration without a type, and of one with a type, which holds it
abbrev pub with_type : ValueType → Fixed → Option Fixed
with_type t f = allowed (same_type t (constant_type f.value_type f.value) && holds t f.value) (Some (record { value_type = Some t; value = f.value }))

-- that of a declaration, by the type that stands before its names: there may be none, or none that is known
abbrev pub accepted_before : Option (Option ValueType) → Fixed → Option Fixed
accepted_before None f = Some f
accepted_before (Some o) f = option_and_then (λ t. with_type t f) o

module _ (text : List ℕ) where
  abbrev pub accepted : Scope → Option TreeEx → Fixed → Option Fixed
  accepted s o f = accepted_before (option_map (stated_type text s) o) f

  -- the value of a constant, as far as the constants are known in a scope
  abbrev pub given_by : Scope → Option TreeEx → Option TreeEx → Option Fixed
  given_by s t None = None
  given_by s t (Some e) = option_and_then (accepted s t) (option_and_then as_constant (early_gives text s e))

  -- the type that the values of a declaration of n names give the variable at a place: that of its own value, or of a result of the call that
  -- stands alone and has n of them; a faulty value gives none
  abbrev pub initial_type : Scope → Option TreeEx → TreeExs → (n k : ℕ) → Option ValueType
  initial_type s (Some e) es n k = own_type (gives text s e)
  initial_type s None es n k = option_and_then (λ m. allowed (length m.types == n) (slice_get m.types k)) (many (seen text s es))

  -- the type of a variable, as far as the types of variables and the constants are known in a scope: a type that stands there holds whatever
  -- the value
  abbrev pub variable_type : Scope → Option TreeEx → Option TreeEx → TreeExs → (n k : ℕ) → Option ValueType
  variable_type s (Some t) v es n k = stated_type text s t
  variable_type s None v es n k = initial_type s v es n k

  -- what is known of one of them then
  abbrev pub given_as : Role → Scope → Item → Option Known
  given_as role.Constant s i = option_map known_as.Constant (given_by s i.type_expr i.value)
  given_as role.Variable s i =
      option_map known_as.Variable (variable_type s i.type_expr i.value i.values (length i.names) i.place)

  abbrev pub given : Scope → Item → Option Known
  given s i = given_as i.role s i

  -- one look at all constants and variables in turn, from a number on
  abbrev pub look : ℕ → Scope → List Item → Scope
  look k s [] = s
  look k s (i ∷ is) = look (1 + k) (with_known s k (given s i)) is

  -- n looks
  abbrev pub looks : ℕ → Scope → List Item → Scope
  looks zero s is = s
  looks (suc n) s is = looks n (look 0 s is) is

  -- a look makes at least one more known, where it makes any known: with as many looks as there are, all are known that can be
  abbrev pub settled : Scope → List Item → Scope
  settled s is = looks (length is) s is
