-- Which constants and variables of a package need others: a constant needs each one that its type or its value names. A variable with a type
-- needs those that the type names: it has the type whatever its value. One without needs those that its value names, where that has the form
-- of a constant: any other value is refused, and needs none. Where a declaration has another number of values than of names, each of its
-- names needs what any of its values names: how many values there are is known only where each gives one.
use Rattle.std.specs.Prelude.{ℕ, List, [], ◌∷◌, ◌++◌, slice_get, Bool, true, false, ◌&&◌, if◌then◌else◌, Option, Some, None}
use Rattle.syntax.specs.declared.expression.Name.{Name}
use Rattle.syntax.specs.Expressions.{Ex as TreeEx, Exs as TreeExs, Bound as TreeBound, Elements as TreeElements, number, string, name, unary, binary, paren, call, selector, index, slice, array_type, slice_type, literal, elements, none, some, no_bound, bound_at, no_elements, element, spelled}
use Rattle.components.specs.Graph.{Among}
use Rattle.names.specs.declared.scope.Declared.{Declared}
use Rattle.names.specs.declared.scope.Declared.TheVariants.{Variable, Untyped, Constant, Global, Function, External}
use Rattle.names.specs.Scope.{Scope, declaration}
use Rattle.package_values.specs.declared.items.Role.{Role}
use Rattle.package_values.specs.declared.items.Role.TheVariants as role
use Rattle.package_values.specs.Values.{Item}

-- the names in an expression or a type, in the order of the text; those of fields stand for nothing else
abbrev mutual
  pub names_in : TreeEx → List Name
  names_in (number pos n) = []
  names_in (string pos behind) = []
  names_in (name n) = n ∷ []
  names_in (unary pos op e) = names_in e
  names_in (binary pos op a b) = names_in a ++ names_in b
  names_in (paren pos e) = names_in e
  names_in (call f es spread) = names_in f ++ names_in_each es
  names_in (selector e pos n) = names_in e
  names_in (index e pos i) = names_in e ++ names_in i
  names_in (slice e pos low high) = names_in e ++ (names_in_bound low ++ names_in_bound high)
  names_in (array_type pos len e) = names_in len ++ names_in e
  names_in (slice_type pos e) = names_in e
  names_in (literal e es) = names_in e ++ names_in_elements es
  names_in (elements pos es) = names_in_elements es

  pub names_in_each : TreeExs → List Name
  names_in_each none = []
  names_in_each (some e es) = names_in e ++ names_in_each es

  pub names_in_bound : TreeBound → List Name
  names_in_bound no_bound = []
  names_in_bound (bound_at e) = names_in e

  pub names_in_elements : TreeElements → List Name
  names_in_elements no_elements = []
  names_in_elements (element n e es) = names_in e ++ names_in_elements es

abbrev pub names_in_some : Option TreeEx → List Name
names_in_some None = []
names_in_some (Some e) = names_in e

-- the names in the value that a name waits for, or in all values of its declaration
abbrev pub names_waited : Option TreeEx → TreeExs → List Name
names_waited None es = names_in_each es
names_waited (Some e) es = names_in e

-- the number of a constant or a package variable, where a name stands for one
abbrev pub value_number : Option Declared → Option ℕ
value_number (Some (Constant k)) = Some k.0
value_number (Some (Global k g)) = Some k.0
value_number other = None

abbrev pub also : Option ℕ → List ℕ → List ℕ
also None ks = ks
also (Some k) ks = k ∷ ks

-- what the type of a variable names, or else what its values name
abbrev pub variable_mentions : Option TreeEx → Option TreeEx → TreeExs → List Name
variable_mentions (Some t) v es = names_in t
variable_mentions None v es = names_waited v es

-- the names that what is known of one rests on
abbrev pub mentions_as : Role → Item → List Name
mentions_as role.Constant i = names_in_some i.type_expr ++ names_waited i.value i.values
mentions_as role.Variable i = variable_mentions i.type_expr i.value i.values

abbrev pub mentions : Item → List Name
mentions i = mentions_as i.role i

-- whether a name may stand in a constant expression: it stands for no variable or function of the program
abbrev pub may_be_constant : Option Declared → Bool
may_be_constant (Some (Variable site t)) = false
may_be_constant (Some Untyped) = false
may_be_constant (Some (Global k g)) = false
may_be_constant (Some (Function f)) = false
may_be_constant (Some (External e pos)) = false
may_be_constant other = true

module _ (text : List ℕ) (s : Scope) where
  -- whether an expression has the form of a constant one: numbers and names with operators
  abbrev pub has_form : TreeEx → Bool
  has_form (number pos n) = true
  has_form (name n) = may_be_constant (declaration s (spelled text n))
  has_form (unary pos op e) = has_form e
  has_form (binary pos op a b) = has_form a && has_form b
  has_form (paren pos e) = has_form e
  has_form other = false

  abbrev pub have_form : TreeExs → Bool
  have_form none = true
  have_form (some e es) = has_form e && have_form es

  -- the value that a name waits for, or all values of its declaration
  abbrev pub waited_form : Option TreeEx → TreeExs → Bool
  waited_form None es = have_form es
  waited_form (Some e) es = has_form e

  abbrev pub numbers_of : List Name → List ℕ
  numbers_of [] = []
  numbers_of (n ∷ ns) = also (value_number (declaration s (spelled text n))) (numbers_of ns)

  -- the constants and variables among them
  abbrev pub mentioned : Item → List ℕ
  mentioned i = numbers_of (mentions i)

  -- those that a variable needs
  abbrev pub needed_for : Option TreeEx → Item → List ℕ
  needed_for (Some t) i = numbers_of (names_in t)
  needed_for None i = if waited_form i.value i.values then numbers_of (names_waited i.value i.values) else []

  -- the constants and variables that one needs
  abbrev pub needed_as : Role → Item → List ℕ
  needed_as role.Constant i = numbers_of (mentions_as role.Constant i)
  needed_as role.Variable i = needed_for i.type_expr i

  abbrev pub needed : Item → List ℕ
  needed i = needed_as i.role i

  abbrev pub needed_in : Option Item → List ℕ
  needed_in None = []
  needed_in (Some i) = needed i

  -- the one of this number needs the one of that number
  abbrev pub Needs : List Item → ℕ → ℕ → Type 0
  Needs is j k = Among k (needed_in (slice_get is j))

  -- and through any number of others
  pub data Reaches (is : List Item) : ℕ → ℕ → Type 0 where
    at_once : {j k : ℕ} → Needs is j k → Reaches is j k
    through : {i j k : ℕ} → Needs is i j → Reaches is j k → Reaches is i k
