-- What expressions give, by themselves, side by side at places for values, and as the arguments of a call (Go specification, "Calls",
-- "Assignability", "Bootstrapping").
use Rattle.std.specs.Prelude.{ℕ, length, pos, ◌==◌, Bool, true, false, ◌&&◌, List, [], ◌∷◌, map, Option, Some, None, is_some, option_and_then, nat_le, if◌then◌else◌}
use Rattle.std.specs.Option.{option_map}
use Rattle.base.specs.declared.pos.Pos.{Pos}
use Rattle.syntax.specs.declared.operator.BinOp.{BinOp}
use Rattle.syntax.specs.declared.operator.UnOp.{UnOp}
use Rattle.syntax.specs.declared.expression.Name.{Name}
use Rattle.syntax.specs.Expressions.{call, spelled}
use Rattle.typed_syntax.specs.Syntax.{Ex, Exs, read, local, global, here, none, more, results, read_int as items}
use Rattle.typed_syntax.specs.Syntax as typed
use Rattle.typed_syntax.specs.Types.{TypeTree, ints, bools}
use Rattle.constants.specs.declared.constant.Constant.TheVariants.{Number, Truth}
use Rattle.base.specs.declared.value_type.ValueType.{ValueType}
use Rattle.base.specs.declared.value_type.ValueType.TheVariants.{Int, Bool as Boolean, Array}
use Rattle.type_faults.specs.Given.{allowed, both}
use Rattle.base.specs.Types.{same_type}
use Rattle.constants.specs.Constants.{constant_type, untyped, is_int}
use Rattle.operators.specs.Operands.{Operand, constant, value, nil, type_of, is_assignable, as_value}
use Rattle.operators.specs.Operators.{prefixed, combined}
use Rattle.names.specs.declared.scope.Declared.{Declared}
use Rattle.names.specs.declared.scope.Declared.TheVariants as declared
use Rattle.names.specs.declared.scope.Known.{Known}
use Rattle.names.specs.declared.scope.Known.TheVariants as known_as
use Rattle.names.specs.declared.scope.Measure.{Measure}
use Rattle.names.specs.declared.scope.External.{External as ExternalFunction}
use Rattle.names.specs.declared.scope.External.TheVariants as external
use Rattle.names.specs.Scope.{Scope, Signature, declaration, signature, known}
use Rattle.given_values.specs.declared.wants.Wanted.{Wanted}
use Rattle.given_values.specs.declared.wants.Wanted.TheVariants as wants

-- an operand of `print`, `println` or `panic`: the bytes of a string, or a value and its type
pub data Part : Type 0 where
  said : List ℕ → Part
  valued : TypeTree → Ex → Part

-- what an expression gives: one value, a string, or what a call gives
pub data Gives : Type 0 where
  one : Operand → Gives
  -- the results of a call: its place, their types, the function's number, and the arguments
  called : Pos → List ValueType → ℕ → Exs → Gives
  -- the two results of `readInt` at a place
  asking : Pos → Gives
  -- a string literal at a place, and its bytes
  quoted : Pos → List ℕ → Gives
  -- nothing: a `print` at a place, or a `println` where true is said
  printed : Pos → Bool → List Part → Gives
  -- nothing: a `panic` at a place
  panicked : Pos → Part → Gives
  -- nothing: an `exit` at a place, with a status
  exited : Pos → Ex → Gives

-- ---- names

-- the type of a constant or a package variable, by what is known of it
abbrev pub known_type : Known → ValueType
known_type (known_as.Constant f) = constant_type f.value_type f.value
known_type (known_as.Variable t) = t

-- the read of a package variable
abbrev pub global_read : ℕ → Known → Operand
global_read g k = value (known_type k) (read (global g here))

-- the value of a constant; the type of a variable is none, and is known of no constant
abbrev pub constant_read : Known → Operand
constant_read (known_as.Constant f) = constant f
constant_read (known_as.Variable t) = nil

-- a constant whose value is known, or the read of a variable with a type
abbrev pub name_operand : Scope → Option Declared → Option Operand
name_operand s None = None
name_operand s (Some (declared.Variable site t)) = Some (value t (read (local site.0 here)))
name_operand s (Some declared.Untyped) = None
name_operand s (Some (declared.Constant k)) = option_map constant_read (known s k.0)
name_operand s (Some (declared.Global k g)) = option_map (global_read g.0) (known s k.0)
name_operand s (Some (declared.Function f)) = None
name_operand s (Some (declared.External e at)) = None
name_operand s (Some (declared.«Type» t)) = None
name_operand s (Some (declared.Truth b)) = Some (constant (untyped (Truth b)))
name_operand s (Some declared.Nil) = Some nil
name_operand s (Some (declared.Print line)) = None
name_operand s (Some declared.Panic) = None
name_operand s (Some (declared.Measure m)) = None
name_operand s (Some declared.LeftOutType) = None
name_operand s (Some declared.LeftOutValue) = None

-- ---- operators

abbrev pub prefix_gives : UnOp → Bool → Option Operand → Option Gives
prefix_gives op false a = None
prefix_gives op true a = option_map one (option_and_then (prefixed op) a)

abbrev pub pair_gives : Pos → BinOp → Option Operand → Option Operand → Option Gives
pair_gives at op a b = option_map one (both (combined at op) a b)

-- ---- where one value is wanted

abbrev pub single_result : List ValueType → ℕ → Exs → Option Operand
single_result [] f es = None
single_result (t ∷ []) f es = Some (value t (typed.call f es))
single_result (t ∷ u ∷ ts) f es = None

abbrev pub single : Gives → Option Operand
single (one x) = Some x
single (called at ts f es) = single_result ts f es
single (asking at) = None
single (quoted at bytes) = None
single (printed at line ps) = None
single (panicked at p) = None
single (exited at e) = None

abbrev pub operand_in : Option Gives → Option Operand
operand_in o = option_and_then single o

abbrev pub value_in : Option Gives → Option Ex
value_in o = option_and_then as_value (operand_in o)

abbrev pub type_in_one : Option Gives → Option ValueType
type_in_one o = option_and_then type_of (operand_in o)

-- the type of what is a value by itself: no constant beyond int, and not nil
abbrev pub own_type : Option Gives → Option ValueType
own_type o = option_and_then (λ x. option_and_then (λ e. type_of x) (as_value x)) (operand_in o)

-- the types whose values `print`, `println` and `panic` show
abbrev pub shown_type : ValueType → Option TypeTree
shown_type Int = Some ints
shown_type Boolean = Some bools
shown_type other = None

-- the type of an operand that they show
abbrev pub shown_of : Operand → Option TypeTree
shown_of x = option_and_then shown_type (type_of x)

-- an operand of `print`, `println` or `panic`
abbrev pub as_part : Operand → Option Part
as_part x = option_and_then (λ t. option_map (valued t) (as_value x)) (shown_of x)

abbrev pub part_of : Gives → Option Part
part_of (quoted at bytes) = Some (said bytes)
part_of g = option_and_then as_part (single g)

abbrev pub part_in : Option Gives → Option Part
part_in o = option_and_then part_of o

-- whether it may be one: a string, or what gives one value
abbrev pub may_be_part : Gives → Bool
may_be_part (quoted at bytes) = true
may_be_part g = is_some (single g)

abbrev pub is_part : Option Gives → Bool
is_part None = false
is_part (Some g) = may_be_part g

-- ---- expressions side by side: the first byte of each, and what it gives

pub record Seen : Type 0 where
  pub at : Pos
  pub gives : Option Gives

-- what each has, where all have it
abbrev pub listed : {A : Type 0} → (Option Gives → Option A) → List Seen → Option (List A)
listed k [] = Some []
listed k (o ∷ os) = option_and_then (λ x. option_map (λ xs. x ∷ xs) (listed k os)) (k o.gives)

-- one value of each
abbrev pub values : List Seen → Option (List Ex)
values os = listed value_in os

abbrev pub parts : List Seen → Option (List Part)
parts os = listed part_in os

-- each gives one value
abbrev pub are_single : List Seen → Bool
are_single [] = true
are_single (o ∷ os) = is_some (operand_in o.gives) && are_single os

-- how many operands of `print`, `println` or `panic` there are, where all may be some
abbrev pub are_parts : List Seen → Bool
are_parts [] = true
are_parts (o ∷ os) = is_part o.gives && are_parts os

abbrev pub part_count : List Seen → Option ℕ
part_count os = if are_parts os then Some (length os) else None

-- whether each that has one value is of a type whose values are shown
abbrev pub is_shown : Option Operand → Bool
is_shown None = true
is_shown (Some x) = is_some (shown_of x)

abbrev pub are_shown : List Seen → Bool
are_shown [] = true
are_shown (o ∷ os) = is_shown (operand_in o.gives) && are_shown os

-- a call that stands alone may give more than one value: its place, their types, and the values
pub record Many : Type 0 where
  pub at : Pos
  pub types : List ValueType
  pub values : Exs

abbrev pub many_in : Option Gives → Option Many
many_in None = None
many_in (Some (one x)) = None
many_in (Some (called at ts f es)) = if nat_le 2 (length ts) then Some (record { at = at; types = ts; values = results f es }) else None
many_in (Some (asking at)) = Some (record { at = at; types = Int ∷ Boolean ∷ []; values = items })
many_in (Some (quoted at bytes)) = None
many_in (Some (printed at line ps)) = None
many_in (Some (panicked at p)) = None
many_in (Some (exited at e)) = None

abbrev pub many : List Seen → Option Many
many [] = None
many (o ∷ []) = many_in o.gives
many (o ∷ p ∷ os) = None

-- how many values there are, where all give some
abbrev pub count_of : List Seen → Option Many → Option ℕ
count_of os None = if are_single os then Some (length os) else None
count_of os (Some m) = Some (length m.types)

abbrev pub count : List Seen → Option ℕ
count os = count_of os (many os)

-- their types, where all give some
abbrev pub single_types : List Seen → Option (List ValueType)
single_types os = listed type_in_one os

abbrev pub types_with : List Seen → Option Many → Option (List ValueType)
types_with os None = single_types os
types_with os (Some m) = Some m.types

abbrev pub value_types : List Seen → Option (List ValueType)
value_types os = types_with os (many os)

-- ---- places for values, and what each asks for

-- what a place of this type asks for; where its type isn't known, nothing is known of that either
abbrev pub wanted_by : Option ValueType → Wanted
wanted_by None = wants.Unknown
wanted_by (Some t) = wants.Typed t

-- what the names of a declaration ask for: what stands before them is a type, isn't known to be one, or isn't there
abbrev pub wanted_before : Option (Option ValueType) → Wanted
wanted_before None = wants.Own
wanted_before (Some t) = wanted_by t

abbrev pub is_typed : Wanted → Bool
is_typed wants.Own = false
is_typed (wants.Typed t) = true
is_typed wants.Unknown = false

abbrev pub accepts : Wanted → ValueType → Bool
accepts wants.Own t = true
accepts (wants.Typed s) t = same_type s t
accepts wants.Unknown t = true

-- whether each type is one that its place asks for, as far as there are both
abbrev pub types_agree : List Wanted → List ValueType → Bool
types_agree (p ∷ ps) (t ∷ ts) = accepts p t && types_agree ps ts
types_agree ps ts = true

-- whether a place takes an operand: one that asks for a type what can be given to that
abbrev pub accepts_operand : Wanted → Operand → Bool
accepts_operand wants.Own x = true
accepts_operand (wants.Typed t) x = is_assignable t x
accepts_operand wants.Unknown x = true

abbrev pub operand_agrees : Wanted → Option Operand → Bool
operand_agrees p None = true
operand_agrees p (Some x) = accepts_operand p x

abbrev pub values_agree : List Wanted → List Seen → Bool
values_agree (p ∷ ps) (o ∷ os) = operand_agrees p (operand_in o.gives) && values_agree ps os
values_agree ps os = true

abbrev pub each : List Ex → Exs
each [] = none
each (x ∷ xs) = more x (each xs)

-- whether there are as many values as places, of the types that these ask for
abbrev pub fits_with : List Wanted → List Seen → Option Many → Bool
fits_with ps os None = (length os == length ps) && values_agree ps os
fits_with ps os (Some m) = (length m.types == length ps) && types_agree ps m.types

abbrev pub fits : List Wanted → List Seen → Bool
fits ps os = fits_with ps os (many os)

-- the values, and those at these places; at a place with no known type there may be what is no value, and then there are none
abbrev pub all_values : List Seen → Option Many → Option Exs
all_values os None = option_map each (values os)
all_values os (Some m) = Some m.values

abbrev pub taken : List Wanted → List Seen → Option Exs
taken ps os = allowed (fits ps os) (all_values os (many os))

-- the types of these values
abbrev pub taken_types : List Wanted → List Seen → Option (List ValueType)
taken_types ps os = option_and_then (λ es. value_types os) (taken ps os)

-- a place for each of these types
abbrev pub asked : List ValueType → List Wanted
asked ts = map (λ t. wants.Typed t) ts

-- ---- calls

-- what is called: `print`, or `println` where true is said; `panic`; `len` or `cap`; `readInt`; `exit`; a function by its number, with the places for
-- its arguments and the types of its results; a type, which is left out; a value that is no function; what takes no `...`, with strings among its arguments
-- or without; or what has no type
pub data Callee : Type 0 where
  printer : Bool → Callee
  panicker : Callee
  measurer : Measure → Callee
  reader : Callee
  exiter : Callee
  function : ℕ → List Wanted → (results : List ValueType) → Callee
  conversion : Callee
  no_function : Callee
  no_spread : Callee
  no_text_spread : Callee
  nothing : Callee

abbrev pub function_with : ℕ → Option Signature → Callee
function_with f None = nothing
function_with f (Some sig) = function f (asked sig.params) sig.results

abbrev pub callee_external : ExternalFunction → Callee
callee_external external.ReadInt = reader
callee_external external.Exit = exiter

abbrev pub callee_value : Option Operand → Callee
callee_value None = nothing
callee_value (Some x) = no_function

abbrev pub callee_declared : Scope → Option Declared → Callee
callee_declared s None = nothing
callee_declared s (Some (declared.Variable site t)) = no_function
callee_declared s (Some declared.Untyped) = nothing
callee_declared s (Some (declared.Constant k)) = callee_value (option_map constant_read (known s k.0))
callee_declared s (Some (declared.Global k g)) = callee_value (option_map (global_read g.0) (known s k.0))
callee_declared s (Some (declared.Function f)) = function_with f.0 (signature s f.0)
callee_declared s (Some (declared.External e at)) = callee_external e
callee_declared s (Some (declared.«Type» t)) = conversion
callee_declared s (Some (declared.Truth b)) = no_function
callee_declared s (Some declared.Nil) = no_function
callee_declared s (Some (declared.Print line)) = printer line
callee_declared s (Some declared.Panic) = panicker
callee_declared s (Some (declared.Measure m)) = measurer m
callee_declared s (Some declared.LeftOutType) = conversion
callee_declared s (Some declared.LeftOutValue) = nothing

-- what is called where `...` stands after the arguments: nothing takes it yet
abbrev pub spread_over : Bool → Callee → Callee
spread_over false callee = callee
spread_over true (printer line) = no_text_spread
spread_over true panicker = no_text_spread
spread_over true (measurer m) = no_spread
spread_over true reader = no_spread
spread_over true exiter = no_spread
spread_over true (function f ps ts) = no_spread
spread_over true callee = callee

-- `panic` has one operand
abbrev pub panicked_with : Pos → List Part → Option Gives
panicked_with at [] = None
panicked_with at (p ∷ []) = Some (panicked at p)
panicked_with at (p ∷ q ∷ ps) = None

-- `len` and `cap` have one operand, an array: its length is the number in its type, where an int holds it
abbrev pub length_in_type : ValueType → Option ℕ
length_in_type (Array n e) = if is_int (pos n) then Some n else None
length_in_type t = None

abbrev pub length_in : Operand → Option ℕ
length_in (value t x) = length_in_type t
length_in x = None

abbrev pub measured : List Seen → Option ℕ
measured [] = None
measured (o ∷ []) = option_and_then length_in (operand_in o.gives)
measured (o ∷ p ∷ os) = None

-- what they give then: a constant of type int
abbrev pub measure_constant : ℕ → Gives
measure_constant n = one (constant (record { value_type = Some Int; value = Number (pos n) }))

-- `exit` has one argument, which is an int
abbrev pub exit_places : List Wanted
exit_places = wants.Typed Int ∷ []

abbrev pub exited_with : Pos → List Ex → Option Gives
exited_with at [] = None
exited_with at (e ∷ []) = Some (exited at e)
exited_with at (e ∷ f ∷ es) = None

abbrev pub called_with : Pos → Callee → List Seen → Option Gives
called_with at (printer line) os = option_map (printed at line) (parts os)
called_with at panicker os = option_and_then (panicked_with at) (parts os)
called_with at (measurer m) os = option_map measure_constant (measured os)
called_with at reader os = allowed (fits [] os) (Some (asking at))
called_with at exiter os = option_and_then (exited_with at) (allowed (fits exit_places os) (values os))
called_with at (function f ps ts) os = option_map (called at ts f) (taken ps os)
called_with at conversion os = None
called_with at no_function os = None
called_with at no_spread os = None
called_with at no_text_spread os = None
called_with at nothing os = None

-- ---- conditions

-- a truth value
abbrev pub as_condition : Operand → Option Ex
as_condition x = allowed (is_assignable Boolean x) (as_value x)

module _ (text : List ℕ) where
  -- what a name stands for where it is called, or else an expression that gives this
  abbrev pub callee : Scope → Option Name → Option Gives → Callee
  callee s None o = callee_value (operand_in o)
  callee s (Some n) o = callee_declared s (declaration s (spelled text n))
