-- Which rules fail of what expressions give: of one value, of values at places, and of the arguments of a call; and where each is reported. A
-- rule is looked at only where what it speaks of gives something.
use Rattle.std.specs.Prelude.{ℕ, length, ◌==◌, ◌⊎◌, not, ◌&&◌, List, [], ◌∷◌, Option, Some, None, is_some, if◌then◌else◌}
use Rattle.base.specs.declared.pos.Pos.{Pos}
use Rattle.syntax.specs.declared.expression.Name.{Name}
use Rattle.syntax.specs.Expressions.{spelled}
use Rattle.type_faults.specs.declared.fault.Fault.{Fault}
use Rattle.type_faults.specs.declared.fault.FaultKind.TheVariants.{Unknown, Mismatch, NotCallable, WrongCount, ResultCount, Unfit, OutOfProfile}
use Rattle.base.specs.declared.value_type.ValueType.{ValueType}
use Rattle.base.specs.declared.value_type.ValueType.TheVariants.{Bool as Boolean}
use Rattle.type_faults.specs.Faults.{fault, IsFault, FormFails}
use Rattle.operators.specs.ConstantFaults.{constant_range_fault}
use Rattle.operators.specs.Operands.{Operand, constant, value, nil, is_assignable}
use Rattle.names.specs.declared.scope.Declared.{Declared}
use Rattle.names.specs.declared.scope.Declared.TheVariants as declared
use Rattle.names.specs.Scope.{Scope, declaration}
use Rattle.given_values.specs.declared.wants.Wanted.{Wanted}
use Rattle.given_values.specs.declared.wants.Wanted.TheVariants as wants
use Rattle.given_values.specs.Given.{length_in, are_single, measurer, Gives, one, called, asking, quoted, printed, panicked, exited, operand_in, Seen, Many, many, count, are_parts, are_shown, part_count, types_agree, operand_agrees, Callee, printer, panicker, reader, exiter, function, conversion, no_function, no_spread, no_text_spread, nothing, exit_places}

-- ---- names

-- a function or a type is no value
abbrev pub name_fault : Option Declared → Pos → Option Fault
name_fault None pos = Some (fault Unknown pos)
name_fault (Some (declared.Variable site t)) pos = None
name_fault (Some declared.Untyped) pos = None
name_fault (Some (declared.Constant k)) pos = None
name_fault (Some (declared.Global k g)) pos = None
name_fault (Some (declared.Function g)) pos = Some (fault OutOfProfile pos)
name_fault (Some (declared.External e declared_pos)) pos = Some (fault OutOfProfile pos)
name_fault (Some (declared.«Type» t)) pos = Some (fault Unfit pos)
name_fault (Some (declared.Truth b)) pos = None
name_fault (Some declared.Nil) pos = None
name_fault (Some (declared.Print line)) pos = Some (fault Unfit pos)
name_fault (Some declared.Panic) pos = Some (fault Unfit pos)
name_fault (Some (declared.Measure m)) pos = Some (fault Unfit pos)
name_fault (Some declared.LeftOutType) pos = Some (fault OutOfProfile pos)
name_fault (Some declared.LeftOutValue) pos = Some (fault OutOfProfile pos)

-- the name of what is called
abbrev pub callee_name_fault : Option Declared → Pos → Option Fault
callee_name_fault None pos = Some (fault Unknown pos)
callee_name_fault (Some declared.LeftOutType) pos = Some (fault OutOfProfile pos)
callee_name_fault (Some declared.LeftOutValue) pos = Some (fault OutOfProfile pos)
callee_name_fault (Some other) pos = None

-- ---- one value

-- a call where one value is wanted has another number of them, and a string is none at all
abbrev pub single_result_fault : Pos → List ValueType → Option Fault
single_result_fault pos [] = Some (fault ResultCount pos)
single_result_fault pos (t ∷ []) = None
single_result_fault pos (t ∷ u ∷ ts) = Some (fault ResultCount pos)

abbrev pub single_fault : Option Gives → Option Fault
single_fault None = None
single_fault (Some (one x)) = None
single_fault (Some (called pos ts g es)) = single_result_fault pos ts
single_fault (Some (asking pos)) = Some (fault ResultCount pos)
single_fault (Some (quoted pos bytes)) = Some (fault OutOfProfile pos)
single_fault (Some (printed pos line ps)) = Some (fault ResultCount pos)
single_fault (Some (panicked pos p)) = Some (fault ResultCount pos)
single_fault (Some (exited pos e)) = Some (fault ResultCount pos)

-- an operand of `print`, `println` or `panic` may also be a string
abbrev pub part_fault : Option Gives → Option Fault
part_fault (Some (quoted pos bytes)) = None
part_fault o = single_fault o

-- what is no value by itself: a constant that no int can hold, or nil
abbrev pub range_fault : Pos → Option Operand → Option Fault
range_fault pos None = None
range_fault pos (Some (constant f)) = constant_range_fault pos f.value
range_fault pos (Some (value t x)) = None
range_fault pos (Some nil) = Some (fault Unfit pos)

-- a condition is a truth value
abbrev pub condition_fault : Pos → Option Operand → Option Fault
condition_fault pos None = None
condition_fault pos (Some x) = if is_assignable Boolean x then None else Some (fault Unfit pos)

-- ---- expressions side by side

-- where one value of each is wanted
abbrev pub SinglesFail : List Seen → Fault → Type 0
SinglesFail [] f = ⊥
SinglesFail (o ∷ os) f = IsFault (single_fault o.gives) f ⊎ SinglesFail os f

-- where each is an operand of `print`, `println` or `panic`
abbrev pub PartsFail : List Seen → Fault → Type 0
PartsFail [] f = ⊥
PartsFail (o ∷ os) f = IsFault (part_fault o.gives) f ⊎ PartsFail os f

-- where a call that stands alone may give more than one value
abbrev pub ValuesFail : Option Many → List Seen → Fault → Type 0
ValuesFail None os f = SinglesFail os f
ValuesFail (Some m) os f = ⊥

abbrev pub RangeFails : List Seen → Fault → Type 0
RangeFails [] f = ⊥
RangeFails (o ∷ os) f = IsFault (range_fault o.at (operand_in o.gives)) f ⊎ RangeFails os f

-- places and expressions side by side, as far as there are both: a rule of a place and of the value there
abbrev pub SidesFail : (Wanted → Pos → Option Operand → Option Fault) → List Wanted → List Seen → Fault → Type 0
SidesFail rule (p ∷ ps) (o ∷ os) f = IsFault (rule p o.at (operand_in o.gives)) f ⊎ SidesFail rule ps os f
SidesFail rule ps os f = ⊥

-- what is no value by itself, at a place that has a rule; a place with no known type has none
abbrev pub placed_range_fault : Wanted → Pos → Option Operand → Option Fault
placed_range_fault wants.Own pos o = range_fault pos o
placed_range_fault (wants.Typed t) pos o = range_fault pos o
placed_range_fault wants.Unknown pos o = None

-- a value of another type than its place asks for
abbrev pub type_fault : Wanted → Pos → Option Operand → Option Fault
type_fault p pos o = if operand_agrees p o then None else Some (fault Mismatch pos)

abbrev pub TypesFail : List Wanted → List Seen → Fault → Type 0
TypesFail ps os f = SidesFail type_fault ps os f

-- a result of another type, which is reported at its call
abbrev pub results_fault : List Wanted → Many → Option Fault
results_fault ps m = if types_agree ps m.types then None else Some (fault Mismatch m.at)

abbrev pub MismatchFails : List Wanted → List Seen → Option Many → Fault → Type 0
MismatchFails ps os None f = TypesFail ps os f
MismatchFails ps os (Some m) f = IsFault (results_fault ps m) f

-- another number of values than is wanted, where all give some
abbrev pub count_fault : Option ℕ → ℕ → Fault → Option Fault
count_fault None n own = None
count_fault (Some m) n own = if m == n then None else Some own

abbrev pub CountFails : Option ℕ → ℕ → Fault → Fault → Type 0
CountFails o n own f = IsFault (count_fault o n own) f

-- the values themselves at these places: each place has its own value
abbrev pub PlacedFail : List Wanted → List Seen → Fault → Type 0
PlacedFail ps os f = (ValuesFail (many os) os f ⊎ SidesFail placed_range_fault ps os f) ⊎ MismatchFails ps os (many os) f

-- and `own` is the fault of another number
abbrev pub TakeFails : Fault → List Wanted → List Seen → Fault → Type 0
TakeFails own ps os f = PlacedFail ps os f ⊎ CountFails (count os) (length ps) own f

-- ---- calls

-- a call that is refused, where there are values
abbrev pub refused_fault : Option ℕ → Fault → Option Fault
refused_fault None own = None
refused_fault (Some n) own = Some own

-- a value of a type that isn't shown, where all may be operands of `print`, `println` or `panic`
abbrev pub shown_fault : List Seen → Fault → Option Fault
shown_fault os own = if are_parts os && not (are_shown os) then Some own else None

abbrev pub PrintFails : Pos → List Seen → Fault → Type 0
PrintFails pos os f = (PartsFail os f ⊎ RangeFails os f) ⊎ IsFault (shown_fault os (fault Unfit pos)) f

-- the operand of `len` or `cap` is an array
abbrev pub measured_fault : Pos → Option Operand → Option Fault
measured_fault pos None = None
measured_fault pos (Some x) = if is_some (length_in x) then None else Some (fault Unfit pos)

-- and there is one
abbrev pub measure_fault : Pos → List Seen → Option Fault
measure_fault pos [] = Some (fault WrongCount pos)
measure_fault pos (o ∷ []) = measured_fault pos (operand_in o.gives)
measure_fault pos (o ∷ p ∷ os) = if are_single (o ∷ p ∷ os) then Some (fault WrongCount pos) else None

abbrev pub CallFails : Pos → Callee → List Seen → Fault → Type 0
CallFails pos (printer line) os f = PrintFails pos os f
CallFails pos panicker os f = PrintFails pos os f ⊎ CountFails (part_count os) 1 (fault WrongCount pos) f
CallFails pos (measurer m) os f = SinglesFail os f ⊎ IsFault (measure_fault pos os) f
CallFails pos reader os f = TakeFails (fault WrongCount pos) [] os f
CallFails pos exiter os f = TakeFails (fault WrongCount pos) exit_places os f
CallFails pos (function g ps ts) os f = TakeFails (fault WrongCount pos) ps os f
CallFails pos conversion os f = FormFails pos f
CallFails pos no_function os f = ValuesFail (many os) os f ⊎ IsFault (refused_fault (count os) (fault NotCallable pos)) f
CallFails pos no_spread os f = ValuesFail (many os) os f ⊎ IsFault (refused_fault (count os) (fault Unfit pos)) f
CallFails pos no_text_spread os f = PartsFail os f ⊎ IsFault (refused_fault (part_count os) (fault Unfit pos)) f
CallFails pos nothing os f = ValuesFail (many os) os f

module _ (text : List ℕ) where
  -- what is called is a name, or an expression with one value, in which this fails and which gives this
  abbrev pub CalleeFails : Scope → Option Name → (Fault → Type 0) → Option Gives → Fault → Type 0
  CalleeFails s (Some n) P o f = IsFault (callee_name_fault (declaration s (spelled text n)) n.pos) f
  CalleeFails s None P o f = P f ⊎ IsFault (single_fault o) f
