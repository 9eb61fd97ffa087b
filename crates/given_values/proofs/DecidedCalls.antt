-- Where every variable has a type, every constant a value and every function a signature, a name and a call of values give something, or a rule
-- fails, and never both.
use Rattle.std.proofs.Common.{◌≡◌, ℕ, Bool, true, false, cond, List, ◌⊎◌, inl, inr, Option, Some, None, refl, subst}
use Rattle.std.specs.Option.{option_map}
use Rattle.base.specs.declared.pos.Pos.{Pos}
use Rattle.type_faults.specs.declared.fault.Fault.{Fault}
use Rattle.type_faults.specs.declared.fault.FaultKind.TheVariants.{NotCallable, WrongCount, Unfit, OutOfProfile}
use Rattle.constants.specs.declared.constant.Constant.{Constant}
use Rattle.constants.specs.declared.constant.Constant.TheVariants.{Number, Truth}
use Rattle.base.specs.declared.value_type.ValueType.{ValueType}
use Rattle.base.specs.declared.value_type.ValueType.TheVariants.{Int, Bool as Boolean, Struct, Array, Pointer, Slice}
use Rattle.base.specs.Types.{same_type}
use Rattle.constants.specs.Constants.{constant_type}
use Rattle.type_faults.specs.Given.{allowed}
use Rattle.type_faults.specs.Faults.{fault, IsFault}
use Rattle.type_faults.proofs.Decided.{Decided, same, mapped}
use Rattle.type_faults.proofs.Options.{none_some, same_some}
use Rattle.operators.specs.Operands.{Operand, constant, value, nil, constant_value}
use Rattle.operators.proofs.Held.{IsHeld, held_type}
use Rattle.names.specs.declared.scope.Declared.{Declared}
use Rattle.names.specs.declared.scope.Declared.TheVariants as declared
use Rattle.names.specs.declared.scope.Known.{Known}
use Rattle.names.specs.declared.scope.Known.TheVariants as known_as
use Rattle.names.specs.declared.scope.External.TheVariants.{ReadInt, Exit}
use Rattle.names.specs.Scope.{Scope, Signature, signature, known}
use Rattle.names.proofs.Settled.{HasSignature, IsKnown, IsTyped}
use Rattle.given_values.specs.Given.{one, global_read, constant_read, name_operand, Seen, parts, taken, Callee, printer, panicker, reader, exiter, function, conversion, no_function, no_spread, no_text_spread, nothing, function_with, callee_declared, callee_value, spread_over, called_with, as_condition, values, measurer}
use Rattle.given_values.specs.GivenFaults.{name_fault, callee_name_fault, condition_fault, PrintFails, CallFails}
use Rattle.given_values.proofs.Places.{AllAsk, asked_ask}
use Rattle.given_values.proofs.DecidedValues.{given_all, take_decided, print_decided, panic_decided, read_decided, exit_decided, refused as refused_values, parts_refused, measured_decided}

-- ---- conditions

-- a truth value that is held by its type is one
pub condition_value_decided : (at : Pos) (x : Operand) → IsHeld x → Decided (as_condition x) (IsFault (condition_fault at (Some x)))
condition_value_decided at (value Int x) held = (_, refl)
condition_value_decided at (value Boolean x) held = λ f h. h
condition_value_decided at (value (Struct k) x) held = (_, refl)
condition_value_decided at (value (Array n e) x) held = (_, refl)
condition_value_decided at (value (Pointer e) x) held = (_, refl)
condition_value_decided at (value (Slice e) x) held = (_, refl)
condition_value_decided at nil held = (_, refl)
condition_value_decided at (constant a) held = by (constant_type a.value_type a.value) a.value (held_type a.value_type a.value held)
  where
    by : (t : ValueType) (c : Constant) → t ≡ constant_type None c → Decided (allowed (same_type Boolean t) (constant_value c)) (IsFault (cond (same_type Boolean t) None (Some (fault Unfit at))))
    by Int c same1 = (_, refl)
    by Boolean (Truth b) same1 = λ f h. h
    by Boolean (Number z) same1 = cc same1
    by (Struct k) c same1 = (_, refl)
    by (Array n e) c same1 = (_, refl)
    by (Pointer e) c same1 = (_, refl)
    by (Slice e) c same1 = (_, refl)

-- ---- names

constant_name_decided : (o : Option Known) → IsKnown o → Decided (option_map one (option_map constant_read o)) (IsFault None)
constant_name_decided None has = absurd has
constant_name_decided (Some f) has = λ g h. h

global_name_decided : (g : ℕ) (o : Option Known) → IsKnown o → Decided (option_map one (option_map (global_read g) o)) (IsFault None)
global_name_decided g None has = absurd has
global_name_decided g (Some f) has = λ h k. k

pub name_decided : (s : Scope) (d : Option Declared) (at : Pos) → ((x : Declared) → d ≡ Some x → IsTyped s.types s.signatures s.values x) → Decided (option_map one (name_operand s d)) (IsFault (name_fault d at))
name_decided s None at typed = (_, refl)
name_decided s (Some (declared.Variable site t)) at typed = λ f h. h
name_decided s (Some declared.Untyped) at typed = absurd (typed declared.Untyped refl)
name_decided s (Some (declared.Constant k)) at typed = constant_name_decided (known s k.0) (typed (declared.Constant k) refl)
name_decided s (Some (declared.Global k g)) at typed = global_name_decided g.0 (known s k.0) (typed (declared.Global k g) refl)
name_decided s (Some (declared.Function g)) at typed = (_, refl)
name_decided s (Some (declared.External e place)) at typed = (_, refl)
name_decided s (Some (declared.«Type» t)) at typed = (_, refl)
name_decided s (Some (declared.Truth b)) at typed = λ f h. h
name_decided s (Some declared.Nil) at typed = λ f h. h
name_decided s (Some (declared.Print line)) at typed = (_, refl)
name_decided s (Some declared.Panic) at typed = (_, refl)
name_decided s (Some (declared.Measure m)) at typed = (_, refl)
name_decided s (Some declared.LeftOutType) at typed = (_, refl)
name_decided s (Some declared.LeftOutValue) at typed = (_, refl)

-- a constant that a name stands for is held by its type
known_held : (o : Option Known) (x : Operand) → IsKnown o → option_map constant_read o ≡ Some x → IsHeld x
known_held None x has is = absurd has
known_held (Some (known_as.Constant f)) x has is = subst IsHeld (same_some is) has
known_held (Some (known_as.Variable t)) x has is = subst IsHeld (same_some is) tt

global_held : (g : ℕ) (o : Option Known) (x : Operand) → option_map (global_read g) o ≡ Some x → IsHeld x
global_held g None x is = absurd (none_some is)
global_held g (Some f) x is = subst IsHeld (same_some is) tt

pub name_held : (s : Scope) (d : Option Declared) (x : Operand) → ((y : Declared) → d ≡ Some y → IsTyped s.types s.signatures s.values y) → name_operand s d ≡ Some x → IsHeld x
name_held s None x typed is = absurd (none_some is)
name_held s (Some (declared.Variable site t)) x typed is = subst IsHeld (same_some is) tt
name_held s (Some declared.Untyped) x typed is = absurd (none_some is)
name_held s (Some (declared.Constant k)) x typed is = known_held (known s k.0) x (typed (declared.Constant k) refl) is
name_held s (Some (declared.Global k g)) x typed is = global_held g.0 (known s k.0) x is
name_held s (Some (declared.Function g)) x typed is = absurd (none_some is)
name_held s (Some (declared.External e place)) x typed is = absurd (none_some is)
name_held s (Some (declared.«Type» t)) x typed is = absurd (none_some is)
name_held s (Some (declared.Truth b)) x typed is = subst IsHeld (same_some is) refl
name_held s (Some declared.Nil) x typed is = subst IsHeld (same_some is) tt
name_held s (Some (declared.Print line)) x typed is = absurd (none_some is)
name_held s (Some declared.Panic) x typed is = absurd (none_some is)
name_held s (Some (declared.Measure m)) x typed is = absurd (none_some is)
name_held s (Some declared.LeftOutType) x typed is = absurd (none_some is)
name_held s (Some declared.LeftOutValue) x typed is = absurd (none_some is)

-- ---- calls

-- what is called has a type, or a rule says why not
abbrev pub CalleeIs : Callee → (Fault → Type 0) → Type 0
CalleeIs nothing C = (f : Fault) × C f
CalleeIs (printer line) C = (f : Fault) → C f → ⊥
CalleeIs panicker C = (f : Fault) → C f → ⊥
CalleeIs (measurer m) C = (f : Fault) → C f → ⊥
CalleeIs reader C = (f : Fault) → C f → ⊥
CalleeIs exiter C = (f : Fault) → C f → ⊥
CalleeIs (function g ps ts) C = AllAsk ps × ((f : Fault) → C f → ⊥)
CalleeIs conversion C = Unit {0}
CalleeIs no_function C = (f : Fault) → C f → ⊥
CalleeIs no_spread C = (f : Fault) → C f → ⊥
CalleeIs no_text_spread C = (f : Fault) → C f → ⊥

pub callee_value_is : (o : Option Operand) (P : Fault → Type 0) → Decided o P → CalleeIs (callee_value o) P
callee_value_is None P d = d
callee_value_is (Some x) P d = d

callee_function_is : (f : ℕ) (sig : Option Signature) (C : Fault → Type 0) → HasSignature sig → ((g : Fault) → C g → ⊥) → CalleeIs (function_with f sig) C
callee_function_is f None C has none = absurd has
callee_function_is f (Some sig) C has none = (asked_ask sig.params, none)

callee_constant_is : (o : Option Known) (C : Fault → Type 0) → IsKnown o → ((g : Fault) → C g → ⊥) → CalleeIs (callee_value (option_map constant_read o)) C
callee_constant_is None C has none = absurd has
callee_constant_is (Some f) C has none = none

callee_global_is : (g : ℕ) (o : Option Known) (C : Fault → Type 0) → IsKnown o → ((f : Fault) → C f → ⊥) → CalleeIs (callee_value (option_map (global_read g) o)) C
callee_global_is g None C has none = absurd has
callee_global_is g (Some f) C has none = none

pub callee_declared_is : (s : Scope) (d : Option Declared) (at : Pos) → ((x : Declared) → d ≡ Some x → IsTyped s.types s.signatures s.values x) → CalleeIs (callee_declared s d) (IsFault (callee_name_fault d at))
callee_declared_is s None at typed = (_, refl)
callee_declared_is s (Some (declared.Variable site t)) at typed = λ f h. h
callee_declared_is s (Some declared.Untyped) at typed = absurd (typed declared.Untyped refl)
callee_declared_is s (Some (declared.Constant k)) at typed = callee_constant_is (known s k.0) (IsFault (callee_name_fault (Some (declared.Constant k)) at)) (typed (declared.Constant k) refl) (λ f h. h)
callee_declared_is s (Some (declared.Global k g)) at typed = callee_global_is g.0 (known s k.0) (IsFault (callee_name_fault (Some (declared.Global k g)) at)) (typed (declared.Global k g) refl) (λ f h. h)
callee_declared_is s (Some (declared.Function g)) at typed = callee_function_is g.0 (signature s g.0) (IsFault (callee_name_fault (Some (declared.Function g)) at)) (typed (declared.Function g) refl) (λ f h. h)
callee_declared_is s (Some (declared.External ReadInt place)) at typed = λ f h. h
callee_declared_is s (Some (declared.External Exit place)) at typed = λ f h. h
callee_declared_is s (Some (declared.«Type» t)) at typed = tt
callee_declared_is s (Some (declared.Truth b)) at typed = λ f h. h
callee_declared_is s (Some declared.Nil) at typed = λ f h. h
callee_declared_is s (Some (declared.Print line)) at typed = λ f h. h
callee_declared_is s (Some declared.Panic) at typed = λ f h. h
callee_declared_is s (Some (declared.Measure m)) at typed = λ f h. h
callee_declared_is s (Some declared.LeftOutType) at typed = tt
callee_declared_is s (Some declared.LeftOutValue) at typed = (_, refl)

pub spread_is : (spread : Bool) (k : Callee) (C : Fault → Type 0) → CalleeIs k C → CalleeIs (spread_over spread k) C
spread_is false k C is = is
spread_is true (printer line) C is = is
spread_is true panicker C is = is
spread_is true (measurer m) C is = is
spread_is true reader C is = is
spread_is true exiter C is = is
spread_is true (function f ps ts) C is = is.1
spread_is true conversion C is = is
spread_is true no_function C is = is
spread_is true no_spread C is = is
spread_is true no_text_spread C is = is
spread_is true nothing C is = is

with_callee : {A : Type 0} (C E K : Fault → Type 0) (o : Option A) → ((f : Fault) → C f → ⊥) → Decided o (λ f. E f ⊎ K f) → Decided o (λ f. (C f ⊎ E f) ⊎ K f)
with_callee C E K o none d = same (λ f. E f ⊎ K f) (λ f. (C f ⊎ E f) ⊎ K f) o (λ f h. elim h [ inl e ↦ inl (inr e) | inr k ↦ inr k ]) back d
  where
    back : (f : Fault) → (C f ⊎ E f) ⊎ K f → E f ⊎ K f
    back f (inl (inl c)) = absurd (none f c)
    back f (inl (inr e)) = inl e
    back f (inr k) = inr k

refused_call : (C E K : Fault → Type 0) (f : Fault) → E f ⊎ K f → (C f ⊎ E f) ⊎ K f
refused_call C E K f (inl h) = inl (inr h)
refused_call C E K f (inr h) = inr h

pub call_decided : (at : Pos) (k : Callee) (os : List Seen) (C E : Fault → Type 0) → CalleeIs k C → Decided (given_all os) E → Decided (called_with at k os) (λ f. (C f ⊎ E f) ⊎ CallFails at k os f)
call_decided at (printer line) os C E c e =
    with_callee C E (CallFails at (printer line) os) (called_with at (printer line) os) c (mapped _ (parts os) (λ f. E f ⊎ PrintFails at os f) (print_decided os E e at))
call_decided at panicker os C E c e = with_callee C E (CallFails at panicker os) (called_with at panicker os) c (panic_decided os E e at (fault WrongCount at))
call_decided at (measurer m) os C E c e = with_callee C E (CallFails at (measurer m) os) (called_with at (measurer m) os) c (measured_decided os E e at)
call_decided at reader os C E c e = with_callee C E (CallFails at reader os) (called_with at reader os) c (read_decided os E e at (fault WrongCount at))
call_decided at exiter os C E c e = with_callee C E (CallFails at exiter os) (called_with at exiter os) c (exit_decided os E e at (fault WrongCount at))
call_decided at (function g ps ts) os C E c e =
    with_callee C E (CallFails at (function g ps ts) os) (called_with at (function g ps ts) os) c.1
    (mapped _ (taken ps os) (λ f. E f ⊎ CallFails at (function g ps ts) os f) (take_decided os E e _ ps c.0))
call_decided at conversion os C E c e = (fault OutOfProfile at, inr refl)
call_decided at no_function os C E c e = let u = refused_values os E e (fault NotCallable at) in (u.0, refused_call C E (CallFails at no_function os) u.0 u.1)
call_decided at no_spread os C E c e = let u = refused_values os E e (fault Unfit at) in (u.0, refused_call C E (CallFails at no_spread os) u.0 u.1)
call_decided at no_text_spread os C E c e = let u = parts_refused os E e (fault Unfit at) in (u.0, refused_call C E (CallFails at no_text_spread os) u.0 u.1)
call_decided at nothing os C E c e = (c.0, inl (inl c.1))
