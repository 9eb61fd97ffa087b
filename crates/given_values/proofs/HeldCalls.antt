-- Constants that a call gives are held by their types.
use Rattle.std.proofs.Common.{◌≡◌, ℕ, Bool, true, false, List, [], ◌∷◌, Option, Some, None, subst, pos, cond, refl}
use Rattle.std.specs.Prelude.{option_and_then}
use Rattle.std.specs.Option.{option_map}
use Rattle.base.specs.declared.pos.Pos.{Pos}
use Rattle.typed_syntax.specs.Syntax.{Ex, Exs}
use Rattle.base.specs.declared.value_type.ValueType.{ValueType}
use Rattle.type_faults.specs.Given.{allowed}
use Rattle.type_faults.proofs.Options.{none_some, same_some}
use Rattle.operators.specs.Operands.{Operand, value}
use Rattle.operators.proofs.Held.{IsHeld}
use Rattle.given_values.specs.Given.{Part, one, called, asking, printed, operand_in, Seen, parts, values, fits, taken, Callee, printer, panicker, reader, exiter, function, conversion, no_function, no_spread, no_text_spread, nothing, exit_places, panicked_with, exited_with, called_with, measurer, length_in_type, length_in, measured, measure_constant}
use Rattle.constants.specs.Constants.{is_int}
use Rattle.base.specs.declared.value_type.ValueType.TheVariants.{Array}

pub single_one : (o : Option Operand) (P : Operand → Type 0) (x : Operand) → ((y : Operand) → o ≡ Some y → P y) → operand_in (option_map one o) ≡ Some x → P x
single_one None P x held is = absurd (none_some is)
single_one (Some y) P x held is = held x is

-- a call gives no constant: one result of a function, or no single value
called_held : (at : Pos) (ts : List ValueType) (f : ℕ) (es : Exs) (x : Operand) → operand_in (Some (called at ts f es)) ≡ Some x → IsHeld x
called_held at [] f es x is = absurd (none_some is)
called_held at (t ∷ []) f es x is = subst IsHeld (same_some is) tt
called_held at (t ∷ u ∷ ts) f es x is = absurd (none_some is)

-- an int holds what is measured
type_int : (t : ValueType) (n : ℕ) → length_in_type t ≡ Some n → is_int (pos n) ≡ true
type_int (Array m e) n is = by (is_int (pos m)) refl is
  where
    by : (b : Bool) → is_int (pos m) ≡ b → cond b (Some m) None ≡ Some n → is_int (pos n) ≡ true
    by true int1 same1 = subst (λ (k : ℕ). is_int (pos k) ≡ true) (same_some same1) int1
    by false int1 same1 = absurd (none_some same1)
type_int t n is = absurd (none_some is)

operand_int : (o : Option Operand) (n : ℕ) → option_and_then length_in o ≡ Some n → is_int (pos n) ≡ true
operand_int None n is = absurd (none_some is)
operand_int (Some (value t x)) n is = type_int t n is
operand_int (Some x) n is = absurd (none_some is)

pub measured_int : (os : List Seen) (n : ℕ) → measured os ≡ Some n → is_int (pos n) ≡ true
measured_int [] n is = absurd (none_some is)
measured_int (o ∷ []) n is = operand_int (operand_in o.gives) n is
measured_int (o ∷ p ∷ os) n is = absurd (none_some is)

pub call_held : (at : Pos) (k : Callee) (os : List Seen) (x : Operand) → operand_in (called_with at k os) ≡ Some x → IsHeld x
call_held at (printer line) os x is = by (parts os) is
  where
    by : (o : Option (List Part)) → operand_in (option_map (printed at line) o) ≡ Some x → IsHeld x
    by None e = absurd (none_some e)
    by (Some ps) e = absurd (none_some e)
call_held at panicker os x is = by (parts os) is
  where
    by : (o : Option (List Part)) → operand_in (option_and_then (panicked_with at) o) ≡ Some x → IsHeld x
    by None e = absurd (none_some e)
    by (Some []) e = absurd (none_some e)
    by (Some (p ∷ [])) e = absurd (none_some e)
    by (Some (p ∷ q ∷ ps)) e = absurd (none_some e)
call_held at (measurer m) os x is = by (measured os) (measured_int os) is
  where
    by : (o : Option ℕ) → ((n : ℕ) → o ≡ Some n → is_int (pos n) ≡ true) → operand_in (option_map measure_constant o) ≡ Some x → IsHeld x
    by None int1 e = absurd (none_some e)
    by (Some n) int1 e = subst IsHeld (same_some e) (int1 n refl)
call_held at reader os x is = by (fits [] os) is
  where
    by : (b : Bool) → operand_in (allowed b (Some (asking at))) ≡ Some x → IsHeld x
    by true e = absurd (none_some e)
    by false e = absurd (none_some e)
call_held at exiter os x is = by (allowed (fits exit_places os) (values os)) is
  where
    by : (o : Option (List Ex)) → operand_in (option_and_then (exited_with at) o) ≡ Some x → IsHeld x
    by None e = absurd (none_some e)
    by (Some []) e = absurd (none_some e)
    by (Some (y ∷ [])) e = absurd (none_some e)
    by (Some (y ∷ z ∷ ys)) e = absurd (none_some e)
call_held at (function f ps ts) os x is = by (taken ps os) is
  where
    by : (o : Option Exs) → operand_in (option_map (called at ts f) o) ≡ Some x → IsHeld x
    by None e = absurd (none_some e)
    by (Some es) e = called_held at ts f es x e
call_held at conversion os x is = absurd (none_some is)
call_held at no_function os x is = absurd (none_some is)
call_held at no_spread os x is = absurd (none_some is)
call_held at no_text_spread os x is = absurd (none_some is)
call_held at nothing os x is = absurd (none_some is)
