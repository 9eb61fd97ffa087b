-- What may follow where an expression or a type begins.
use Rattle.std.proofs.Common.{◌≡◌, ℕ, true, false, List, [], sym, subst, arith}
use Rattle.syntax.specs.Expressions.{Ex}
use Rattle.parse_expressions.specs.Grammar.{Mark, ReadsEx, ReadsType, ReadsValue}
use Rattle.parse_expressions.specs.Machine.{Context, at_operand, at_type_operand}
use Rattle.parse_expressions.proofs.OpenFrames.{base_level, base_type_level}
use Rattle.parse_expressions.proofs.Following.{Rest, ValidOpen, Iff}

pub begins : (b : Context) (K : Ex → List Mark → Type 0) (w : List Mark) → b.types ≡ false → Iff ((e : Ex) × (rest : List Mark) × ReadsValue b.literals b.depth e w rest × K e rest) (Rest b K (at_operand []) w)
begins b K w is = (
  λ h. record { whole = h.0; rest = h.1; reads = subst (λ (p : ℕ). ReadsEx b.literals p b.depth h.0 w h.1) (sym (base_level b is)) h.2.1; closes = (λ i. h.2.0, h.3) },
  λ h. (h.whole, h.rest, (h.closes.0 is, subst (λ (p : ℕ). ReadsEx b.literals p b.depth h.whole w h.rest) (base_level b is) h.reads), h.closes.1),
)

pub begins_type : (b : Context) (K : Ex → List Mark → Type 0) (w : List Mark) → b.types ≡ true → Iff ((e : Ex) × (rest : List Mark) × ReadsType b.literals b.depth e w rest × K e rest) (Rest b K (at_type_operand []) w)
begins_type b K w is = (
  λ h. record { whole = h.0; rest = h.1; reads = h.2; up = (λ i. absurd (cc (i, is)), h.3) },
  λ h. (h.whole, h.rest, h.reads, h.up.1),
)

pub begins_valid : (b : Context) → b.types ≡ false → ValidOpen b (at_operand [])
begins_valid b is = (omega (arith, base_level b is), record { level_small = omega (arith, base_level b is); valid = tt })

pub begins_type_valid : (b : Context) → b.types ≡ true → ValidOpen b (at_type_operand [])
begins_type_valid b is = record { level_is = base_type_level b is; valid = tt }
