-- A type or an operand does not end before its first terminal.
use Rattle.std.proofs.Common.{◌≡◌, ℕ, ◌<◌, ◌≤◌, List, Option, Some, None, Result, Ok, Err, sym, subst}
use Rattle.syntax.specs.declared.limit.TheConstants.{NESTING_LIMIT}
use Rattle.syntax.specs.declared.operator.UnOp.TheVariants as un
use Rattle.syntax.specs.Expressions.{Ex}
use Rattle.parse_expressions.specs.declared.fault.StepFault.{StepFault}
use Rattle.parse_expressions.specs.declared.fault.StepFault.TheVariants as fault
use Rattle.parse_expressions.specs.declared.terminal.Terminal.{Terminal}
use Rattle.parse_expressions.specs.declared.terminal.Terminal.TheVariants.{Identifier, Number, String, LeftParen, LeftBracket}
use Rattle.parse_expressions.specs.Frames.{Frame}
use Rattle.parse_expressions.specs.Terminals.{Prefix, prefix, prefix_in}
use Rattle.parse_expressions.specs.Machine as expression
use Rattle.parse_simple_statements.specs.declared.value_specs.SpecsProgress.{SpecsProgress}
use Rattle.parse_simple_statements.specs.declared.value_specs.SpecsProgress.TheVariants as spec_progress
use Rattle.parse_simple_statements.specs.ValueSpecs as value_specs
use Rattle.parse_simple_statements.specs.SpecStates as specs

prefix_not_ends : (fs : List Frame) (o : Option Prefix) (e : Ex) → expression.after_prefix fs o ≡ expression.ends e → ⊥
prefix_not_ends fs None e h = cc
prefix_not_ends fs (Some (prefix pos op)) e h = cc

pub operand_not_ends : (fs : List Frame) (t : Terminal) (e : Ex) → expression.operand fs t ≡ expression.ends e → ⊥
operand_not_ends fs (Number pos n) e h = cc
operand_not_ends fs (String pos end) e h = cc
operand_not_ends fs (Identifier x) e h = cc
operand_not_ends fs (LeftParen pos) e h = cc
operand_not_ends fs (LeftBracket pos) e h = cc
operand_not_ends fs t e h = prefix_not_ends fs (prefix_in t) e h

type_prefix_not_ends : (fs : List Frame) (o : Option Prefix) (e : Ex) → expression.after_type_prefix fs o ≡ expression.ends e → ⊥
type_prefix_not_ends fs (Some (prefix pos un.Star)) e h = cc
type_prefix_not_ends fs o e h = cc

pub type_operand_not_ends : (fs : List Frame) (t : Terminal) (e : Ex) → expression.type_operand fs t ≡ expression.ends e → ⊥
type_operand_not_ends fs (Identifier x) e h = cc
type_operand_not_ends fs (LeftParen pos) e h = cc
type_operand_not_ends fs (LeftBracket pos) e h = cc
type_operand_not_ends fs t e h = type_prefix_not_ends fs (prefix_in t) e h

-- the nesting matters only where the machine goes on
pub spec_nesting : (r : Result SpecsProgress StepFault) (d : ℕ) (then : value_specs.Progress) (m n : ℕ) → (specs.GoesOn then → m ≡ n) → specs.Steps r d then m → specs.Steps r d then n
spec_nesting (Ok (spec_progress.Goes s)) d then m n same h = (h.0, h.1, subst (λ (x : ℕ). x ≤ NESTING_LIMIT) (same (subst specs.GoesOn (sym h.0) tt)) h.2)
spec_nesting (Ok (spec_progress.Ends specs)) d then m n same h = h
spec_nesting (Err fault.NoMemory) d then m n same h = h
spec_nesting (Err fault.Unexpected) d then m n same h = h
spec_nesting (Err fault.TooDeep) d then m n same h = (subst (λ (x : ℕ). NESTING_LIMIT < x) (same h.1) h.0, h.1)
