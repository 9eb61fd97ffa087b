-- The steps of the code that reads struct types.
use Rattle.std.proofs.Common.{◌≡◌, ℕ, suc, ◌≤◌, List, [], refl, arith}
use Rattle.std.specs.Prelude.{Result, Ok, Err}
use Rattle.syntax.specs.declared.expression.Name.{Name}
use Rattle.parse_expressions.specs.declared.fault.StepFault.{StepFault}
use Rattle.parse_expressions.specs.declared.fault.StepFault.TheVariants as fault
use Rattle.parse_expressions.specs.declared.terminal.Terminal.{Terminal}
use Rattle.parse_expressions.specs.declared.terminal.Terminal.TheVariants.{Comma}
use Rattle.parse_expressions.specs.Machine.{Open, at_type_operand}
use Rattle.parse_expressions.specs.Machine as expression
use Rattle.parse_expressions.specs.States as expressions
use Rattle.parse_simple_statements.proofs.Starts.{NeverEnds, type_starts}
use Rattle.parse_go.specs.declared.type_specs.TypesProgress.{TypesProgress}
use Rattle.parse_go.specs.declared.type_specs.TypesProgress.TheVariants as progress
use Rattle.parse_go.specs.TypeSpecs.{Spot, alone_here, in_group, Fields, spot_depth, type_context, fails, at_names, in_type, after_type, nesting_after, step, nesting}
use Rattle.parse_go.specs.TypeStates.{FailsStep, Steps}

pub shallow : (s : Spot) → spot_depth s ≤ 1
shallow alone_here = omega arith
shallow (in_group specs) = omega arith

-- where the step inside the type fails, so does that of the declaration
pub type_fails : (s : Fields) (xs : List Name) (o : Open) (t : Terminal) (e : StepFault) (p : expression.Progress) → expressions.FailsStep e p (expression.nesting (type_context s) o t) → FailsStep e (after_type s xs t p) (nesting_after s o t p)
type_fails s xs o t fault.NoMemory p h = tt
type_fails s xs o t fault.Unexpected expression.fails h = refl
type_fails s xs o t fault.Unexpected (expression.goes n) h = absurd cc
type_fails s xs o t fault.Unexpected (expression.ends e) h = absurd cc
type_fails s xs o t fault.TooDeep expression.fails h = absurd h.1
type_fails s xs o t fault.TooDeep (expression.goes n) h = h
type_fails s xs o t fault.TooDeep (expression.ends e) h = absurd h.1

-- what fails does so at any nesting
fails_anyhow : (answer : Result TypesProgress StepFault) (m n : ℕ) → Steps answer fails m → Steps answer fails n
fails_anyhow (Ok (progress.Goes s)) m n h = absurd cc
fails_anyhow (Ok (progress.Ends specs)) m n h = h
fails_anyhow (Err fault.NoMemory) m n h = h
fails_anyhow (Err fault.Unexpected) m n h = h
fails_anyhow (Err fault.TooDeep) m n h = absurd h.1

begun : (s : Fields) (xs : List Name) (t : Terminal) (answer : Result TypesProgress StepFault) (p : expression.Progress) → NeverEnds p → Steps answer (after_type s xs t p) (nesting_after s (at_type_operand []) t p) → Steps answer (after_type s xs t p) (suc (spot_depth s.spot))
begun s xs t answer expression.fails never h = fails_anyhow answer _ _ h
begun s xs t answer (expression.goes o) never h = h
begun s xs t answer (expression.ends e) never h = absurd never

-- the first token of a type
pub type_begins : (s : Fields) (xs : List Name) (t : Terminal) (answer : Result TypesProgress StepFault) → (t ≡ Comma → ⊥) → Steps answer (step (in_type s xs (at_type_operand [])) t) (nesting (in_type s xs (at_type_operand [])) t) → Steps answer (step (at_names s xs) t) (nesting (at_names s xs) t)
type_begins s xs Comma answer other h = absurd (other refl)
type_begins s xs t answer other h = begun s xs t answer (expression.step (type_context s) (at_type_operand []) t) (type_starts t) h
