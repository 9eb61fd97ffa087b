-- Where the layer below takes no further terminal, this one takes none for the same reason.
use Rattle.std.proofs.Common.{◌≡◌, ℕ, ◌<◌, ap, ◌∙◌, sym, subst}
use Rattle.syntax.specs.declared.limit.TheConstants.{NESTING_LIMIT}
use Rattle.parse_expressions.specs.declared.fault.StepFault.{StepFault}
use Rattle.parse_expressions.specs.declared.fault.StepFault.TheVariants as fault
use Rattle.parse_expressions.specs.declared.terminal.Terminal.{Terminal}
use Rattle.parse_expressions.specs.Machine.{Context, Open}
use Rattle.parse_expressions.specs.Machine as expression
use Rattle.parse_expressions.specs.States as expressions
use Rattle.parse_simple_statements.specs.ValueSpecs as value_specs
use Rattle.parse_simple_statements.specs.SpecStates as specs
use Rattle.parse_simple_statements.specs.Simples as simples
use Rattle.parse_simple_statements.specs.SimpleStates as simple

spec_fails_after : (f : expression.Progress → value_specs.Progress) (depth : expression.Progress → ℕ) (e : StepFault) (next : expression.Progress) (n : ℕ) → f expression.fails ≡ value_specs.fails → ((o : Open) → specs.GoesOn (f (expression.goes o))) → ((o : Open) → depth (expression.goes o) ≡ n) → expressions.FailsStep e next n → specs.FailsStep e (f next) (depth next)
spec_fails_after f depth fault.NoMemory next n at_failure goes_on same h = tt
spec_fails_after f depth fault.Unexpected next n at_failure goes_on same h = ap f h ∙ at_failure
spec_fails_after f depth fault.TooDeep expression.fails n at_failure goes_on same h = absurd h.1
spec_fails_after f depth fault.TooDeep (expression.goes o) n at_failure goes_on same h = (subst (λ (m : ℕ). NESTING_LIMIT < m) (sym (same o)) h.0, goes_on o)
spec_fails_after f depth fault.TooDeep (expression.ends e) n at_failure goes_on same h = absurd h.1

-- a declaration, where its type or value fails
pub spec_fails : (f : expression.Progress → value_specs.Progress) (depth : expression.Progress → ℕ) (e : StepFault) (o : Open) (t : Terminal) (a b : Context) → a ≡ b → f expression.fails ≡ value_specs.fails → ((p : Open) → specs.GoesOn (f (expression.goes p))) → ((p : Open) → depth (expression.goes p) ≡ expression.nesting b o t) → expressions.FailsStep e (expression.step a o t) (expression.nesting a o t) → specs.FailsStep e (f (expression.step b o t)) (depth (expression.step b o t))
spec_fails f depth e o t a b is at_failure goes_on same h = spec_fails_after f depth e (expression.step b o t) (expression.nesting b o t) at_failure goes_on same (subst (λ (x : Context). expressions.FailsStep e (expression.step x o t) (expression.nesting x o t)) is h)

simple_fails_after : (f : expression.Progress → simples.Progress) (depth : expression.Progress → ℕ) (e : StepFault) (next : expression.Progress) (n : ℕ) → f expression.fails ≡ simples.fails → ((o : Open) → simple.GoesOn (f (expression.goes o))) → ((o : Open) → depth (expression.goes o) ≡ n) → expressions.FailsStep e next n → simple.FailsStep e (f next) (depth next)
simple_fails_after f depth fault.NoMemory next n at_failure goes_on same h = tt
simple_fails_after f depth fault.Unexpected next n at_failure goes_on same h = ap f h ∙ at_failure
simple_fails_after f depth fault.TooDeep expression.fails n at_failure goes_on same h = absurd h.1
simple_fails_after f depth fault.TooDeep (expression.goes o) n at_failure goes_on same h = (subst (λ (m : ℕ). NESTING_LIMIT < m) (sym (same o)) h.0, goes_on o)
simple_fails_after f depth fault.TooDeep (expression.ends e) n at_failure goes_on same h = absurd h.1

-- a simple statement, where its expression fails
pub simple_fails : (f : expression.Progress → simples.Progress) (depth : expression.Progress → ℕ) (e : StepFault) (o : Open) (t : Terminal) (a b : Context) → a ≡ b → f expression.fails ≡ simples.fails → ((p : Open) → simple.GoesOn (f (expression.goes p))) → ((p : Open) → depth (expression.goes p) ≡ expression.nesting b o t) → expressions.FailsStep e (expression.step a o t) (expression.nesting a o t) → simple.FailsStep e (f (expression.step b o t)) (depth (expression.step b o t))
simple_fails f depth e o t a b is at_failure goes_on same h = simple_fails_after f depth e (expression.step b o t) (expression.nesting b o t) at_failure goes_on same (subst (λ (x : Context). expressions.FailsStep e (expression.step x o t) (expression.nesting x o t)) is h)
