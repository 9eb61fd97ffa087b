-- Where the layer below takes no further terminal, this one takes none for the same reason.
use Rattle.std.proofs.Common.{◌≡◌, ℕ, ◌<◌, refl, ap, ◌∙◌, sym, subst}
use Rattle.base.specs.declared.pos.Pos.{Pos}
use Rattle.syntax.specs.declared.limit.TheConstants.{NESTING_LIMIT}
use Rattle.syntax.specs.Statements.{Targets}
use Rattle.parse_expressions.specs.declared.fault.StepFault.{StepFault}
use Rattle.parse_expressions.specs.declared.fault.StepFault.TheVariants as fault
use Rattle.parse_expressions.specs.declared.terminal.Terminal.{Terminal}
use Rattle.parse_expressions.specs.Machine.{Context as ExpressionContext, Open}
use Rattle.parse_expressions.specs.Machine as expression
use Rattle.parse_expressions.specs.States as expressions
use Rattle.parse_simple_statements.specs.Grammar.{of_variables}
use Rattle.parse_simple_statements.specs.ValueSpecs.{Specs}
use Rattle.parse_simple_statements.specs.ValueSpecs as value_specs
use Rattle.parse_simple_statements.specs.SpecStates as specs
use Rattle.parse_simple_statements.specs.Simples.{Context, Simples}
use Rattle.parse_simple_statements.specs.Simples as simples
use Rattle.parse_simple_statements.specs.SimpleStates as simple
use Rattle.parse_statements.specs.Outer.{Blocks, statement_depth}
use Rattle.parse_statements.specs.Bodies.{Spot, in_body, in_if, in_for, in_post, context_of, in_var, in_simple}
use Rattle.parse_statements.specs.Bodies as bodies
use Rattle.parse_statements.specs.BodyStates as body
use Rattle.parse_statements.proofs.Ranges.{no_range}

body_fails_after : (f : expression.Progress → bodies.Progress) (depth : expression.Progress → ℕ) (e : StepFault) (next : expression.Progress) (n : ℕ) → f expression.fails ≡ bodies.fails → ((o : Open) → body.GoesOn (f (expression.goes o))) → ((o : Open) → depth (expression.goes o) ≡ n) → expressions.FailsStep e next n → body.FailsStep e (f next) (depth next)
body_fails_after f depth fault.NoMemory next n at_failure goes_on same h = tt
body_fails_after f depth fault.Unexpected next n at_failure goes_on same h = ap f h ∙ at_failure
body_fails_after f depth fault.TooDeep expression.fails n at_failure goes_on same h = absurd h.1
body_fails_after f depth fault.TooDeep (expression.goes o) n at_failure goes_on same h = (subst (λ (m : ℕ). NESTING_LIMIT < m) (sym (same o)) h.0, goes_on o)
body_fails_after f depth fault.TooDeep (expression.ends e) n at_failure goes_on same h = absurd h.1

-- a statement, where its expression fails
pub body_fails : (f : expression.Progress → bodies.Progress) (depth : expression.Progress → ℕ) (e : StepFault) (o : Open) (t : Terminal) (a b : ExpressionContext) → a ≡ b → f expression.fails ≡ bodies.fails → ((p : Open) → body.GoesOn (f (expression.goes p))) → ((p : Open) → depth (expression.goes p) ≡ expression.nesting b o t) → expressions.FailsStep e (expression.step a o t) (expression.nesting a o t) → body.FailsStep e (f (expression.step b o t)) (depth (expression.step b o t))
body_fails f depth e o t a b is at_failure goes_on same h = body_fails_after f depth e (expression.step b o t) (expression.nesting b o t) at_failure goes_on same (subst (λ (x : ExpressionContext). expressions.FailsStep e (expression.step x o t) (expression.nesting x o t)) is h)

var_fails_after : (b : Blocks) (pos : Pos) (s : Specs) (t : Terminal) (e : StepFault) (next : value_specs.Progress) → specs.FailsStep e next (value_specs.nesting (statement_depth b) s t) → body.FailsStep e (bodies.after_var b pos t next) (bodies.nesting_var b s t next)
var_fails_after b pos s t fault.NoMemory next h = tt
var_fails_after b pos s t fault.Unexpected next h = ap (bodies.after_var b pos t) h
var_fails_after b pos s t fault.TooDeep value_specs.fails h = absurd h.1
var_fails_after b pos s t fault.TooDeep (value_specs.goes p) h = (h.0, tt)
var_fails_after b pos s t fault.TooDeep (value_specs.ends all) h = absurd h.1

-- a statement, where its declaration fails
pub var_fails : (b : Blocks) (pos : Pos) (s : Specs) (t : Terminal) (e : StepFault) (d : ℕ) → d ≡ statement_depth b → specs.FailsStep e (value_specs.step of_variables d s t) (value_specs.nesting d s t) → body.FailsStep e (bodies.step (in_var b pos s) t) (bodies.nesting (in_var b pos s) t)
var_fails b pos s t e d is h = var_fails_after b pos s t e (value_specs.step of_variables (statement_depth b) s t) (subst (λ (x : ℕ). specs.FailsStep e (value_specs.step of_variables x s t) (value_specs.nesting x s t)) is h)

range_begins : (b : Blocks) (s : Spot) (q : Simples) (t : Terminal) (vars : Targets) (at : Pos) → simples.step (context_of b s) q t ≡ simples.ranges vars at → body.GoesOn (bodies.ranges_at b s vars at)
range_begins b in_body q t vars at h = absurd (no_range (context_of b in_body) q t vars at refl h)
range_begins b (in_if bs pos) q t vars at h = absurd (no_range (context_of b (in_if bs pos)) q t vars at refl h)
range_begins b (in_for pos) q t vars at h = tt
range_begins b (in_post pos i c) q t vars at h = absurd (no_range (context_of b (in_post pos i c)) q t vars at refl h)

simple_statement_fails_after : (b : Blocks) (s : Spot) (q : Simples) (t : Terminal) (e : StepFault) (next : simples.Progress) → simples.step (context_of b s) q t ≡ next → simple.FailsStep e next (simples.nesting (context_of b s) q t) → body.FailsStep e (bodies.after_simple b s t next) (bodies.nesting_simple b s q t next)
simple_statement_fails_after b s q t fault.NoMemory next is h = tt
simple_statement_fails_after b s q t fault.Unexpected next is h = ap (bodies.after_simple b s t) h
simple_statement_fails_after b s q t fault.TooDeep simples.fails is h = absurd h.1
simple_statement_fails_after b s q t fault.TooDeep (simples.goes p) is h = (h.0, tt)
simple_statement_fails_after b s q t fault.TooDeep (simples.ends x) is h = absurd h.1
simple_statement_fails_after b s q t fault.TooDeep (simples.ranges vars at) is h = (h.0, range_begins b s q t vars at is)

-- a statement that is a simple one, where that fails
pub simple_statement_fails : (b : Blocks) (s : Spot) (q : Simples) (t : Terminal) (e : StepFault) (p : Context) → p ≡ context_of b s → simple.FailsStep e (simples.step p q t) (simples.nesting p q t) → body.FailsStep e (bodies.step (in_simple b s q) t) (bodies.nesting (in_simple b s q) t)
simple_statement_fails b s q t e p is h = simple_statement_fails_after b s q t e (simples.step (context_of b s) q t) refl (subst (λ (x : Context). simple.FailsStep e (simples.step x q t) (simples.nesting x q t)) is h)
