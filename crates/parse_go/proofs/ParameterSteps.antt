-- The steps of the code that reads parameters and results.
use Rattle.std.proofs.Common.{◌≡◌, List, [], ◌∷◌, map, refl, ap, ◌∙◌}
use Rattle.std.specs.Prelude.{Result}
use Rattle.syntax.specs.declared.expression.Name.{Name}
use Rattle.syntax.specs.declared.expression.Expr.{Expr}
use Rattle.syntax.specs.declared.expression.Expr.TheVariants as expr
use Rattle.syntax.specs.Expressions.{Exs, some, name, exs_of}
use Rattle.syntax.specs.Declarations.{Field}
use Rattle.parse_expressions.specs.declared.fault.StepFault.{StepFault}
use Rattle.parse_expressions.specs.declared.fault.StepFault.TheVariants as fault
use Rattle.parse_expressions.specs.declared.terminal.Terminal.{Terminal}
use Rattle.parse_expressions.specs.declared.terminal.Terminal.TheVariants.{Identifier, Comma, RightParen}
use Rattle.parse_expressions.specs.Machine.{Open, at_type_operand}
use Rattle.parse_expressions.specs.Machine as expression
use Rattle.parse_expressions.specs.States as expressions
use Rattle.parse_go.specs.declared.parameters.ParametersProgress.{ParametersProgress}
use Rattle.parse_go.specs.Parameters.{at_name_or_type, at_names, at_next_type, at_field_names, type_context, types_named, type_begins, step, after_type, after_field, nesting_after, nesting_in_parens}
use Rattle.parse_go.specs.ParameterStates.{FailsStep, Steps}

names_as_types : (xs : List Name) → exs_of (map (λ x. expr.Name x) xs) ≡ types_named xs
names_as_types [] = refl
names_as_types (x ∷ xs) = ap (some (name x)) (names_as_types xs)

pub are_types : (ts : List Expr) (xs : List Name) → ts ≡ map (λ x. expr.Name x) xs → exs_of ts ≡ types_named xs
are_types ts xs is = ap exs_of is ∙ names_as_types xs

-- where the step inside a type fails, so does that of the parameters
pub type_fails : (ts : Exs) (o : Open) (t : Terminal) (e : StepFault) (p : expression.Progress) → expressions.FailsStep e p (expression.nesting type_context o t) → FailsStep e (after_type ts t p) (nesting_after o t p)
type_fails ts o t fault.NoMemory p h = tt
type_fails ts o t fault.Unexpected expression.fails h = refl
type_fails ts o t fault.Unexpected (expression.goes n) h = absurd cc
type_fails ts o t fault.Unexpected (expression.ends e) h = absurd cc
type_fails ts o t fault.TooDeep expression.fails h = absurd h.1
type_fails ts o t fault.TooDeep (expression.goes n) h = h
type_fails ts o t fault.TooDeep (expression.ends e) h = absurd h.1

pub named_type_fails : (fs : List Field) (xs : List Name) (o : Open) (t : Terminal) (e : StepFault) (p : expression.Progress) → expressions.FailsStep e p (expression.nesting type_context o t) → FailsStep e (after_field fs xs t p) (nesting_after o t p)
named_type_fails fs xs o t fault.NoMemory p h = tt
named_type_fails fs xs o t fault.Unexpected expression.fails h = refl
named_type_fails fs xs o t fault.Unexpected (expression.goes n) h = absurd cc
named_type_fails fs xs o t fault.Unexpected (expression.ends e) h = absurd cc
named_type_fails fs xs o t fault.TooDeep expression.fails h = absurd h.1
named_type_fails fs xs o t fault.TooDeep (expression.goes n) h = h
named_type_fails fs xs o t fault.TooDeep (expression.ends e) h = absurd h.1

-- the first token of a type, after the opening parenthesis or a comma, and after names
begun : (ts : Exs) (t : Terminal) (answer : Result ParametersProgress StepFault) (p : expression.Progress) → (nesting_in_parens t ≡ 1) → Steps answer (after_type ts t p) (nesting_after (at_type_operand []) t p) → Steps answer (after_type ts t p) 1
begun ts t answer expression.fails is h = rw is at h
begun ts t answer (expression.goes o) is h = h
begun ts t answer (expression.ends e) is h = rw is at h

pub type_read : (ts : Exs) (t : Terminal) (answer : Result ParametersProgress StepFault) → Steps answer (after_type ts t (type_begins t)) (nesting_after (at_type_operand []) t (type_begins t)) → Steps answer (after_type ts t (type_begins t)) (nesting_in_parens t)
type_read ts RightParen answer h = h
type_read ts t answer h = begun ts t answer (type_begins t) refl h

named_begun : (fs : List Field) (xs : List Name) (t : Terminal) (answer : Result ParametersProgress StepFault) (p : expression.Progress) → (nesting_in_parens t ≡ 1) → Steps answer (after_field fs xs t p) (nesting_after (at_type_operand []) t p) → Steps answer (after_field fs xs t p) 1
named_begun fs xs t answer expression.fails is h = rw is at h
named_begun fs xs t answer (expression.goes o) is h = h
named_begun fs xs t answer (expression.ends e) is h = rw is at h

pub named_type_read : (fs : List Field) (xs : List Name) (t : Terminal) (answer : Result ParametersProgress StepFault) → Steps answer (after_field fs xs t (type_begins t)) (nesting_after (at_type_operand []) t (type_begins t)) → Steps answer (after_field fs xs t (type_begins t)) (nesting_in_parens t)
named_type_read fs xs RightParen answer h = h
named_type_read fs xs t answer h = named_begun fs xs t answer (type_begins t) refl h

-- what begins a type, in each state where it may stand
pub type_next : (xs : List Name) (t : Terminal) → ((x : Name) → t ≡ Identifier x → ⊥) → (t ≡ RightParen → ⊥) → step (at_name_or_type xs) t ≡ after_type (types_named xs) t (type_begins t)
type_next xs (Identifier x) no_name no_end = absurd (no_name x refl)
type_next xs RightParen no_name no_end = absurd (no_end refl)
type_next xs t no_name no_end = refl

pub type_after : (ts : Exs) (t : Terminal) → (t ≡ RightParen → ⊥) → step (at_next_type ts) t ≡ after_type ts t (type_begins t)
type_after ts RightParen no_end = absurd (no_end refl)
type_after ts t no_end = refl

pub type_behind : (xs : List Name) (t : Terminal) → (t ≡ Comma → ⊥) → (t ≡ RightParen → ⊥) → step (at_names xs) t ≡ after_field [] xs t (type_begins t)
type_behind xs Comma no_comma no_end = absurd (no_comma refl)
type_behind xs RightParen no_comma no_end = absurd (no_end refl)
type_behind xs t no_comma no_end = refl

pub type_of_names : (fs : List Field) (xs : List Name) (t : Terminal) → (t ≡ Comma → ⊥) → step (at_field_names fs xs) t ≡ after_field fs xs t (type_begins t)
type_of_names fs xs Comma no_comma = absurd (no_comma refl)
type_of_names fs xs t no_comma = refl
