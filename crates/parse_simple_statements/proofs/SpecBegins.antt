-- A declaration at the first terminal of its type.
use Rattle.std.proofs.Common.{◌≡◌, ℕ, List, [], Result, refl, subst}
use Rattle.base.specs.declared.pos.Pos.{Pos}
use Rattle.syntax.specs.declared.expression.Name.{Name}
use Rattle.syntax.specs.Expressions.{Ex}
use Rattle.parse_expressions.specs.declared.fault.StepFault.{StepFault}
use Rattle.parse_expressions.specs.declared.terminal.Terminal.{Terminal}
use Rattle.parse_expressions.specs.declared.terminal.Terminal.TheVariants.{Comma, Assign}
use Rattle.parse_expressions.specs.Machine.{Context, Open, at_type_operand}
use Rattle.parse_expressions.specs.Machine as expression
use Rattle.parse_simple_statements.specs.declared.value_specs.SpecsProgress.{SpecsProgress}
use Rattle.parse_simple_statements.specs.Grammar.{Declares}
use Rattle.parse_simple_statements.specs.ValueSpecs.{Spot, at_names, spot_depth, type_context, after_type, step, nesting_after}
use Rattle.parse_simple_statements.specs.SpecStates.{GoesOn, Steps}
use Rattle.parse_simple_statements.proofs.Begins.{type_operand_not_ends, spec_nesting}

same_nesting : (k : Declares) (d : ℕ) (s : Spot) (xs : List Name) (t : Terminal) (b : Context) (o : Open) (then : expression.Progress) → ((e : Ex) → then ≡ expression.ends e → ⊥) → GoesOn (after_type k s xs t then) → nesting_after d s b o t then ≡ expression.nesting b o t
same_nesting k d s xs t b o expression.fails not_ends goes_on = absurd goes_on
same_nesting k d s xs t b o (expression.goes p) not_ends goes_on = refl
same_nesting k d s xs t b o (expression.ends e) not_ends goes_on = absurd (not_ends e refl)

type_first : (k : Declares) (d : ℕ) (s : Spot) (xs : List Name) (t : Terminal) (r : Result SpecsProgress StepFault) → Steps r d (after_type k s xs t (expression.step (type_context d s) (at_type_operand []) t)) (nesting_after d s (type_context d s) (at_type_operand []) t (expression.step (type_context d s) (at_type_operand []) t)) → Steps r d (after_type k s xs t (expression.type_operand [] t)) (spot_depth d s)
type_first k d s xs t r h = spec_nesting r d _ _ (spot_depth d s) (same_nesting k d s xs t (type_context d s) (at_type_operand []) (expression.type_operand [] t) (type_operand_not_ends [] t)) h

behind_names : (k : Declares) (d : ℕ) (s : Spot) (xs : List Name) (t : Terminal) (r : Result SpecsProgress StepFault) → (t ≡ Comma → ⊥) → ((pos : Pos) → t ≡ Assign pos → ⊥) → Steps r d (after_type k s xs t (expression.type_operand [] t)) (spot_depth d s) → Steps r d (step k d (at_names s xs) t) (spot_depth d s)
behind_names k d s xs Comma r no_comma no_assign h = absurd (no_comma refl)
behind_names k d s xs (Assign pos) r no_comma no_assign h = absurd (no_assign pos refl)
behind_names k d s xs t r no_comma no_assign h = h

pub type_begins : (k : Declares) (d : ℕ) (s : Spot) (xs : List Name) (t : Terminal) (r : Result SpecsProgress StepFault) (o : Open) → o ≡ at_type_operand [] → (t ≡ Comma → ⊥) → ((pos : Pos) → t ≡ Assign pos → ⊥) → Steps r d (after_type k s xs t (expression.step (type_context d s) o t)) (nesting_after d s (type_context d s) o t (expression.step (type_context d s) o t)) → Steps r d (step k d (at_names s xs) t) (spot_depth d s)
type_begins k d s xs t r o is no_comma no_assign h = behind_names k d s xs t r no_comma no_assign (type_first k d s xs t r (subst (λ (x : Open). Steps r d (after_type k s xs t (expression.step (type_context d s) x t)) (nesting_after d s (type_context d s) x t (expression.step (type_context d s) x t))) is h))
