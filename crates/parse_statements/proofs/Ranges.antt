-- Where a `range` may begin in a simple statement, and how deeply it is nested.
use Rattle.std.proofs.Common.{◌≡◌, Bool, true, false, List, [], Option, Some, None, Result, if◌then◌else◌, refl, sym, subst}
use Rattle.base.specs.declared.pos.Pos.{Pos}
use Rattle.syntax.specs.declared.expression.Name.{Name}
use Rattle.syntax.specs.Expressions.{Ex, Exs, none, some}
use Rattle.syntax.specs.Statements.{Targets}
use Rattle.syntax.specs.Lists.{with_ex}
use Rattle.parse_expressions.specs.declared.fault.StepFault.{StepFault}
use Rattle.parse_expressions.specs.declared.terminal.Terminal.{Terminal}
use Rattle.parse_expressions.specs.declared.terminal.Terminal.TheVariants.{Range, Assign, Update, Define, Increment, Decrement, Comma}
use Rattle.parse_expressions.specs.Machine.{at_operand}
use Rattle.parse_expressions.specs.Machine as expression
use Rattle.parse_statements.specs.declared.state.BodyProgress.{BodyProgress}
use Rattle.parse_simple_statements.specs.Simples.{Context, Listed, Simples, in_left, at_value, in_value, at_end}
use Rattle.parse_simple_statements.specs.Simples as simples
use Rattle.parse_statements.specs.Outer.{Blocks, statement_depth}
use Rattle.parse_statements.specs.Bodies.{Spot, in_body, in_if, in_for, in_post, context_of, in_simple, after_simple, nesting_simple, ranges_at, step, nesting}
use Rattle.parse_statements.specs.BodyStates.{GoesOn, Steps}
use Rattle.parse_statements.proofs.BodyBegins.{body_nesting}

no_range_behind_one : (e : Ex) (t : Terminal) (vars : Targets) (at : Pos) → simples.behind_one e t ≡ simples.ranges vars at → ⊥
no_range_behind_one e (Increment pos) vars at h = cc
no_range_behind_one e (Decrement pos) vars at h = cc
no_range_behind_one e t vars at h = cc

no_range_in_names : (o : Option (List Name)) (pos : Pos) (vars : Targets) (at : Pos) → simples.defines_names o pos ≡ simples.ranges vars at → ⊥
no_range_in_names (Some xs) pos vars at h = cc
no_range_in_names None pos vars at h = cc

no_range_in_definition : (defines : Bool) (o : Option (List Name)) (pos : Pos) (vars : Targets) (at : Pos) → (if defines then simples.defines_names o pos else simples.fails) ≡ simples.ranges vars at → ⊥
no_range_in_definition true o pos vars at h = no_range_in_names o pos vars at h
no_range_in_definition false o pos vars at h = cc

no_range_behind_list : (es : Exs) (e : Ex) (t : Terminal) (vars : Targets) (at : Pos) → simples.behind_list es e t ≡ simples.ranges vars at → ⊥
no_range_behind_list none e t vars at h = no_range_behind_one e t vars at h
no_range_behind_list (some a es) e t vars at h = cc

no_range_behind_left : (p : Context) (es : Exs) (e : Ex) (t : Terminal) (vars : Targets) (at : Pos) → simples.behind_left p es e t ≡ simples.ranges vars at → ⊥
no_range_behind_left p es e Comma vars at h = cc
no_range_behind_left p es e (Assign pos) vars at h = cc
no_range_behind_left p es e (Update pos op) vars at h = cc
no_range_behind_left p es e (Define pos) vars at h = no_range_in_definition p.defines (simples.names_in (with_ex es e)) pos vars at h
no_range_behind_left p es e t vars at h = no_range_behind_list es e t vars at h

no_range_in_left : (p : Context) (es : Exs) (t : Terminal) (next : expression.Progress) (vars : Targets) (at : Pos) → simples.after_left p es t next ≡ simples.ranges vars at → ⊥
no_range_in_left p es t expression.fails vars at h = cc
no_range_in_left p es t (expression.goes o) vars at h = cc
no_range_in_left p es t (expression.ends e) vars at h = no_range_behind_left p es e t vars at h

no_range_behind_value : (l : Listed) (es : Exs) (t : Terminal) (vars : Targets) (at : Pos) → simples.behind_value l es t ≡ simples.ranges vars at → ⊥
no_range_behind_value l es Comma vars at h = cc
no_range_behind_value l es t vars at h = cc

no_range_in_value : (l : Listed) (es : Exs) (t : Terminal) (next : expression.Progress) (vars : Targets) (at : Pos) → simples.after_value l es t next ≡ simples.ranges vars at → ⊥
no_range_in_value l es t expression.fails vars at h = cc
no_range_in_value l es t (expression.goes o) vars at h = cc
no_range_in_value l es t (expression.ends e) vars at h = no_range_behind_value l (with_ex es e) t vars at h

no_range_where_none : (l : Listed) (pos : Pos) (ranges : Bool) (vars : Targets) (at : Pos) → ranges ≡ false → (if ranges then simples.ranges_over l pos else simples.fails) ≡ simples.ranges vars at → ⊥
no_range_where_none l pos true vars at none_here h = cc
no_range_where_none l pos false vars at none_here h = cc

no_range_at_value : (p : Context) (l : Listed) (t : Terminal) (vars : Targets) (at : Pos) → p.ranges ≡ false → simples.step p (at_value l) t ≡ simples.ranges vars at → ⊥
no_range_at_value p l (Range pos) vars at none_here h = no_range_where_none l pos p.ranges vars at none_here h
no_range_at_value p l t vars at none_here h = no_range_in_value l none t (expression.step (simples.expression_context p) (at_operand []) t) vars at h

-- where no `range` may stand none begins
pub no_range : (p : Context) (q : Simples) (t : Terminal) (vars : Targets) (at : Pos) → p.ranges ≡ false → simples.step p q t ≡ simples.ranges vars at → ⊥
no_range p (in_left es o) t vars at none_here h = no_range_in_left p es t (expression.step (simples.expression_context p) o t) vars at h
no_range p (at_value l) t vars at none_here h = no_range_at_value p l t vars at none_here h
no_range p (in_value l es o) t vars at none_here h = no_range_in_value l es t (expression.step (simples.expression_context p) o t) vars at h
no_range p (at_end s) t vars at none_here h = cc

range_depth : (p : Context) (q : Simples) (t : Terminal) (vars : Targets) (at : Pos) → simples.step p q t ≡ simples.ranges vars at → p.depth ≡ simples.nesting p q t
range_depth p (in_left es o) t vars at h = absurd (no_range_in_left p es t (expression.step (simples.expression_context p) o t) vars at h)
range_depth p (at_value l) t vars at h = refl
range_depth p (in_value l es o) t vars at h = absurd (no_range_in_value l es t (expression.step (simples.expression_context p) o t) vars at h)
range_depth p (at_end s) t vars at h = refl

depth_at : (b : Blocks) (s : Spot) (q : Simples) (t : Terminal) (vars : Targets) (at : Pos) → simples.step (context_of b s) q t ≡ simples.ranges vars at → GoesOn (ranges_at b s vars at) → statement_depth b ≡ simples.nesting (context_of b s) q t
depth_at b in_body q t vars at is on = absurd on
depth_at b (in_if bs pos) q t vars at is on = absurd on
depth_at b (in_for pos) q t vars at is on = range_depth (context_of b (in_for pos)) q t vars at is
depth_at b (in_post pos i c) q t vars at is on = absurd on

-- a statement where a `range` was found
pub range_steps : (b : Blocks) (s : Spot) (q : Simples) (t : Terminal) (vars : Targets) (at : Pos) (r : Result BodyProgress StepFault) (p : Context) → p ≡ context_of b s → simples.step p q t ≡ simples.ranges vars at → Steps r (ranges_at b s vars at) (statement_depth b) → Steps r (step (in_simple b s q) t) (nesting (in_simple b s q) t)
range_steps b s q t vars at r p here found h =
    let is : simples.step (context_of b s) q t ≡ simples.ranges vars at = subst (λ (x : Context). simples.step x q t ≡ simples.ranges vars at) here found in
    subst (λ (x : simples.Progress). Steps r (after_simple b s t x) (nesting_simple b s q t x)) (sym is) (body_nesting r (ranges_at b s vars at) (statement_depth b) (simples.nesting (context_of b s) q t) (depth_at b s q t vars at is) h)
