-- What each state of the parser of a simple statement keeps, and that some text follows in each of them.
use Rattle.std.proofs.Common.{◌≡◌, if◌then◌else◌, Bool, true, false, List, [], ◌∷◌, inl, Option, Some, None, refl, subst}
use Rattle.base.specs.declared.pos.Pos.{Pos}
use Rattle.syntax.specs.declared.expression.Name.{Name}
use Rattle.syntax.specs.Expressions.{Ex, Exs, none, some}
use Rattle.syntax.specs.Statements.{Simple, Targets}
use Rattle.syntax.specs.Lists.{with_ex}
use Rattle.parse_expressions.specs.declared.terminal.Terminal.{Terminal}
use Rattle.parse_expressions.specs.declared.terminal.Terminal.TheVariants.{Number, Range, Assign, Update, Define, Increment, Decrement, Comma}
use Rattle.parse_expressions.specs.Grammar.{Mark, inside}
use Rattle.parse_expressions.specs.Machine as expression
use Rattle.parse_expressions.specs.Machine.{at_operand}
use Rattle.parse_expressions.proofs.Following as following
use Rattle.parse_simple_statements.specs.Simples.{Context, expression_context, Listed, to_assign, to_update, to_define, listed_simple, Simples, in_left, at_value, in_value, at_end, fails, goes, defines_names, names_in, behind_one, behind_list, behind_left, after_left, behind_value, after_value, ranges_over, step}
use Rattle.parse_expressions.proofs.Viable.{valid_next as open_valid, viable as open_viable}
use Rattle.parse_simple_statements.proofs.Shortest.{origin, zero_at_origin}
use Rattle.parse_simple_statements.proofs.ValueLists.{value_valid}
use Rattle.parse_simple_statements.proofs.SimplesFollowing.{BehindOperator, assigned, BehindLeft, BehindValue, Rest, Valid, ValidNext}

-- ---- what each state keeps

one_valid : (p : Context) (e : Ex) (t : Terminal) → ValidNext p (behind_one e t)
one_valid p e (Increment q) = tt
one_valid p e (Decrement q) = tt
one_valid p e t = tt

list_valid : (p : Context) (es : Exs) (e : Ex) (t : Terminal) → ValidNext p (behind_list es e t)
list_valid p none e t = one_valid p e t
list_valid p (some a es) e t = tt

define_valid : (p : Context) (flag : Bool) (found : Option (List Name)) (q : Pos) → ValidNext p (if flag then defines_names found q else fails)
define_valid p true (Some xs) q = tt
define_valid p true None q = tt
define_valid p false found q = tt

behind_left_valid : (p : Context) (es : Exs) (e : Ex) (t : Terminal) → ValidNext p (behind_left p es e t)
behind_left_valid p es e Comma = value_valid p.literals p.depth
behind_left_valid p es e (Assign q) = tt
behind_left_valid p es e (Update q op) = tt
behind_left_valid p es e (Define q) = define_valid p p.defines (names_in (with_ex es e)) q
behind_left_valid p es e t = list_valid p es e t

after_left_valid : (p : Context) (es : Exs) (t : Terminal) (q : expression.Progress) → following.ValidNext (expression_context p) q → ValidNext p (after_left p es t q)
after_left_valid p es t expression.fails valid = tt
after_left_valid p es t (expression.goes o) valid = valid
after_left_valid p es t (expression.ends e) valid = behind_left_valid p es e t

behind_value_valid : (p : Context) (l : Listed) (es : Exs) (t : Terminal) → ValidNext p (behind_value l es t)
behind_value_valid p l es Comma = value_valid p.literals p.depth
behind_value_valid p l es t = tt

after_value_valid : (p : Context) (l : Listed) (es : Exs) (t : Terminal) (q : expression.Progress) → following.ValidNext (expression_context p) q → ValidNext p (after_value l es t q)
after_value_valid p l es t expression.fails valid = tt
after_value_valid p l es t (expression.goes o) valid = valid
after_value_valid p l es t (expression.ends e) valid = behind_value_valid p l (with_ex es e) t

range_valid : (p : Context) (flag : Bool) (l : Listed) (at : Pos) → ValidNext p (if flag then ranges_over l at else fails)
range_valid p true (to_assign ls q) at = tt
range_valid p true (to_update ls q op) at = tt
range_valid p true (to_define xs q) at = tt
range_valid p false l at = tt

operator_valid : (p : Context) (l : Listed) (t : Terminal) → ValidNext p (step p (at_value l) t)
operator_valid p l (Range at) = range_valid p p.ranges l at
operator_valid p l t = after_value_valid p l none t (expression.step (expression_context p) (at_operand []) t) (open_valid (expression_context p) (at_operand []) t (value_valid p.literals p.depth))

pub valid_next : (p : Context) (s : Simples) (t : Terminal) → Valid p s → ValidNext p (step p s t)
valid_next p (in_left es o) t valid = after_left_valid p es t (expression.step (expression_context p) o t) (open_valid (expression_context p) o t valid)
valid_next p (at_value l) t valid = operator_valid p l t
valid_next p (in_value l es o) t valid = after_value_valid p l es t (expression.step (expression_context p) o t) (open_valid (expression_context p) o t valid)
valid_next p (at_end s) t valid = tt

pub valid_step : (p : Context) (s : Simples) (t : Terminal) (next : Simples) → Valid p s → step p s t ≡ goes next → Valid p next
valid_step p s t next valid is = subst (ValidNext p) is (valid_next p s t valid)

-- ---- some text follows

module _ (p : Context) (K : Simple → List Mark → Type 0) (R : Targets → Pos → List Mark → Type 0) where
  operator_then : ((x : Simple) → (n : List Mark) × K x n) → (l : Listed) → (n : List Mark) × BehindOperator p K R l n
  operator_then done_some l =
      let f = done_some (listed_simple l (some zero_at_origin none)) in
      (inside (Number origin 0) p.depth ∷ f.0, inl (record { whole = some zero_at_origin none; rest = f.0; reads = ((tt, tt), f.0, refl, refl); follows = f.1 }))

  left_then : ((x : Simple) → (n : List Mark) × K x n) → (es : Exs) (e : Ex) → (n : List Mark) × BehindLeft p K R es e n
  left_then done_some es e =
      let f = operator_then done_some (to_assign (with_ex es e) origin) in
      let n = inside (Assign origin) p.depth ∷ f.0 in
      (n, inl (record { others = none; rest = n; values = tt; reads = refl; follows = assigned f.1 }))

  value_then : ((x : Simple) → (n : List Mark) × K x n) → (l : Listed) (es : Exs) (e : Ex) → (n : List Mark) × BehindValue p K l es e n
  value_then done_some l es e = let f = done_some (listed_simple l (with_ex es e)) in (f.0, record { others = none; rest = f.0; values = tt; reads = refl; follows = f.1 })

  pub viable : (s : Simples) → Valid p s → ((x : Simple) → (n : List Mark) × K x n) → (w : List Mark) × Rest p K R s w
  viable (in_left es o) valid done_some = open_viable (expression_context p) (BehindLeft p K R es) o valid (λ e is. left_then done_some es e)
  viable (at_value l) valid done_some = operator_then done_some l
  viable (in_value l es o) valid done_some = open_viable (expression_context p) (BehindValue p K l es) o valid (λ e is. value_then done_some l es e)
  viable (at_end s) valid done_some = done_some s
