-- How high an expression is, and how tightly its operators bind.
use Rattle.std.specs.Prelude.{ℕ, suc, max, min}
use Rattle.syntax.specs.declared.limit.TheConstants.{NESTING_LIMIT}
use Rattle.syntax.specs.declared.operator.ArithmeticOp.{ArithmeticOp}
use Rattle.syntax.specs.declared.operator.ArithmeticOp.TheVariants as arithmetic
use Rattle.syntax.specs.declared.operator.BinOp.{BinOp}
use Rattle.syntax.specs.declared.operator.BinOp.TheVariants.{Arithmetic, Compare, LogicalAnd, LogicalOr}
use Rattle.syntax.specs.Expressions.{Ex, number, string, name, unary, binary, paren, call, selector, index, slice, array_type, slice_type, literal, elements, Exs, none, some, Bound, no_bound, bound_at, Elements, no_elements, element}

abbrev pub arithmetic_precedence : ArithmeticOp → ℕ
arithmetic_precedence arithmetic.Add = 4
arithmetic_precedence arithmetic.Sub = 4
arithmetic_precedence arithmetic.Or = 4
arithmetic_precedence arithmetic.Xor = 4
arithmetic_precedence _ = 5

-- the precedence of a binary operator, from 1 to 5 [Go specification, Operator precedence]
abbrev pub precedence : BinOp → ℕ
precedence (Arithmetic op) = arithmetic_precedence op
precedence (Compare op) = 3
precedence LogicalAnd = 2
precedence LogicalOr = 1

-- How high an expression is: a node is one higher than the highest of its parts, and parentheses add nothing.
abbrev mutual
  pub height : Ex → ℕ
  height (number pos n) = 0
  height (string pos end) = 0
  height (name x) = 0
  height (unary pos op e) = suc (height e)
  height (binary pos op a b) = suc (max (height a) (height b))
  height (paren pos e) = height e
  height (call f es spread) = suc (max (height f) (greatest_height es))
  height (selector e pos x) = suc (height e)
  height (index e pos i) = suc (max (height e) (height i))
  height (slice e pos low high) = suc (max (height e) (max (bound_height low) (bound_height high)))
  height (array_type pos len e) = suc (max (height len) (height e))
  height (slice_type pos e) = suc (height e)
  height (literal t es) = suc (max (height t) (elements_height es))
  height (elements pos no_elements) = 0
  height (elements pos (element key e es)) = suc (max (height e) (elements_height es))

  pub greatest_height : Exs → ℕ
  greatest_height none = 0
  greatest_height (some e es) = max (height e) (greatest_height es)

  pub bound_height : Bound → ℕ
  bound_height no_bound = 0
  bound_height (bound_at e) = height e

  pub elements_height : Elements → ℕ
  elements_height no_elements = 0
  elements_height (element key e es) = max (height e) (elements_height es)

-- a height as a parser counts it: all above the limit are one
abbrev pub capped_height : Ex → ℕ
capped_height e = min (height e) (suc NESTING_LIMIT)
