-- Tokens as the grammar takes them: what the tree keeps of each, and no more.
use Rattle.std.specs.Prelude.{ℕ, List, map, Option, Some, None}
use Rattle.base.specs.declared.pos.Pos.{Pos}
use Rattle.scan_go.specs.declared.spelling.Keyword.{Keyword}
use Rattle.scan_go.specs.declared.spelling.Keyword.TheVariants as keyword
use Rattle.scan_go.specs.declared.spelling.Op.{Op}
use Rattle.scan_go.specs.declared.spelling.Op.TheVariants as op
use Rattle.scan_go.specs.declared.token.Kind.{Kind}
use Rattle.scan_go.specs.declared.token.Kind.TheVariants as kind
use Rattle.scan_go.specs.declared.token.Token.{Token}
use Rattle.syntax.specs.declared.operator.ArithmeticOp.TheVariants as arithmetic
use Rattle.syntax.specs.declared.operator.CompareOp.TheVariants as compare
use Rattle.syntax.specs.declared.operator.BinOp.{BinOp}
use Rattle.syntax.specs.declared.operator.BinOp.TheVariants.{Arithmetic, Compare, LogicalAnd, LogicalOr}
use Rattle.syntax.specs.declared.operator.UnOp.{UnOp}
use Rattle.syntax.specs.declared.operator.UnOp.TheVariants.{Plus, Negate, Not, Complement, Star, Address}
use Rattle.syntax.specs.declared.expression.Name.{Name}
use Rattle.parse_expressions.specs.declared.terminal.Terminal.{Terminal}
use Rattle.parse_expressions.specs.declared.terminal.Terminal.TheVariants as terminal

abbrev pub name_at : Pos → ℕ → Name
name_at pos behind = record { pos = pos; end = behind }

abbrev pub word_terminal : Keyword → Pos → Terminal
word_terminal keyword.Package pos = terminal.Package
word_terminal keyword.Const pos = terminal.Const pos
word_terminal keyword.Var pos = terminal.Var pos
word_terminal keyword.Type pos = terminal.Type pos
word_terminal keyword.Struct pos = terminal.Struct
word_terminal keyword.Func pos = terminal.Func pos
word_terminal keyword.If pos = terminal.If pos
word_terminal keyword.Else pos = terminal.Else
word_terminal keyword.For pos = terminal.For pos
word_terminal keyword.Range pos = terminal.Range pos
word_terminal keyword.Break pos = terminal.Break pos
word_terminal keyword.Continue pos = terminal.Continue pos
word_terminal keyword.Return pos = terminal.Return pos
word_terminal _ pos = terminal.Other

abbrev pub op_terminal : Op → Pos → Terminal
op_terminal op.Plus pos = terminal.Operator pos (Arithmetic arithmetic.Add)
op_terminal op.Minus pos = terminal.Operator pos (Arithmetic arithmetic.Sub)
op_terminal op.Star pos = terminal.Operator pos (Arithmetic arithmetic.Mul)
op_terminal op.Slash pos = terminal.Operator pos (Arithmetic arithmetic.Div)
op_terminal op.Percent pos = terminal.Operator pos (Arithmetic arithmetic.Rem)
op_terminal op.And pos = terminal.Operator pos (Arithmetic arithmetic.And)
op_terminal op.Or pos = terminal.Operator pos (Arithmetic arithmetic.Or)
op_terminal op.Xor pos = terminal.Operator pos (Arithmetic arithmetic.Xor)
op_terminal op.AndNot pos = terminal.Operator pos (Arithmetic arithmetic.AndNot)
op_terminal op.Shl pos = terminal.Operator pos (Arithmetic arithmetic.ShiftLeft)
op_terminal op.Shr pos = terminal.Operator pos (Arithmetic arithmetic.ShiftRight)
op_terminal op.Equal pos = terminal.Operator pos (Compare compare.Equal)
op_terminal op.NotEqual pos = terminal.Operator pos (Compare compare.NotEqual)
op_terminal op.Less pos = terminal.Operator pos (Compare compare.Less)
op_terminal op.LessEqual pos = terminal.Operator pos (Compare compare.LessEqual)
op_terminal op.Greater pos = terminal.Operator pos (Compare compare.Greater)
op_terminal op.GreaterEqual pos = terminal.Operator pos (Compare compare.GreaterEqual)
op_terminal op.LogicalAnd pos = terminal.Operator pos LogicalAnd
op_terminal op.LogicalOr pos = terminal.Operator pos LogicalOr
op_terminal op.AddAssign pos = terminal.Update pos arithmetic.Add
op_terminal op.SubAssign pos = terminal.Update pos arithmetic.Sub
op_terminal op.MulAssign pos = terminal.Update pos arithmetic.Mul
op_terminal op.DivAssign pos = terminal.Update pos arithmetic.Div
op_terminal op.RemAssign pos = terminal.Update pos arithmetic.Rem
op_terminal op.AndAssign pos = terminal.Update pos arithmetic.And
op_terminal op.OrAssign pos = terminal.Update pos arithmetic.Or
op_terminal op.XorAssign pos = terminal.Update pos arithmetic.Xor
op_terminal op.AndNotAssign pos = terminal.Update pos arithmetic.AndNot
op_terminal op.ShlAssign pos = terminal.Update pos arithmetic.ShiftLeft
op_terminal op.ShrAssign pos = terminal.Update pos arithmetic.ShiftRight
op_terminal op.Not pos = terminal.Not pos
op_terminal op.Assign pos = terminal.Assign pos
op_terminal op.Define pos = terminal.Define pos
op_terminal op.Increment pos = terminal.Increment pos
op_terminal op.Decrement pos = terminal.Decrement pos
op_terminal op.Comma pos = terminal.Comma
op_terminal op.Semicolon pos = terminal.Semicolon
op_terminal op.Colon pos = terminal.Colon
op_terminal op.Dot pos = terminal.Period pos
op_terminal op.Ellipsis pos = terminal.Ellipsis
op_terminal op.LeftParen pos = terminal.LeftParen pos
op_terminal op.RightParen pos = terminal.RightParen
op_terminal op.LeftBracket pos = terminal.LeftBracket pos
op_terminal op.RightBracket pos = terminal.RightBracket
op_terminal op.LeftBrace pos = terminal.LeftBrace pos
op_terminal op.RightBrace pos = terminal.RightBrace pos
op_terminal op.Arrow pos = terminal.Other
op_terminal op.Tilde pos = terminal.Other

-- the terminal of what stands at a position, up to the offset after it
abbrev pub terminal_at : Kind → Pos → ℕ → Terminal
terminal_at kind.Name pos behind = terminal.Identifier (name_at pos behind)
terminal_at (kind.Number n) pos behind = terminal.Number pos n
terminal_at kind.String pos behind = terminal.String pos behind
terminal_at (kind.Keyword word) pos behind = word_terminal word pos
terminal_at (kind.Op o) pos behind = op_terminal o pos

abbrev pub terminal_of : Token → Terminal
terminal_of token = terminal_at token.kind token.pos token.end

abbrev pub terminals_of : List Token → List Terminal
terminals_of tokens = map terminal_of tokens

-- a prefix operator with its position
pub data Prefix : Type 0 where
  prefix : Pos → UnOp → Prefix

-- the prefix that an operator on two operands is as well
abbrev pub prefix_of : Pos → BinOp → Option Prefix
prefix_of at (Arithmetic arithmetic.Add) = Some (prefix at Plus)
prefix_of at (Arithmetic arithmetic.Sub) = Some (prefix at Negate)
prefix_of at (Arithmetic arithmetic.Xor) = Some (prefix at Complement)
prefix_of at (Arithmetic arithmetic.Mul) = Some (prefix at Star)
prefix_of at (Arithmetic arithmetic.And) = Some (prefix at Address)
prefix_of at _ = None

-- the prefix that a terminal is
abbrev pub prefix_in : Terminal → Option Prefix
prefix_in (terminal.Operator at o) = prefix_of at o
prefix_in (terminal.Not at) = Some (prefix at Not)
prefix_in _ = None
