-- What is open inside an expression or a type.
use Rattle.std.specs.Prelude.{ℕ, suc, Bool, true, List, [], ◌∷◌, Option}
use Rattle.base.specs.declared.pos.Pos.{Pos}
use Rattle.syntax.specs.declared.operator.BinOp.{BinOp}
use Rattle.syntax.specs.declared.operator.UnOp.{UnOp}
use Rattle.syntax.specs.declared.expression.Name.{Name}
use Rattle.syntax.specs.Expressions.{Ex, Exs, Bound, Elements}

-- what the elements in braces belong to
pub data Container : Type 0 where
  -- a literal of this type
  of_type : Ex → Container
  -- an element without a type, whose brace stands at this position
  of_element : Pos → Container

-- a construct that is open
pub data Frame : Type 0 where
  -- a prefix without its operand
  prefixed : Pos → UnOp → Frame
  -- parentheses that are not closed
  enclosed : Pos → Frame
  -- a left operand and its operator, without the right operand
  awaiting : Ex → Pos → BinOp → Frame
  -- a call that is not closed: the function, and the arguments so far
  calling : Ex → Exs → Frame
  -- an index, or the low bound of a slice expression, after what it is an index of
  indexing : Ex → Pos → Frame
  -- the high bound of a slice expression, after the low one
  bounding : Ex → Pos → Bound → Frame
  -- the length of an array type
  measuring : Pos → Frame
  -- an element of a literal, after the elements before and its key, if it has one
  filling : Container → Elements → Option Name → Frame
  -- inside a type: a `*`, the brackets of an array type with the length, those of a slice type, and parentheses
  pointing : Pos → Frame
  of_array : Pos → Ex → Frame
  of_slice : Pos → Frame
  enclosed_type : Pos → Frame

-- how many brackets, braces and prefixes are open, with b of them outside; the innermost frame stands first
abbrev pub open_depth : ℕ → List Frame → ℕ
open_depth b [] = b
open_depth b (awaiting a pos op ∷ fs) = open_depth b fs
open_depth b (f ∷ fs) = suc (open_depth b fs)

-- Whether a literal may begin with a name: l says so of the context outside, and parentheses allow it.
abbrev pub allows : Bool → List Frame → Bool
allows l [] = l
allows l (enclosed pos ∷ fs) = true
allows l (calling f es ∷ fs) = true
allows l (enclosed_type pos ∷ fs) = true
allows l (f ∷ fs) = allows l fs
