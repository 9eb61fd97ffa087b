-- Expressions and types as abstract syntax, without boxes and vectors.
use Rattle.std.specs.Prelude.{ℕ, Bool, ◌-◌, List, [], ◌∷◌, Option, Some, None, take, drop}
use Rattle.base.specs.declared.pos.Pos.{Pos}
use Rattle.syntax.specs.declared.operator.BinOp.{BinOp}
use Rattle.syntax.specs.declared.operator.UnOp.{UnOp}
use Rattle.syntax.specs.declared.expression.Name.{Name}
use Rattle.syntax.specs.declared.expression.Expr.{Expr, Row_of-Expr, end_of-Expr, more_of-Expr, Row_of-Element, end_of-Element, more_of-Element}
use Rattle.syntax.specs.declared.expression.Expr.TheVariants as expr
use Rattle.syntax.specs.declared.expression.Bound.{Bound as CodeBound}
use Rattle.syntax.specs.declared.expression.Bound.TheVariants as bound
use Rattle.syntax.specs.declared.expression.Element.{Element}
use Rattle.syntax.specs.declared.expression.Element.TheVariants as item

mutual
  -- an expression or a type; a position is that of the node's own first token
  pub data Ex : Type 0 where
    number : Pos → ℕ → Ex
    -- a string, and the offset after its last byte
    string : Pos → ℕ → Ex
    name : Name → Ex
    unary : Pos → UnOp → Ex → Ex
    binary : Pos → BinOp → Ex → Ex → Ex
    paren : Pos → Ex → Ex
    -- the function, the arguments, and whether `...` stands after them
    call : Ex → Exs → Bool → Ex
    selector : Ex → Pos → Name → Ex
    index : Ex → Pos → Ex → Ex
    -- a low and a high bound
    slice : Ex → Pos → Bound → Bound → Ex
    -- the length, and the type of the elements
    array_type : Pos → Ex → Ex → Ex
    slice_type : Pos → Ex → Ex
    literal : Ex → Elements → Ex
    -- the elements of a literal without a type
    elements : Pos → Elements → Ex

  -- a list of expressions
  pub data Exs : Type 0 where
    none : Exs
    some : Ex → Exs → Exs

  pub data Bound : Type 0 where
    no_bound : Bound
    bound_at : Ex → Bound

  -- the elements of a literal, each with the name of its field where that stands before it
  pub data Elements : Type 0 where
    no_elements : Elements
    element : Option Name → Ex → Elements → Elements

-- the bytes of a name
abbrev pub spelled : List ℕ → Name → List ℕ
spelled text n = take (n.end - n.pos.offset) (drop n.pos.offset text)

-- ---- from what lies in memory

abbrev mutual
  pub ex_of : Expr → Ex
  ex_of (expr.Int pos n) = number pos n
  ex_of (expr.String pos end) = string pos end
  ex_of (expr.Name n) = name n
  ex_of (expr.Unary' pos op p e) = unary pos op (ex_of e)
  ex_of (expr.Binary' pos op p a q b) = binary pos op (ex_of a) (ex_of b)
  ex_of (expr.Paren' pos p e) = paren pos (ex_of e)
  ex_of (expr.Call' p f shape args spread) = call (ex_of f) (arguments_of args) spread
  ex_of (expr.Selector' p e pos n) = selector (ex_of e) pos n
  ex_of (expr.Index' p e pos q i) = index (ex_of e) pos (ex_of i)
  ex_of (expr.Slice' p e pos low high) = slice (ex_of e) pos (bound_of low) (bound_of high)
  ex_of (expr.ArrayType' pos p len q e) = array_type pos (ex_of len) (ex_of e)
  ex_of (expr.SliceType' pos p e) = slice_type pos (ex_of e)
  ex_of (expr.Literal' p t shape es) = literal (ex_of t) (element_row es)
  ex_of (expr.Elements' pos shape es) = elements pos (element_row es)

  pub bound_of : CodeBound → Bound
  bound_of bound.Absent = no_bound
  bound_of (bound.At' p e) = bound_at (ex_of e)

  pub arguments_of : {m : _} → Row_of-Expr m → Exs
  arguments_of end_of-Expr = none
  arguments_of (more_of-Expr e es) = some (ex_of e) (arguments_of es)

  pub element_row : {m : _} → Row_of-Element m → Elements
  element_row end_of-Element = no_elements
  element_row (more_of-Element (item.Plain e) es) = element None (ex_of e) (element_row es)
  element_row (more_of-Element (item.Keyed x e) es) = element (Some x) (ex_of e) (element_row es)

abbrev pub exs_of : List Expr → Exs
exs_of [] = none
exs_of (e ∷ es) = some (ex_of e) (exs_of es)

abbrev pub elements_of : List Element → Elements
elements_of [] = no_elements
elements_of (item.Plain e ∷ es) = element None (ex_of e) (elements_of es)
elements_of (item.Keyed x e ∷ es) = element (Some x) (ex_of e) (elements_of es)

abbrev pub ex_in : Option Expr → Option Ex
ex_in None = None
ex_in (Some e) = Some (ex_of e)
