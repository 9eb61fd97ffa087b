-- The grammar of expressions and types: which terminals a tree has [Go specification, Expressions, Operators, Types, Composite
-- literals, Calls]. In each relation the marks ts begin with those of the tree, and rest is left after them.
use Rattle.std.specs.Prelude.{◌≡◌, ℕ, suc, ◌≤◌, Bool, true, false, List, ◌∷◌, Option, Some, None, map, max}
use Rattle.base.specs.declared.pos.Pos.{Pos}
use Rattle.syntax.specs.declared.operator.UnOp.{UnOp}
use Rattle.syntax.specs.declared.operator.UnOp.TheVariants.{Star}
use Rattle.syntax.specs.declared.expression.Name.{Name}
use Rattle.syntax.specs.Expressions.{Ex, number, string, name, unary, binary, paren, call, selector, index, slice, array_type, slice_type, literal, elements, Exs, none, some, Bound, no_bound, bound_at, Elements, no_elements, element}
use Rattle.syntax.specs.Heights.{precedence, height}
use Rattle.parse_expressions.specs.declared.terminal.Terminal.{Terminal}
use Rattle.parse_expressions.specs.declared.terminal.Terminal.TheVariants.{Identifier, Number, String, Operator, Comma, Colon, Period, Ellipsis, LeftParen, RightParen, LeftBracket, RightBracket, LeftBrace, RightBrace}
use Rattle.parse_expressions.specs.Terminals.{prefix, prefix_in}

-- A terminal with its nesting: the number of brackets, braces and prefixes that are open around it, and at a binary operator, a
-- `.`, or the opening `[` or `(` after an expression at least one more than the height of the tree to its left. A bracket or prefix
-- is not around itself, a pair not around its closing bracket. A `[ ]` before the type of elements is a prefix of that type.
pub data Mark : Type 0 where
  inside : Terminal → ℕ → Mark

abbrev pub terminal_in : Mark → Terminal
terminal_in (inside t d) = t

abbrev pub nesting_of : Mark → ℕ
nesting_of (inside t d) = d

abbrev pub terminals_in : List Mark → List Terminal
terminals_in ms = map terminal_in ms

-- the mark of what stands after the expression e inside of d brackets
abbrev pub behind : ℕ → Ex → Terminal → Mark
behind d e t = inside t (max d (suc (height e)))

-- ---- values and types

-- An expression that may be a value. Types with brackets are none, nor are their pointer types; a name may be either.
abbrev pub IsValue : Ex → Type 0
IsValue (array_type pos len e) = ⊥
IsValue (slice_type pos e) = ⊥
IsValue (unary pos Star e) = IsValue e
IsValue (paren pos e) = IsValue e
IsValue _ = Unit {0}

abbrev pub AreValues : Exs → Type 0
AreValues none = Unit {0}
AreValues (some e es) = IsValue e × AreValues es

-- the operand of `*` may be a type, that of every other prefix is a value
abbrev pub FitsPrefix : UnOp → Ex → Type 0
FitsPrefix Star e = Unit {0}
FitsPrefix op e = IsValue e

-- ---- how lists end

-- the end of the arguments of a call inside of d brackets, with `...` after the last one or not: a comma may stand before it
pub data ClosesArguments : ℕ → Bool → List Mark → List Mark → Type 0 where
  closing : {d : ℕ} {rest : List Mark} → ClosesArguments d false (inside RightParen d ∷ rest) rest
  comma_closing : {d : ℕ} {rest : List Mark} → ClosesArguments d false (inside Comma (suc d) ∷ inside RightParen d ∷ rest) rest
  spread_closing : {d : ℕ} {rest : List Mark} → ClosesArguments d true (inside Ellipsis (suc d) ∷ inside RightParen d ∷ rest) rest
  spread_comma_closing : {d : ℕ} {rest : List Mark} → ClosesArguments d true (inside Ellipsis (suc d) ∷ inside Comma (suc d) ∷ inside RightParen d ∷ rest) rest

-- the end of the elements of a literal inside of d brackets
pub data ClosesElements : ℕ → List Mark → List Mark → Type 0 where
  elements_closing : {d : ℕ} {pos : Pos} {rest : List Mark} → ClosesElements d (inside (RightBrace pos) d ∷ rest) rest
  elements_comma_closing : {d : ℕ} {pos : Pos} {rest : List Mark} → ClosesElements d (inside Comma (suc d) ∷ inside (RightBrace pos) d ∷ rest) rest

-- the name of a field and its colon, where an element has one
abbrev pub ReadsKey : ℕ → Option Name → List Mark → List Mark → Type 0
ReadsKey d None ts rest = ts ≡ rest
ReadsKey d (Some x) ts rest = ts ≡ inside (Identifier x) d ∷ inside Colon d ∷ rest

-- ---- expressions and types

-- An expression or a type inside of d brackets and prefixes, whose outermost operator binds at least as tightly as p: 1 to 5 are
-- the precedences of binary operators, 6 is that of prefixes, 7 allows neither, and with 0 it may be the elements of a literal
-- without a type, as an element of a literal is. Binary operators associate to the left. With `false` a literal that begins with a
-- name stands in parentheses, as it does in the header of an `if` or `for`.
abbrev mutual
  pub ReadsEx : Bool → ℕ → ℕ → Ex → List Mark → List Mark → Type 0
  ReadsEx l p d (number pos n) ts rest = ts ≡ inside (Number pos n) d ∷ rest
  ReadsEx l p d (string pos end) ts rest = ts ≡ inside (String pos end) d ∷ rest
  ReadsEx l p d (name x) ts rest = ts ≡ inside (Identifier x) d ∷ rest
  ReadsEx l p d (unary pos op e) ts rest = (p ≤ 6) × (t : Terminal) × (m : List Mark) × (prefix_in t ≡ Some (prefix pos op)) × (ts ≡ inside t d ∷ m) × FitsPrefix op e × ReadsEx l 6 (suc d) e m rest
  ReadsEx l p d (binary pos op a b) ts rest = (p ≤ precedence op) × (m : List Mark) × (IsValue a × ReadsEx l (precedence op) d a ts (behind d a (Operator pos op) ∷ m)) × (IsValue b × ReadsEx l (suc (precedence op)) d b m rest)
  ReadsEx l p d (paren pos e) ts rest = (m : List Mark) × (ts ≡ inside (LeftParen pos) d ∷ m) × ReadsEx true 1 (suc d) e m (inside RightParen d ∷ rest)
  ReadsEx l p d (call f es spread) ts rest = (opening : Pos) × (m : List Mark) × (IsValue f × ReadsEx l 7 d f ts (behind d f (LeftParen opening) ∷ m)) × ReadsArguments d es spread m rest
  ReadsEx l p d (selector e pos x) ts rest = IsValue e × ReadsEx l 7 d e ts (behind d e (Period pos) ∷ inside (Identifier x) d ∷ rest)
  ReadsEx l p d (index e pos i) ts rest = (m : List Mark) × (IsValue e × ReadsEx l 7 d e ts (behind d e (LeftBracket pos) ∷ m)) × (IsValue i × ReadsEx l 1 (suc d) i m (inside RightBracket d ∷ rest))
  ReadsEx l p d (slice e pos low high) ts rest = (m n : List Mark) × (IsValue e × ReadsEx l 7 d e ts (behind d e (LeftBracket pos) ∷ m)) × ReadsBound l (suc d) low m (inside Colon (suc d) ∷ n) × ReadsBound l (suc d) high n (inside RightBracket d ∷ rest)
  ReadsEx l p d (array_type pos len e) ts rest = (m n : List Mark) × (ts ≡ inside (LeftBracket pos) d ∷ m) × (IsValue len × ReadsEx l 1 (suc d) len m (inside RightBracket d ∷ n)) × ReadsType l (suc d) e n rest
  ReadsEx l p d (slice_type pos e) ts rest = (m : List Mark) × (ts ≡ inside (LeftBracket pos) d ∷ inside RightBracket d ∷ m) × ReadsType l (suc d) e m rest
  ReadsEx l p d (literal t es) ts rest = (pos : Pos) × (m : List Mark) × ReadsLiteralType l d t ts (inside (LeftBrace pos) d ∷ m) × ReadsElements l d es m rest
  ReadsEx l p d (elements pos es) ts rest = (p ≡ 0) × (m : List Mark) × (ts ≡ inside (LeftBrace pos) d ∷ m) × ReadsElements l d es m rest

  -- a type
  pub ReadsType : Bool → ℕ → Ex → List Mark → List Mark → Type 0
  ReadsType l d (name x) ts rest = ts ≡ inside (Identifier x) d ∷ rest
  ReadsType l d (unary pos Star e) ts rest = (t : Terminal) × (m : List Mark) × (prefix_in t ≡ Some (prefix pos Star)) × (ts ≡ inside t d ∷ m) × ReadsType l (suc d) e m rest
  ReadsType l d (paren pos e) ts rest = (m : List Mark) × (ts ≡ inside (LeftParen pos) d ∷ m) × ReadsType true (suc d) e m (inside RightParen d ∷ rest)
  ReadsType l d (array_type pos len e) ts rest = (m n : List Mark) × (ts ≡ inside (LeftBracket pos) d ∷ m) × (IsValue len × ReadsEx l 1 (suc d) len m (inside RightBracket d ∷ n)) × ReadsType l (suc d) e n rest
  ReadsType l d (slice_type pos e) ts rest = (m : List Mark) × (ts ≡ inside (LeftBracket pos) d ∷ inside RightBracket d ∷ m) × ReadsType l (suc d) e m rest
  ReadsType l d _ ts rest = ⊥

  -- the type of a literal
  pub ReadsLiteralType : Bool → ℕ → Ex → List Mark → List Mark → Type 0
  ReadsLiteralType l d (name x) ts rest = (l ≡ true) × (ts ≡ inside (Identifier x) d ∷ rest)
  ReadsLiteralType l d (array_type pos len e) ts rest = (m n : List Mark) × (ts ≡ inside (LeftBracket pos) d ∷ m) × (IsValue len × ReadsEx l 1 (suc d) len m (inside RightBracket d ∷ n)) × ReadsType l (suc d) e n rest
  ReadsLiteralType l d (slice_type pos e) ts rest = (m : List Mark) × (ts ≡ inside (LeftBracket pos) d ∷ inside RightBracket d ∷ m) × ReadsType l (suc d) e m rest
  ReadsLiteralType l d _ ts rest = ⊥

  -- a bound of a slice expression
  pub ReadsBound : Bool → ℕ → Bound → List Mark → List Mark → Type 0
  ReadsBound l d no_bound ts rest = ts ≡ rest
  ReadsBound l d (bound_at e) ts rest = IsValue e × ReadsEx l 1 d e ts rest

  -- the arguments of a call inside of d brackets, from after its opening parenthesis to after the closing one: values and types
  pub ReadsArguments : ℕ → Exs → Bool → List Mark → List Mark → Type 0
  ReadsArguments d none spread ts rest = (spread ≡ false) × (ts ≡ inside RightParen d ∷ rest)
  ReadsArguments d (some e es) spread ts rest = (m n : List Mark) × ReadsEx true 1 (suc d) e ts m × ReadsMore true (suc d) es m n × ClosesArguments d spread n rest

  -- further expressions, each after a comma, all inside of d brackets
  pub ReadsMore : Bool → ℕ → Exs → List Mark → List Mark → Type 0
  ReadsMore l d none ts rest = ts ≡ rest
  ReadsMore l d (some e es) ts rest = (m n : List Mark) × (ts ≡ inside Comma d ∷ m) × ReadsEx l 1 d e m n × ReadsMore l d es n rest

  -- the elements of a literal inside of d brackets, from after its opening brace to after the closing one
  pub ReadsElements : Bool → ℕ → Elements → List Mark → List Mark → Type 0
  ReadsElements l d no_elements ts rest = (pos : Pos) × (ts ≡ inside (RightBrace pos) d ∷ rest)
  ReadsElements l d (element key e es) ts rest = (m n k : List Mark) × ReadsKey (suc d) key ts m × (IsValue e × ReadsEx l 0 (suc d) e m n) × ReadsMoreElements l (suc d) es n k × ClosesElements d k rest

  -- further elements, each after a comma
  pub ReadsMoreElements : Bool → ℕ → Elements → List Mark → List Mark → Type 0
  ReadsMoreElements l d no_elements ts rest = ts ≡ rest
  ReadsMoreElements l d (element key e es) ts rest = (m n k : List Mark) × (ts ≡ inside Comma d ∷ m) × ReadsKey d key m n × (IsValue e × ReadsEx l 0 d e n k) × ReadsMoreElements l d es k rest

-- an expression that is a value
abbrev pub ReadsValue : Bool → ℕ → Ex → List Mark → List Mark → Type 0
ReadsValue l d e ts rest = IsValue e × ReadsEx l 1 d e ts rest

-- one value or more
abbrev pub ReadsExs : Bool → ℕ → Exs → List Mark → List Mark → Type 0
ReadsExs l d none ts rest = ⊥
ReadsExs l d (some e es) ts rest = AreValues (some e es) × (m : List Mark) × ReadsEx l 1 d e ts m × ReadsMore l d es m rest
