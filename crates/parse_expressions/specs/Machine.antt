-- The parser of one expression or type as a machine that takes one terminal at a time.
use Rattle.std.specs.Prelude.{ℕ, suc, max, Bool, true, false, List, [], ◌∷◌, Option, Some, None, nat_le, if◌then◌else◌}
use Rattle.base.specs.declared.pos.Pos.{Pos}
use Rattle.syntax.specs.declared.operator.UnOp.TheVariants.{Star}
use Rattle.syntax.specs.declared.expression.Name.{Name}
use Rattle.syntax.specs.Expressions.{Ex, number, string, name, unary, binary, paren, call, selector, index, slice, array_type, slice_type, literal, elements, Exs, none, Bound, no_bound, bound_at, Elements, no_elements}
use Rattle.syntax.specs.Heights.{precedence, height}
use Rattle.syntax.specs.Lists.{with_ex, with_element}
use Rattle.parse_expressions.specs.declared.terminal.Terminal.{Terminal}
use Rattle.parse_expressions.specs.declared.terminal.Terminal.TheVariants.{Identifier, Number, String, Operator, Comma, Colon, Period, Ellipsis, LeftParen, RightParen, LeftBracket, RightBracket, LeftBrace, RightBrace}
use Rattle.parse_expressions.specs.Terminals.{Prefix, prefix, prefix_in}
use Rattle.parse_expressions.specs.Frames.{Container, of_type, of_element, Frame, prefixed, enclosed, awaiting, calling, indexing, bounding, measuring, filling, pointing, of_array, of_slice, enclosed_type, open_depth, allows}

-- where an expression or type stands: how many brackets are open around it, whether a literal in it may begin with a name, and
-- whether a type is wanted
pub record Context : Type 0 where
  pub depth : ℕ
  pub literals : Bool
  pub types : Bool

-- what was read of it, and what is wanted next
pub data Open : Type 0 where
  at_operand : List Frame → Open
  -- in a call after the opening parenthesis or a comma, after the arguments so far
  at_argument : List Frame → Ex → Exs → Open
  -- after the `...` of a call, and after the comma that follows it
  at_spread : List Frame → Ex → Exs → Open
  at_call_end : List Frame → Ex → Exs → Open
  -- after a `[` that begins a type
  at_bracket : List Frame → Pos → Open
  at_type_operand : List Frame → Open
  -- after a type in parentheses inside a type
  at_type_end : List Frame → Pos → Ex → Open
  -- after a type that is inside no other
  at_type : List Frame → Ex → Open
  -- after an operand
  at_operator : List Frame → Ex → Open
  -- after a `.`
  at_selector : List Frame → Ex → Pos → Open
  -- after the `[` of an index or slice expression, and after the `:` of the latter
  at_index : List Frame → Ex → Pos → Open
  at_high : List Frame → Ex → Pos → Bound → Open
  -- in braces after the opening one or a comma, after the elements so far; after the key of the next; and after an element without
  -- a type
  at_element : List Frame → Container → Elements → Open
  at_value : List Frame → Container → Elements → Name → Open
  at_element_end : List Frame → Container → Elements → Open

-- what the next terminal does: nothing that begins with it may follow; the machine goes on; or the expression or type ended before it
pub data Progress : Type 0 where
  fails : Progress
  goes : Open → Progress
  ends : Ex → Progress

-- ---- operands

abbrev pub after_prefix : List Frame → Option Prefix → Progress
after_prefix fs None = fails
after_prefix fs (Some (prefix pos op)) = goes (at_operand (prefixed pos op ∷ fs))

-- a terminal where an operand is wanted
abbrev pub operand : List Frame → Terminal → Progress
operand fs (Number pos n) = goes (at_operator fs (number pos n))
operand fs (String pos end) = goes (at_operator fs (string pos end))
operand fs (Identifier x) = goes (at_operator fs (name x))
operand fs (LeftParen pos) = goes (at_operand (enclosed pos ∷ fs))
operand fs (LeftBracket pos) = goes (at_bracket fs pos)
operand fs t = after_prefix fs (prefix_in t)

-- ---- types

-- after a type, whose prefixes inside the same type are closed
abbrev pub type_done : List Frame → Ex → Open
type_done (pointing pos ∷ fs) e = type_done fs (unary pos Star e)
type_done (of_array pos len ∷ fs) e = type_done fs (array_type pos len e)
type_done (of_slice pos ∷ fs) e = type_done fs (slice_type pos e)
type_done (enclosed_type pos ∷ fs) e = at_type_end fs pos e
type_done fs e = at_type fs e

abbrev pub after_type_prefix : List Frame → Option Prefix → Progress
after_type_prefix fs (Some (prefix pos Star)) = goes (at_type_operand (pointing pos ∷ fs))
after_type_prefix fs _ = fails

-- a terminal where a type is wanted
abbrev pub type_operand : List Frame → Terminal → Progress
type_operand fs (Identifier x) = goes (type_done fs (name x))
type_operand fs (LeftParen pos) = goes (at_type_operand (enclosed_type pos ∷ fs))
type_operand fs (LeftBracket pos) = goes (at_bracket fs pos)
type_operand fs t = after_type_prefix fs (prefix_in t)

-- ---- after an operand

-- closes all that binds at least as tightly as p
abbrev pub reduce : ℕ → List Frame → Ex → List Frame × Ex
reduce p (prefixed pos op ∷ fs) e = reduce p fs (unary pos op e)
reduce p (awaiting a pos op ∷ fs) e = if nat_le p (precedence op) then reduce p fs (binary pos op a e) else (awaiting a pos op ∷ fs, e)
reduce p fs e = (fs, e)

-- after the closing brace of elements
abbrev pub filled : List Frame → Container → Elements → Open
filled fs (of_type t) es = at_operator fs (literal t es)
filled (filling c before key ∷ fs) (of_element pos) es = at_element_end fs c (with_element before key (elements pos es))
filled fs (of_element pos) es = at_operator fs (elements pos es)

-- a terminal after what no operator or postfix goes on with
abbrev pub closes : List Frame → Ex → Terminal → Progress
closes [] e t = ends e
closes (enclosed pos ∷ fs) e RightParen = goes (at_operator fs (paren pos e))
closes (calling f es ∷ fs) e Comma = goes (at_argument fs f (with_ex es e))
closes (calling f es ∷ fs) e Ellipsis = goes (at_spread fs f (with_ex es e))
closes (calling f es ∷ fs) e RightParen = goes (at_operator fs (call f (with_ex es e) false))
closes (indexing a pos ∷ fs) e RightBracket = goes (at_operator fs (index a pos e))
closes (indexing a pos ∷ fs) e Colon = goes (at_high fs a pos (bound_at e))
closes (bounding a pos low ∷ fs) e RightBracket = goes (at_operator fs (slice a pos low (bound_at e)))
closes (measuring pos ∷ fs) e RightBracket = goes (at_type_operand (of_array pos e ∷ fs))
closes (filling c es key ∷ fs) e Comma = goes (at_element fs c (with_element es key e))
closes (filling c es key ∷ fs) e (RightBrace end) = goes (filled fs c (with_element es key e))
closes fs e t = fails

abbrev pub closes_reduced : List Frame → Ex → Terminal → Progress
closes_reduced fs e t = let r = reduce 0 fs e in closes r.0 r.1 t

-- a brace after a name
abbrev pub brace_behind_name : Context → List Frame → Name → Pos → Progress
brace_behind_name b fs x pos = if allows b.literals fs then goes (at_element fs (of_type (name x)) no_elements) else closes_reduced fs (name x) (LeftBrace pos)

abbrev pub behind_operand : Context → List Frame → Ex → Terminal → Progress
behind_operand b fs e (Operator pos op) = let r = reduce (precedence op) fs e in goes (at_operand (awaiting r.1 pos op ∷ r.0))
behind_operand b fs e (LeftParen pos) = goes (at_argument fs e none)
behind_operand b fs e (Period pos) = goes (at_selector fs e pos)
behind_operand b fs e (LeftBracket pos) = goes (at_index fs e pos)
behind_operand b fs (name x) (LeftBrace pos) = brace_behind_name b fs x pos
behind_operand b (filling c es None ∷ fs) (name x) Colon = goes (at_value fs c es x)
behind_operand b fs e t = closes_reduced fs e t

-- ---- after a type

abbrev pub is_bracket_type : Ex → Bool
is_bracket_type (array_type pos len e) = true
is_bracket_type (slice_type pos e) = true
is_bracket_type _ = false

-- the `*` before a type are closed
abbrev pub reduce_type : List Frame → Ex → List Frame × Ex
reduce_type (prefixed pos Star ∷ fs) e = reduce_type fs (unary pos Star e)
reduce_type fs e = (fs, e)

-- whether a type may stand here: it is an argument, or the operand of a `*` or in parentheses where a type may stand
abbrev pub allows_type : List Frame → Bool
allows_type (prefixed pos Star ∷ fs) = allows_type fs
allows_type (enclosed pos ∷ fs) = allows_type fs
allows_type (calling f es ∷ fs) = true
allows_type fs = false

-- a terminal after a type that stands as an argument or in the parentheses of one
abbrev pub closes_type : List Frame → Ex → Terminal → Progress
closes_type (enclosed pos ∷ fs) e RightParen = if allows_type fs then goes (at_type fs (paren pos e)) else fails
closes_type (calling f es ∷ fs) e Comma = goes (at_argument fs f (with_ex es e))
closes_type (calling f es ∷ fs) e Ellipsis = goes (at_spread fs f (with_ex es e))
closes_type (calling f es ∷ fs) e RightParen = goes (at_operator fs (call f (with_ex es e) false))
closes_type fs e t = fails

-- a terminal after a type inside an expression
abbrev pub behind_inner_type : List Frame → Ex → Terminal → Progress
behind_inner_type fs e (LeftBrace pos) = if is_bracket_type e then goes (at_element fs (of_type e) no_elements) else fails
behind_inner_type fs e t = let r = reduce_type fs e in closes_type r.0 r.1 t

abbrev pub behind_type : Context → List Frame → Ex → Terminal → Progress
behind_type b [] e t = if b.types then ends e else behind_inner_type [] e t
behind_type b (f ∷ fs) e t = behind_inner_type (f ∷ fs) e t

-- ---- one terminal more

abbrev pub step : Context → Open → Terminal → Progress
step b (at_operand fs) t = operand fs t
step b (at_argument fs f es) RightParen = goes (at_operator fs (call f es false))
step b (at_argument fs f es) t = operand (calling f es ∷ fs) t
step b (at_spread fs f es) Comma = goes (at_call_end fs f es)
step b (at_spread fs f es) RightParen = goes (at_operator fs (call f es true))
step b (at_spread fs f es) t = fails
step b (at_call_end fs f es) RightParen = goes (at_operator fs (call f es true))
step b (at_call_end fs f es) t = fails
step b (at_bracket fs pos) RightBracket = goes (at_type_operand (of_slice pos ∷ fs))
step b (at_bracket fs pos) t = operand (measuring pos ∷ fs) t
step b (at_type_operand fs) t = type_operand fs t
step b (at_type_end fs pos e) RightParen = goes (type_done fs (paren pos e))
step b (at_type_end fs pos e) t = fails
step b (at_type fs e) t = behind_type b fs e t
step b (at_operator fs e) t = behind_operand b fs e t
step b (at_selector fs e pos) (Identifier x) = goes (at_operator fs (selector e pos x))
step b (at_selector fs e pos) t = fails
step b (at_index fs e pos) Colon = goes (at_high fs e pos no_bound)
step b (at_index fs e pos) t = operand (indexing e pos ∷ fs) t
step b (at_high fs e pos low) RightBracket = goes (at_operator fs (slice e pos low no_bound))
step b (at_high fs e pos low) t = operand (bounding e pos low ∷ fs) t
step b (at_element fs c es) (RightBrace end) = goes (filled fs c es)
step b (at_element fs c es) (LeftBrace pos) = goes (at_element (filling c es None ∷ fs) (of_element pos) no_elements)
step b (at_element fs c es) t = operand (filling c es None ∷ fs) t
step b (at_value fs c es x) (LeftBrace pos) = goes (at_element (filling c es (Some x) ∷ fs) (of_element pos) no_elements)
step b (at_value fs c es x) t = operand (filling c es (Some x) ∷ fs) t
step b (at_element_end fs c es) Comma = goes (at_element fs c es)
step b (at_element_end fs c es) (RightBrace end) = goes (filled fs c es)
step b (at_element_end fs c es) t = fails

-- ---- the nesting of the next terminal, where the machine goes on

abbrev pub nesting_at_closes : ℕ → List Frame → Terminal → ℕ
nesting_at_closes d (calling f es ∷ fs) RightParen = open_depth d fs
nesting_at_closes d (calling f es ∷ fs) t = suc (open_depth d fs)
nesting_at_closes d (indexing a pos ∷ fs) Colon = suc (open_depth d fs)
nesting_at_closes d (filling c es key ∷ fs) Comma = suc (open_depth d fs)
nesting_at_closes d (f ∷ fs) t = open_depth d fs
nesting_at_closes d [] t = d

abbrev pub nesting_behind : ℕ → List Frame → Ex → Terminal → ℕ
nesting_behind d fs e (Operator pos op) = let r = reduce (precedence op) fs e in max (open_depth d r.0) (suc (height r.1))
nesting_behind d fs e (LeftParen pos) = max (open_depth d fs) (suc (height e))
nesting_behind d fs e (Period pos) = max (open_depth d fs) (suc (height e))
nesting_behind d fs e (LeftBracket pos) = max (open_depth d fs) (suc (height e))
nesting_behind d fs (name x) (LeftBrace pos) = open_depth d fs
nesting_behind d (filling c es None ∷ fs) (name x) Colon = suc (open_depth d fs)
nesting_behind d fs e t = nesting_at_closes d (reduce 0 fs e).0 t

abbrev pub nesting_behind_type : ℕ → List Frame → Ex → Terminal → ℕ
nesting_behind_type d fs e (LeftBrace pos) = open_depth d fs
nesting_behind_type d fs e t = nesting_at_closes d (reduce_type fs e).0 t

abbrev pub nesting_at_list : ℕ → List Frame → Terminal → ℕ
nesting_at_list d fs RightParen = open_depth d fs
nesting_at_list d fs (RightBrace end) = open_depth d fs
nesting_at_list d fs t = suc (open_depth d fs)

abbrev pub nesting : Context → Open → Terminal → ℕ
nesting b (at_operand fs) t = open_depth b.depth fs
nesting b (at_argument fs f es) t = nesting_at_list b.depth fs t
nesting b (at_spread fs f es) t = nesting_at_list b.depth fs t
nesting b (at_call_end fs f es) t = nesting_at_list b.depth fs t
nesting b (at_bracket fs pos) RightBracket = open_depth b.depth fs
nesting b (at_bracket fs pos) t = suc (open_depth b.depth fs)
nesting b (at_type_operand fs) t = open_depth b.depth fs
nesting b (at_type_end fs pos e) t = open_depth b.depth fs
nesting b (at_type fs e) t = nesting_behind_type b.depth fs e t
nesting b (at_operator fs e) t = nesting_behind b.depth fs e t
nesting b (at_selector fs e pos) t = open_depth b.depth fs
nesting b (at_index fs e pos) t = suc (open_depth b.depth fs)
nesting b (at_high fs e pos low) RightBracket = open_depth b.depth fs
nesting b (at_high fs e pos low) t = suc (open_depth b.depth fs)
nesting b (at_element fs c es) t = nesting_at_list b.depth fs t
nesting b (at_value fs c es x) t = suc (open_depth b.depth fs)
nesting b (at_element_end fs c es) t = nesting_at_list b.depth fs t
