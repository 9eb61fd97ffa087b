-- The bytes of a text, and the name that an expression is.
use Rattle.std.specs.Prelude.{ℕ, ◌-◌, List, Option, Some, None, take, drop}
use Rattle.syntax.specs.declared.expression.Name.{Name}
use Rattle.syntax.specs.Expressions.{Ex as TreeEx, name, paren}

-- the name that an expression is, in parentheses or not
abbrev pub name_in : TreeEx → Option Name
name_in (name n) = Some n
name_in (paren pos e) = name_in e
name_in other = None

-- the bytes of a text from one offset up to another
abbrev pub between : List ℕ → ℕ → ℕ → List ℕ
between text from behind = take (behind - from) (drop from text)
