-- Where expressions and statements begin.
use Rattle.base.specs.declared.pos.Pos.{Pos}
use Rattle.syntax.specs.Expressions.{Ex, number, string, name, unary, binary, paren, call, selector, index, slice, array_type, slice_type, literal, elements}

abbrev pub first_pos : Ex → Pos
first_pos (number pos n) = pos
first_pos (string pos end) = pos
first_pos (name x) = x.pos
first_pos (unary pos op e) = pos
first_pos (binary pos op a b) = first_pos a
first_pos (paren pos e) = pos
first_pos (call f es spread) = first_pos f
first_pos (selector e pos x) = first_pos e
first_pos (index e pos i) = first_pos e
first_pos (slice e pos low high) = first_pos e
first_pos (array_type pos len e) = pos
first_pos (slice_type pos e) = pos
first_pos (literal t es) = first_pos t
first_pos (elements pos es) = pos
