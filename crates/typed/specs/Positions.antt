-- Positions of the text as the abstract syntax has them.
use Rattle.base.specs.declared.pos.Pos.{Pos}
use Rattle.typed_syntax.specs.Positions.{Position}

abbrev pub position : Pos → Position
position p = record { offset = p.offset; line = p.line; col = p.col }
