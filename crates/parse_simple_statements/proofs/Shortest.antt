-- The shortest name and value, for texts that exist.
use Rattle.base.specs.declared.pos.Pos.{Pos}
use Rattle.syntax.specs.declared.expression.Name.{Name}
use Rattle.syntax.specs.Expressions.{Ex, number}
use Rattle.parse_expressions.specs.Terminals.{name_at}

abbrev pub origin : Pos
origin = record { offset = 0; line = 1; col = 1 }

abbrev pub some_word : Name
some_word = name_at origin 0

abbrev pub zero_at_origin : Ex
zero_at_origin = number origin 0
