-- A name where none is, as a default.
use Rattle.syntax.specs.declared.expression.Name.{Name}

abbrev pub no_name : Name
no_name = record { pos = record { offset = 0; line = 0; col = 0 }; end = 0 }
