use Rattle.string_value.proofs.Literals.{no_bare_backslash}
use Rattle.string_value.proofs.laws.literals_have_no_bare_backslash.Goals as goal

pub returns : goal.returns
returns c = no_bare_backslash
