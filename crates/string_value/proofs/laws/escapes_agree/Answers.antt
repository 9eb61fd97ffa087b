use Rattle.string_value.proofs.Escapes.{escapes_agree}
use Rattle.string_value.proofs.laws.escapes_agree.Goals as goal

pub returns : goal.returns
returns c = escapes_agree
