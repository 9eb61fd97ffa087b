use Rattle.syntax.specs.Declarations.{parameters_of}
use Rattle.parse_go.specs.Signatures.{named_of}
use Rattle.parse_go.proofs.TextSteps.{result_begins}
use Rattle.parse_go.proofs.function.results.Goals as goal

pub returns-in_default : goal.returns-in_default
returns-in_default c =
    result_begins (named_of c.args.named) (parameters_of c.args.params) c.args.token c.in_result.result c.in_default.not-LeftParen c.in_default.not-LeftBrace c.in_default.not-Semicolon (rw c.type_wanted-reading.ensures.is_open at c.in_result.ensures)
