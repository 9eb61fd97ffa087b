use Rattle.std.proofs.Common.{arith}
use Rattle.string_value.proofs.NoEscape.{at_end}
use Rattle.string_value.proofs.piece.escape.Goals as goal

pub returns-then-is_empty-clause-value : goal.returns-then-is_empty-clause-value
returns-then-is_empty-clause-value c = at_end c.args.rest.now (grind arith)
