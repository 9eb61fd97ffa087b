use Rattle.std.proofs.Common.{rules}
use Rattle.syntax.specs.Expressions.{ex_of}
use Rattle.parse_simple_statements.proofs.SimpleSteps.{list_fails}
use Rattle.parse_simple_statements.proofs.simple.behind_list.Goals as goal

pub returns : goal.returns
returns c = list_fails c.args.before.items (ex_of c.args.last) c.args.token (search rules)
