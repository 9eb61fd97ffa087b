use Rattle.report_checks.proofs.Cutting.{rest_some, rest_none}
use Rattle.report_checks.proofs.cuts.rest.Goals as goal

pub returns-then-length-text : goal.returns-then-length-text
returns-then-length-text c = rest_some c.args.separator c.args.text.now c.front_length-length.result c.front_length-length.ensures.is c.if-length-text.true

pub returns-else-length-text : goal.returns-else-length-text
returns-else-length-text c = rest_none c.args.separator c.args.text.now c.front_length-length.result c.front_length-length.ensures.is c.if-length-text.false
