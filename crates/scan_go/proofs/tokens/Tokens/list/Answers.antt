use Rattle.std.proofs.Common.{length}
use Rattle.scan_go.proofs.Spans.{all_spans}
use Rattle.scan_go.proofs.tokens.Tokens.list.Goals as goal

pub returns-clause-spans : goal.returns-clause-spans
returns-clause-spans c = rw (← c.self.view_is) (all_spans 0 c.self.inside.list.items (length c.self.inside.text.items) c.self.invariant.spans)
