use Rattle.std.proofs.Common.{length}
use Rattle.parse_go.specs.Signatures.{file_in}
use Rattle.parse_go.proofs.Positions.{fault_only, tree_only}
use Rattle.parse_go.proofs.NameSpans.{answer_spans}
use Rattle.parse_go.proofs.parsing.parse.Goals as goal

pub returns-in_err-file-clause-only : goal.returns-in_err-file-clause-only
returns-in_err-file-clause-only c =
    fault_only c.args.tokens.text c.list.result.now c.args.tokens.list c.end.result c.in_err-file.field-0.0 c.from_residual.result c.list.ensures.value c.from_residual.ensures.1 c.in_err-file.ensures.fault

pub returns-clause-only : goal.returns-clause-only
returns-clause-only c = λ tree h. tree_only c.args.tokens.text c.list.result.now c.args.tokens.list (record { text = c.into_text.result.items; file = file_in c.in_ok-file.file }) tree c.list.ensures.value c.into_text.ensures c.in_ok-file.ensures.one h

pub returns-clause-spans : goal.returns-clause-spans
returns-clause-spans c = answer_spans (length c.args.tokens.text) c.list.result.now c.args.tokens.list (file_in c.in_ok-file.file) c.list.ensures.value c.in_ok-file.ensures.found c.list.ensures.spans
