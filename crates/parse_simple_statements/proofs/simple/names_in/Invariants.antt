use Rattle.std.proofs.Common.{◌≡◌, drop}
use Rattle.syntax.specs.Expressions.{exs_of}
use Rattle.parse_simple_statements.specs.Simples.{names_in}
use Rattle.parse_simple_statements.proofs.NamesIn.{behind}
use Rattle.parse_simple_statements.proofs.simple.names_in.Given as goal

abbrev pub invariant-loop-value : goal.invariant-loop-value
invariant-loop-value l = names_in (exs_of l.values) ≡ behind l.names.items (names_in (exs_of (drop l.value-index l.values)))
