use Rattle.std.proofs.Common.{◌≤◌, length}
use Rattle.parse_expressions.specs.Terminals.{terminals_of}
use Rattle.parse_go.specs.States.{state_of}
use Rattle.parse_go.proofs.Runs.{ReachedAt}
use Rattle.parse_go.proofs.parsing.file_of.Given as goal

abbrev pub invariant-loop-token : goal.invariant-loop-token
invariant-loop-token l = record {
  within : l.token-index ≤ length l.tokens;
  reached : ReachedAt (terminals_of l.tokens) l.token-index (state_of l.state);
}
