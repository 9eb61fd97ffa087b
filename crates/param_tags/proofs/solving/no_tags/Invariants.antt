use Rattle.std.proofs.Common.{◌≡◌, ℕ, [], length}
use Rattle.value_flows.specs.View.{tags_of}
use Rattle.escape_graph.specs.Edges.{tags_of as tags_at}
use Rattle.param_tags.proofs.solving.no_tags.Given as goal

abbrev pub invariant-loop : goal.invariant-loop
invariant-loop l = record {
  size : length l.funcs.items ≡ l.counter;
  none : (f : ℕ) → tags_at (tags_of (record { funcs = l.funcs })) f ≡ [];
}
