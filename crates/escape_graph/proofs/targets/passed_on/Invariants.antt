use Rattle.std.proofs.Common.{◌≡◌, ◌++◌, drop, map}
use Rattle.value_flows.specs.View.{param_tags_of}
use Rattle.escape_graph.specs.Targets.{passed_on}
use Rattle.escape_graph.proofs.targets.passed_on.Given as goal

abbrev pub invariant-loop-param : goal.invariant-loop-param
invariant-loop-param l = map (λ ts. ts.items) l.passed.items ++ passed_on (map param_tags_of (drop l.param-index l.tags)) (map (λ ts. ts.items) l.lists) ≡ passed_on (map param_tags_of l.tags) (map (λ ts. ts.items) l.lists)
