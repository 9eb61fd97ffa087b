use Rattle.std.proofs.Common.{◌≡◌, ◌++◌, drop, map}
use Rattle.value_flows.specs.View.{param_tags_of}
use Rattle.escape_graph.specs.Targets.{heap_targets}
use Rattle.escape_graph.proofs.targets.heap_lists.Given as goal

abbrev pub invariant-loop-param : goal.invariant-loop-param
invariant-loop-param l = map (λ ts. ts.items) l.lists.items ++ map (λ t. heap_targets t.heap) (map param_tags_of (drop l.param-index l.tags)) ≡ map (λ t. heap_targets t.heap) (map param_tags_of l.tags)
