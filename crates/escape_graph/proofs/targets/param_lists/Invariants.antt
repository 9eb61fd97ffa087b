use Rattle.std.proofs.Common.{◌≡◌, ◌++◌, drop, map}
use Rattle.std.specs.Option.{option_map}
use Rattle.escape_graph.specs.Targets.{param_targets}
use Rattle.escape_graph.proofs.targets.param_lists.Given as goal

abbrev pub invariant-loop-param : goal.invariant-loop-param
invariant-loop-param l = map (λ ts. ts.items) l.lists.items ++ map param_targets (map (option_map (λ x. x.0)) (drop l.param-index l.params)) ≡ map param_targets (map (option_map (λ x. x.0)) l.params)
