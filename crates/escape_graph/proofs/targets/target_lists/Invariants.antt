use Rattle.std.proofs.Common.{◌≡◌, ◌++◌, drop, map}
use Rattle.escape_graph.specs.Targets.{target_list}
use Rattle.escape_graph.proofs.targets.target_lists.Given as goal

abbrev pub invariant-loop-target : goal.invariant-loop-target
invariant-loop-target l = map (λ ts. ts.items) l.lists.items ++ map target_list (drop l.target-index l.targets) ≡ map target_list l.targets
