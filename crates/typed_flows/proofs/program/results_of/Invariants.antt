use Rattle.std.proofs.Common.{◌≡◌, ◌++◌, drop, map}
use Rattle.typed.specs.Trees.{trees}
use Rattle.typed_syntax.specs.Syntax.{type_in}
use Rattle.value_flows.specs.View.{result_of}
use Rattle.typed_flows.specs.Flows.{results_from}
use Rattle.typed_flows.proofs.program.results_of.Given as goal

abbrev pub invariant-loop-j : goal.invariant-loop-j
invariant-loop-j l =
    map result_of l.results.items ++ results_from l.j (map (λ t. type_in (trees l.context.program.now.types) t.0) (drop l.j l.func.results.items)) (map (λ site. site.0) l.func.named.items)
    ≡ results_from 0 (map (λ t. type_in (trees l.context.program.now.types) t.0) l.func.results.items) (map (λ site. site.0) l.func.named.items)
