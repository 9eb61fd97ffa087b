use Rattle.std.proofs.Common.{List, map, take}
use Rattle.std.specs.Option.{option_map}
use Rattle.deref_walk.specs.declared.graph.Edge.{Edge}
use Rattle.value_flows.specs.View.{param_tags_of, program_of}
use Rattle.param_tags.specs.Heap.{heap_of, AreTagged}
use Rattle.param_tags.specs.Walks.{AreWalked}
use Rattle.param_tags.proofs.tags.tags_of_function.Given as goal

abbrev pub invariant-loop-param : goal.invariant-loop-param
invariant-loop-param l = (edges : List Edge) → AreWalked edges l.walks → AreTagged (program_of l.program) edges (heap_of l.placed) l.f.0 (map (option_map (λ x. x.0)) (take l.param-index l.param-items)) (map param_tags_of l.tags.items)
