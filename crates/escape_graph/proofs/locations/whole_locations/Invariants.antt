use Rattle.std.proofs.Common.{◌≡◌, ◌++◌, drop, map}
use Rattle.value_flows.specs.View.{program_of}
use Rattle.escape_graph.specs.Locations.{all_locations, whole_locations}
use Rattle.escape_graph.proofs.locations.whole_locations.Given as goal

abbrev pub invariant-loop-batch : goal.invariant-loop-batch
invariant-loop-batch l = l.locations.items ++ all_locations (program_of l.program) (map (λ b. b.items) (drop l.batch-index l.batches)) ≡ whole_locations (program_of l.program) (map (λ b. b.items) l.batches)
