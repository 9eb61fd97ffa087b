use Rattle.std.proofs.Common.{◌≡◌, ◌++◌, drop}
use Rattle.value_flows.specs.View.{program_of}
use Rattle.escape_graph.specs.Locations.{funcs_locations}
use Rattle.escape_graph.proofs.locations.add_funcs.Given as goal

abbrev pub invariant-loop-f : goal.invariant-loop-f
invariant-loop-f l = l.locations.items ++ funcs_locations (program_of l.program) (drop l.f-index l.funcs) ≡ l.fn.locations.items ++ funcs_locations (program_of l.program) l.funcs
