use Rattle.std.proofs.Common.{◌≡◌, ◌++◌, drop, map}
use Rattle.typed.specs.Trees.{trees}
use Rattle.typed.specs.View.{func_of, program_of}
use Rattle.value_flows.specs.View.{func_of as flow_func_of}
use Rattle.typed_flows.specs.Flows.{funcs_flows}
use Rattle.typed_flows.proofs.program.funcs.Given as goal

abbrev pub invariant-loop-index : goal.invariant-loop-index
invariant-loop-index l =
    map flow_func_of l.all.items ++ funcs_flows (program_of l.context.program.now) l.index (map (func_of (trees l.context.program.now.types)) (drop l.index l.context.program.now.funcs.items))
    ≡ funcs_flows (program_of l.context.program.now) 0 (map (func_of (trees l.context.program.now.types)) l.context.program.now.funcs.items)
