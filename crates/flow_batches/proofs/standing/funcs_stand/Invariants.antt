use Rattle.std.proofs.Common.{◌≡◌, drop, map}
use Rattle.value_flows.specs.View.{func_of, program_of}
use Rattle.flow_batches.specs.Tested.{all_from, func_stands}
use Rattle.flow_batches.proofs.standing.funcs_stand.Given as goal

abbrev pub invariant-loop-f : goal.invariant-loop-f
invariant-loop-f l = all_from (func_stands (program_of l.program)) l.f (map func_of (drop l.f l.program.funcs.items)) ≡ all_from (func_stands (program_of l.program)) 0 (map func_of l.program.funcs.items)
