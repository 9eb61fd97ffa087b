use Rattle.std.proofs.Common.{◌≡◌, drop}
use Rattle.value_flows.specs.View.{program_of}
use Rattle.flow_batches.specs.Tested.{all_from, is_right}
use Rattle.flow_batches.proofs.standing.are_right.Given as goal

abbrev pub invariant-loop-x : goal.invariant-loop-x
invariant-loop-x l = all_from (is_right (program_of l.program)) l.x (drop l.x l.program.sites.items) ≡ all_from (is_right (program_of l.program)) 0 l.program.sites.items
