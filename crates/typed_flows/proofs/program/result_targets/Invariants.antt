use Rattle.std.proofs.Common.{◌≡◌, ◌++◌, drop, map}
use Rattle.value_flows.specs.View.{result_of}
use Rattle.typed_flows.specs.Flows.{result_targets}
use Rattle.typed_flows.proofs.program.result_targets.Given as goal

abbrev pub invariant-loop-j : goal.invariant-loop-j
invariant-loop-j l =
    l.targets.items ++ result_targets l.f.0 l.j (map result_of (drop l.j l.results)) ≡ result_targets l.f.0 0 (map result_of l.results)
