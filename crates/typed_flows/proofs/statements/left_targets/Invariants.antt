use Rattle.std.proofs.Common.{◌≡◌, ◌++◌, drop, map}
use Rattle.typed.specs.View.{left_of}
use Rattle.typed_flows.specs.Flows.{left_target}
use Rattle.typed_flows.proofs.statements.left_targets.Given as goal

abbrev pub invariant-loop-left : goal.invariant-loop-left
invariant-loop-left l = l.targets.items ++ map left_target (map left_of (drop l.left-index l.lefts)) ≡ map left_target (map left_of l.lefts)
