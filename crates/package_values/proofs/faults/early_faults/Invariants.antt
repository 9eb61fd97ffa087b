use Rattle.std.proofs.Common.{drop}
use Rattle.syntax.specs.Expressions.{exs_of}
use Rattle.type_faults.proofs.Leasts.{Kept}
use Rattle.given_values.specs.Passing.{seens}
use Rattle.package_values.specs.ValueFaults.{EarlyFail}
use Rattle.package_values.proofs.faults.early_faults.Given as goal

abbrev pub invariant-loop-index : goal.invariant-loop-index
invariant-loop-index l = Kept (EarlyFail (exs_of l.values) (seens l.items)) (EarlyFail (exs_of (drop l.index l.values)) (seens (drop l.index l.items))) l.fault
