use Rattle.std.proofs.Common.{◌≡◌, drop}
use Rattle.std.specs.Prelude.{◌&&◌}
use Rattle.given_values.specs.Given.{are_single}
use Rattle.given_values.specs.Passing.{seens}
use Rattle.given_values.proofs.values.are_single.Given as goal

abbrev pub invariant-loop-item : goal.invariant-loop-item
invariant-loop-item l = are_single (seens l.items) ≡ (l.all && are_single (seens (drop l.item-index l.items)))
