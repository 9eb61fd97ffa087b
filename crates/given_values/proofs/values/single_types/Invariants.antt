use Rattle.std.proofs.Common.{◌≡◌, drop}
use Rattle.std.specs.Option.{option_map}
use Rattle.given_values.specs.Given.{single_types}
use Rattle.given_values.specs.Passing.{seens}
use Rattle.type_faults.proofs.Lists.{joined}
use Rattle.given_values.proofs.values.single_types.Given as goal

abbrev pub invariant-loop-item : goal.invariant-loop-item
invariant-loop-item l = single_types (seens l.items) ≡ joined (option_map (λ v. v.items) l.types) (single_types (seens (drop l.item-index l.items)))
