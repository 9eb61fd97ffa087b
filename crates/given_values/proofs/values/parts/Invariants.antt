use Rattle.std.proofs.Common.{◌≡◌, map, length}
use Rattle.std.specs.Option.{option_map}
use Rattle.std.specs.Vec.Iter.{into_iter_items, into_iter_len}
use Rattle.given_values.specs.Given.{parts}
use Rattle.given_values.specs.Passing.{part_view, seens}
use Rattle.type_faults.proofs.Lists.{joined}
use Rattle.given_values.proofs.values.parts.Given as goal

abbrev pub invariant-loop-item : goal.invariant-loop-item
invariant-loop-item l =
    (parts (seens l.fn.items.items) ≡ joined (option_map (λ v. map part_view v.items) l.parts) (parts (seens (into_iter_items l.item-iterator))))
    × (into_iter_len l.item-iterator ≡ length (into_iter_items l.item-iterator))
