use Rattle.std.proofs.Common.{◌≡◌, map, length}
use Rattle.std.specs.Option.{option_map}
use Rattle.std.specs.Vec.Iter.{into_iter_items, into_iter_len}
use Rattle.typed.specs.View.{ex_of}
use Rattle.given_values.specs.Given.{values}
use Rattle.given_values.specs.Passing.{seens}
use Rattle.type_faults.proofs.Lists.{joined}
use Rattle.given_values.proofs.values.values.Given as goal

abbrev pub invariant-loop-item : goal.invariant-loop-item
invariant-loop-item l =
    (values (seens l.fn.items.items) ≡ joined (option_map (λ v. map ex_of v.items) l.values) (values (seens (into_iter_items l.item-iterator))))
    × (into_iter_len l.item-iterator ≡ length (into_iter_items l.item-iterator))
