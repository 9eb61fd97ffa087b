use Rattle.std.proofs.Common.{◌≡◌, map, length}
use Rattle.std.specs.Option.{option_map}
use Rattle.std.specs.Vec.Iter.{into_iter_items, into_iter_len}
use Rattle.type_faults.proofs.Lists.{joined}
use Rattle.operand_parts.specs.LiteralValues.{part_values}
use Rattle.operand_parts.specs.Passing.{placeds, part_value_of}
use Rattle.operand_parts.proofs.literal_values.part_values.Given as goal

abbrev pub invariant-loop-element : goal.invariant-loop-element
invariant-loop-element l =
    (part_values (placeds l.fn.placed.items) ≡ joined (option_map (λ v. map part_value_of v.items) l.values) (part_values (placeds (into_iter_items l.element-iterator))))
    × (into_iter_len l.element-iterator ≡ length (into_iter_items l.element-iterator))
