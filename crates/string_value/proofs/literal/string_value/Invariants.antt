use Rattle.std.proofs.Common.{◌≡◌, ◌++◌, length, flat_map}
use Rattle.string_value.specs.StringValue.{bytes_of, meanings, string_value}
use Rattle.string_value.proofs.literal.string_value.Given as goal

abbrev pub invariant-pieces : goal.invariant-pieces
invariant-pieces l = l.value.items ++ flat_map bytes_of (meanings 0 l.rest) ≡ string_value l.spelling

abbrev pub decreases-pieces : goal.decreases-pieces
decreases-pieces l = length l.rest
