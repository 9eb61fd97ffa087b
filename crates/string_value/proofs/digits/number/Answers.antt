use Rattle.std.proofs.Common.{arith}
use Rattle.std.proofs.lemmas.List.{length-take-le}
use Rattle.string_value.proofs.Room.{has_room}
use Rattle.string_value.proofs.digits.number.Goals as goal

pub with_digit-number-requires-clause-small : goal.with_digit-number-requires-clause-small
with_digit-number-requires-clause-small c =
    has_room c.loop-b.number c.loop-b.b-index c.loop-b.invariant.small (omega (arith, length-take-le c.args.count c.args.rest.now (omega arith)))
