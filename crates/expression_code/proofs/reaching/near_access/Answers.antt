use Rattle.std.proofs.Common.{arith}
use Rattle.typed.specs.View.{place_of, program_of}
use Rattle.program_code.proofs.Rooms.{place_from}
use Rattle.expression_code.proofs.reaching.near_access.Goals as goal

pub temp-requires : goal.temp-requires
temp-requires c = let least = place_from (program_of c.args.program.now) c.args.first (place_of c.args.place.now) in omega (arith, least, c.requires.operands, c.requires.frame.0)
