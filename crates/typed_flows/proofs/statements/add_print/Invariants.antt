use Rattle.std.proofs.Common.{◌≡◌, ◌++◌, drop, map}
use Rattle.typed.specs.View.{piece_of, program_of}
use Rattle.value_flows.specs.View.{val_of}
use Rattle.typed_flows.specs.Flows.{pieces_values}
use Rattle.typed_flows.proofs.statements.add_print.Given as goal

abbrev pub invariant-loop-piece : goal.invariant-loop-piece
invariant-loop-piece l =
    map val_of l.all.items ++ pieces_values (program_of l.context.program.now) (map piece_of (drop l.piece-index l.pieces))
    ≡ pieces_values (program_of l.context.program.now) (map piece_of l.pieces)
