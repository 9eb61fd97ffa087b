use Rattle.std.proofs.Common.{◌≡◌, ◌++◌, drop, length, map}
use Rattle.typed.specs.View.{piece_of, program_of}
use Rattle.program_code.specs.Code.{pieces_code}
use Rattle.expression_code.specs.Frame.{slots_in}
use Rattle.codegen.specs.Temps.{PiecesFitIn}
use Rattle.codegen.proofs.shown.emit_operands.Given as goal

abbrev pub invariant-loop-p : goal.invariant-loop-p
invariant-loop-p l =
    (l.fn.code.items ++ pieces_code (program_of l.program) (slots_in l.program l.frame) (map piece_of l.ps) l.h (length l.fn.code.items)
    ≡ l.code.items ++ pieces_code (program_of l.program) (slots_in l.program l.frame) (map piece_of (drop l.p-index l.ps)) l.next (length l.code.items))
    × PiecesFitIn (program_of l.program) (slots_in l.program l.frame) l.frame.sites l.next (map piece_of (drop l.p-index l.ps))
