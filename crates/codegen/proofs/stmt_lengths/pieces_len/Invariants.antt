use Rattle.std.proofs.Common.{◌≡◌, ◌+◌, drop, map}
use Rattle.typed.specs.View.{piece_of, program_of}
use Rattle.program_code.specs.Code.{pieces_size}
use Rattle.codegen.proofs.stmt_lengths.pieces_len.Given as goal

abbrev pub invariant-loop-p : goal.invariant-loop-p
invariant-loop-p l = l.total + pieces_size (program_of l.program) (map piece_of (drop l.p-index l.ps)) ≡ pieces_size (program_of l.program) (map piece_of l.ps)
