use Rattle.std.proofs.Common.{◌≡◌, ◌+◌, drop, map}
use Rattle.typed.specs.View.{left_of, program_of}
use Rattle.program_code.specs.Code.{lefts_sized}
use Rattle.codegen.proofs.stmt_lengths.ready_len.Given as goal

abbrev pub invariant-loop-left : goal.invariant-loop-left
invariant-loop-left l = lefts_sized (program_of l.program) (map left_of l.ls) 0 ≡ l.total + lefts_sized (program_of l.program) (map left_of (drop l.left-index l.ls)) 0
