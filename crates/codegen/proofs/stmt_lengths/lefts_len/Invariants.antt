use Rattle.std.proofs.Common.{◌≡◌, ◌+◌, drop, map}
use Rattle.typed.specs.View.{left_of}
use Rattle.program_code.specs.Code.{lefts_size}
use Rattle.codegen.proofs.stmt_lengths.lefts_len.Given as goal

abbrev pub invariant-loop-left : goal.invariant-loop-left
invariant-loop-left l = l.total + lefts_size (map left_of (drop l.left-index l.ls)) ≡ lefts_size (map left_of l.ls)
